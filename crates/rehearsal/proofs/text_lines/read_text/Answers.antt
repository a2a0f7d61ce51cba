use Rattle.std.proofs.Common.{◌-◌, codes, drop, length, take, true≢false, sym, ap, ◌∙◌, arith}
use Rattle.std.proofs.lemmas.Grind.{common_steps}
use Rattle.std.proofs.lemmas.Slice.Eq.{bytes_eq-Decides}
use Rattle.rehearsal.proofs.Places.{rest_is, in_text, sliced, text_breaks, text_ends}
use Rattle.rehearsal.proofs.text_lines.read_text.Goals as goal

pub returns-then-eq-clause-ends : goal.returns-then-eq-clause-ends
returns-then-eq-clause-ends c =
    let bytes = c.args.bytes.now in
    let used = c.loop-used.used in
    let n = c.line_length-length.result in
    let rest = rest_is bytes used in
    let dot = (bytes_eq-Decides (take n (sliced bytes used)) c.as_slice.result.now).0 (sym c.eq.ensures ∙ c.if-eq.true) in
    text_ends bytes used c.loop-used.lines n c.after_line.result c.loop-used.invariant c.loop-used-test.true
    (rw rest at c.line_length-length.ensures.length) (ap (λ l. take n l) (sym rest) ∙ dot ∙ c.as_slice.ensures)
    c.after_line.ensures.same c.after_line.ensures.within c.after_line.ensures.feed c.after_line.ensures.last

pub loop-used-preserved : goal.loop-used-preserved
loop-used-preserved c =
    let bytes = c.args.bytes.now in
    let used = c.loop-used.used in
    let n = c.line_length-length.result in
    let rest = rest_is bytes used in
    in_text bytes used c.loop-used.lines n c.after_line-used.result c.loop-used.invariant c.loop-used-test.true
    (rw rest at c.line_length-length.ensures.length) (rw rest at c.line_length-length.ensures.within) (rw rest at c.in-Ok.ensures.cases.1)
    (λ same. true≢false (sym ((bytes_eq-Decides (take n (sliced bytes used)) c.as_slice.result.now).1 (ap (λ l. take n l) rest ∙ same ∙ sym c.as_slice.ensures)) ∙ sym c.eq.ensures ∙ c.if-eq.false))
    c.after_line-used.ensures.same c.after_line-used.ensures.feed c.after_line-used.ensures.last (rw rest at c.line_length-length.ensures.feed)

pub returns-in_default-clause-open : goal.returns-in_default-clause-open
returns-in_default-clause-open c =
    let bytes = c.args.bytes.now in
    let used = c.loop-used.used in
    let rest = rest_is bytes used in
    let bad = rw c.in_default.is at c.from_utf8.ensures.cases in (
      text_breaks bytes used c.loop-used.lines c.line_length-length.result c.loop-used.invariant c.loop-used-test.true (rw rest at c.line_length-length.ensures.length) (rw rest at bad.0),
      omega (arith, c.loop-used.invariant.few, c.loop-used.invariant.within),
    )
