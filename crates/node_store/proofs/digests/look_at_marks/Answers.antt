use Rattle.std.proofs.Common.{List, All, take, sym, subst, arith, get_or}
use Rattle.std.proofs.lemmas.List.{take_all, take_more}
use Rattle.std.proofs.lemmas.List.Elements.{All-push}
use Rattle.store_fields.specs.Fields.{IsDigest}
use Rattle.report_log.specs.declared.report.PartMark.{PartMark}
use Rattle.node_store.proofs.digests.look_at_marks.Goals as goal

abbrev HasDigest : PartMark → Type 0
HasDigest mark = IsDigest mark.digest

pub loop-mark-preserved : goal.loop-mark-preserved
loop-mark-preserved c =
    let marks = c.args.marks.now in
    let i = c.loop-mark.mark-index in
    let mark = c.mark-item.result in
    subst (λ (l : List PartMark). All HasDigest l) (sym (take_more marks i mark c.loop-mark-test.true))
    (All-push HasDigest (take i marks) (get_or marks i mark) c.loop-mark.invariant (subst HasDigest c.mark-item.is c.look_at.ensures))

pub returns : goal.returns
returns c =
    subst (λ (l : List PartMark). All HasDigest l) (take_all c.loop-mark.mark-index c.args.marks.now (omega (arith, c.loop-mark-test.false))) c.loop-mark.invariant
