use Rattle.std.proofs.Common.{arith, sym, subst, ◌∙◌, drop, drop-drop, inl, inr}
use Rattle.http_frames.specs.Heads.{IsAnswerHeadOf}
use Rattle.http_frames.specs.Answering.{Passes, no_more}
use Rattle.http_frames.proofs.Interim.{passes_on, head_length}
use Rattle.http_frames.proofs.PassedOn.{passed_on}
use Rattle.http_frames.proofs.answer.last_head.Goals as goal

pub heads-init : goal.heads-init
heads-init c = record { fits = omega arith; passes = no_more c.args.bytes.now }

pub heads-smaller : goal.heads-smaller
heads-smaller c =
    let e = rw c.in-Some.is at c.in_ok-head.ensures in
    let some = head_length _ c.in-Some.head e.head in
    omega (arith, some.0, some.1, c.split_at.ensures.back_len, c.heads.invariant.fits)

pub heads-preserved : goal.heads-preserved
heads-preserved c =
    let e = rw c.in-Some.is at c.in_ok-head.ensures in
    let some = head_length _ c.in-Some.head e.head in
    record {
      fits = omega (arith, some.1, c.split_at.ensures.back_len, c.heads.invariant.fits);
      passes = subst (Passes c.args.bytes.now) (drop-drop c.in-Some.head.length c.heads.at c.args.bytes.now)
          (passes_on c.args.bytes.now (drop c.heads.at c.args.bytes.now) c.in-Some.head c.heads.invariant.passes
          (subst (λ rest. IsAnswerHeadOf rest c.in-Some.head) c.split_at.ensures.back e.head)
          (sym c.is_interim.ensures ∙ c.if-not-is_interim.false));
    }

pub returns-in_err-head-clause-refused : goal.returns-in_err-head-clause-refused
returns-in_err-head-clause-refused c = rw (passed_on c.in_err-head.field-0.0 c.from_residual.result c.from_residual.ensures.1)
    (inr (inr (inl (_, subst (Passes c.args.bytes.now) (sym c.split_at.ensures.back) c.heads.invariant.passes, c.in_err-head.ensures.refused))))
