use Rattle.std.specs.Str.{chars}
use Rattle.mof_codec.proofs.Stepping.{stepped_none, stepped_on, stuck_at, all_read, end_wide, end_fault, ends_with}
use Rattle.std.proofs.Common.{rules, ◌≡◌, Bool, true, false, sym, ◌∙◌}
use Rattle.mof_codec.proofs.refusing.fault.fault.Goals as goal

pub loop-c-init : goal.loop-c-init
loop-c-init c = (c.utf8.text, stepped_none (chars c.args.text.now))

pub returns-in_default-step-clause-fault : goal.returns-in_default-step-clause-fault
returns-in_default-step-clause-fault c = rw c.place_of.ensures (stuck_at _ _ _ _ _ c.loop-c.invariant.1 c.in-Some.ensures.some (sym c.in_default-step.is ∙ c.step.ensures))

pub place_of-requires : goal.place_of-requires
place_of-requires c = ends_with _ _ _ c.loop-c.invariant.1

pub loop-c-preserved : goal.loop-c-preserved
loop-c-preserved c = (search rules, stepped_on _ _ _ _ _ c.in-Some-step.next c.loop-c.invariant.1 c.in-Some.ensures.some (sym c.in-Some-step.is ∙ c.step.ensures))

pub returns-then-is_end-clause-wide : goal.returns-then-is_end-clause-wide
returns-then-is_end-clause-wide c = end_wide _ _ (all_read _ _ _ c.loop-c.invariant.1 c.in_default.ensures.none) (c.is_end.ensures.0 c.if-is_end.true)

pub returns-clause-fault : goal.returns-clause-fault
returns-clause-fault c = rw c.char_count.ensures (end_fault _ _ (all_read _ _ _ c.loop-c.invariant.1 c.in_default.ensures.none) (λ w. clash (c.is_end.ensures.1 w) c.if-is_end.false))
  where
    clash : {b : Bool} → b ≡ true → b ≡ false → ⊥
    clash e f = cc
