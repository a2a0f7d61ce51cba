use Rattle.std.proofs.Common.{rules, ◌≡◌, Bool, true, false, sym, ◌∙◌}
use Rattle.mof_codec.proofs.Stepping.{ends_with}
use Rattle.mof_codec.proofs.ScalarSearch.{scalar_found, scalar_on, scalar_stuck, scalar_end, scalar_last}
use Rattle.mof_codec.proofs.Truths.{clash}
use Rattle.mof_codec.proofs.refusing.scalar.first_scalar.Goals as goal

pub returns-then-stands-clause-some : goal.returns-then-stands-clause-some
returns-then-stands-clause-some c = rw c.place_of.ensures (scalar_found _ _ _ _ c.loop-c.invariant.1 (c.stands.ensures.0 c.if-stands.true))

pub place_of-requires : goal.place_of-requires
place_of-requires c = ends_with _ _ _ c.loop-c.invariant.1.stepped

pub returns-in_default-step-clause-none : goal.returns-in_default-step-clause-none
returns-in_default-step-clause-none c = λ at s. absurd (scalar_stuck _ _ _ _ _ _ c.loop-c.invariant.1 c.in-Some.ensures.some (sym c.in_default-step.is ∙ c.step.ensures) c.requires)

pub loop-c-preserved : goal.loop-c-preserved
loop-c-preserved c =
    (search rules, scalar_on _ _ _ _ _ _ c.in-Some-step.next c.loop-c.invariant.1 (λ h. clash (c.stands.ensures.1 h) c.if-stands.false) c.in-Some.ensures.some (sym c.in-Some-step.is ∙ c.step.ensures))

pub returns-then-stands-2-clause-some : goal.returns-then-stands-2-clause-some
returns-then-stands-2-clause-some c = rw c.char_count.ensures (scalar_last _ _ _ _ c.loop-c.invariant.1 c.in_default.ensures.none (c.stands-2.ensures.0 c.if-stands-2.true))

pub returns-clause-none : goal.returns-clause-none
returns-clause-none c = scalar_end _ _ _ _ c.loop-c.invariant.1 c.in_default.ensures.none (λ h. clash (c.stands-2.ensures.1 h) c.if-stands-2.false)
