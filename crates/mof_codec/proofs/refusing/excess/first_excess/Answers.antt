use Rattle.std.specs.Str.{chars}
use Rattle.std.proofs.Common.{rules, ◌≡◌, Bool, true, false, sym, ◌∙◌}
use Rattle.mof_codec.proofs.Stepping.{ends_with}
use Rattle.mof_codec.proofs.ExcessSearch.{searched_none, searched_on, found_at, stuck_none_at, stuck_wide_at, all_searched, end_none, end_count, end_parts, few}
use Rattle.mof_codec.proofs.Truths.{clash}
use Rattle.mof_codec.proofs.refusing.excess.first_excess.Goals as goal

pub loop-c-init : goal.loop-c-init
loop-c-init c = (c.utf8.text, searched_none (chars c.args.text.now))

pub returns-in_default-step-clause-none : goal.returns-in_default-step-clause-none
returns-in_default-step-clause-none c = stuck_none_at _ _ _ _ _ _ c.loop-c.invariant.1 c.in-Some.ensures.some (sym c.in_default-step.is ∙ c.step.ensures)

pub returns-in_default-step-clause-count : goal.returns-in_default-step-clause-count
returns-in_default-step-clause-count c = λ is w. absurd (stuck_wide_at _ _ _ _ _ _ c.loop-c.invariant.1 c.in-Some.ensures.some (sym c.in_default-step.is ∙ c.step.ensures) is w)

pub returns-in_default-step-clause-parts : goal.returns-in_default-step-clause-parts
returns-in_default-step-clause-parts c = λ is w. absurd (stuck_wide_at _ _ _ _ _ _ c.loop-c.invariant.1 c.in-Some.ensures.some (sym c.in_default-step.is ∙ c.step.ensures) is w)

pub returns-then-is_past-clause-some : goal.returns-then-is_past-clause-some
returns-then-is_past-clause-some c = rw c.place_of.ensures (found_at _ _ _ _ _ _ c.in-Some-step.next c.loop-c.invariant.1 c.in-Some.ensures.some (sym c.in-Some-step.is ∙ c.step.ensures) (c.is_past.ensures.0 c.if-is_past.true))

pub place_of-requires : goal.place_of-requires
place_of-requires c = ends_with _ _ _ c.loop-c.invariant.1.stepped

pub with-counts-requires-clause-declarations : goal.with-counts-requires-clause-declarations
with-counts-requires-clause-declarations c = (few _ _ _ _ c.loop-c.invariant.1).0

pub with-counts-requires-clause-properties : goal.with-counts-requires-clause-properties
with-counts-requires-clause-properties c = (few _ _ _ _ c.loop-c.invariant.1).1

pub with-counts-requires-clause-elements : goal.with-counts-requires-clause-elements
with-counts-requires-clause-elements c = (few _ _ _ _ c.loop-c.invariant.1).2

pub loop-c-preserved : goal.loop-c-preserved
loop-c-preserved c = (
  search rules,
  searched_on _ _ _ _ _ _ c.in-Some-step.next c.with-counts.result c.loop-c.invariant.1 c.in-Some.ensures.some (sym c.in-Some-step.is ∙ c.step.ensures)
      (λ p. clash (c.is_past.ensures.1 p) c.if-is_past.false) c.with-counts.ensures,
)

pub returns-clause-none : goal.returns-clause-none
returns-clause-none c = end_none _ _ _ (all_searched _ _ _ _ c.loop-c.invariant.1 c.in_default.ensures.none)

pub returns-clause-count : goal.returns-clause-count
returns-clause-count c = end_count _ _ _ (all_searched _ _ _ _ c.loop-c.invariant.1 c.in_default.ensures.none)

pub returns-clause-parts : goal.returns-clause-parts
returns-clause-parts c = end_parts _ _ _ (all_searched _ _ _ _ c.loop-c.invariant.1 c.in_default.ensures.none)
