use Rattle.std.proofs.Common.{rules, List, ℕ, length, sym, ap, subst}
use Rattle.std.specs.Str.{chars}
use Rattle.std.proofs.lemmas.Bool.{eqb-true, eqb-false}
use Rattle.mof_syntax.proofs.Texts.{some_left, none_left}
use Rattle.config_script.specs.Fronts.{LongestFront}
use Rattle.config_script.specs.Scripts.{IsScript}
use Rattle.config_script.proofs.Texts.{empty_list}
use Rattle.config_script.proofs.Wrong.{first_place, next_place, next_shorter, onward_none, onward_stuck, onward_all}
use Rattle.config_script.proofs.shape.torn_rest.Goals as goal

pub loop-place-init : goal.loop-place-init
loop-place-init c =
    let h = first_place _ _ _ c.separators_rest-fed.ensures.fed c.separators_rest-fed.ensures.rest in
    (search rules, h.0, h.1)

pub returns-in_default : goal.returns-in_default
returns-in_default c = subst (λ (xs : List ℕ). LongestFront IsScript (chars c.args.text.now) xs) (sym c.front_rest.ensures)
    (onward_none _ _ _ _ c.loop-place.invariant.2 c.loop-place.invariant.1
    (λ e. some_left _ c.loop-place.invariant.0 (eqb-false _ _ (sym c.loop-place-test.ensures)) (ap length e)) (sym c.in_default.ensures))

pub returns-in_default-after : goal.returns-in_default-after
returns-in_default-after c = subst (λ (xs : List ℕ). LongestFront IsScript (chars c.args.text.now) xs) (sym c.front_rest-in_default-after.ensures)
    (onward_stuck _ _ _ _ _ _ c.loop-place.invariant.2 c.loop-place.invariant.1
    (λ e. some_left _ c.loop-place.invariant.0 (eqb-false _ _ (sym c.loop-place-test.ensures)) (ap length e))
    (sym c.in-Some.ensures) (sym c.in_default-after.ensures))

pub loop-place-smaller : goal.loop-place-smaller
loop-place-smaller c = next_shorter _ _ _ _ (sym c.in-Some.ensures) c.separators_rest.ensures.rest

pub loop-place-preserved : goal.loop-place-preserved
loop-place-preserved c =
    let h = next_place _ _ _ _ _ _ _ _ _ c.loop-place.invariant.2 (sym c.in-Some.ensures) (sym c.in-Some-after.ensures) c.separators_rest.ensures.fed
    c.separators_rest.ensures.rest in
    (search rules, h.0, h.1)

pub returns : goal.returns
returns c = onward_all _ _ _ _ c.loop-place.invariant.2 (empty_list _ (none_left _ (eqb-true _ _ (sym c.loop-place-test.ensures))))
