use Rattle.std.proofs.Common.{◌≡◌, false, length, rules, sym, true}
use Rattle.std.specs.Prelude.{◌==◌}
use Rattle.config_script.proofs.Stepping.{empty_chars, full_chars, left_shorter}
use Rattle.config_script.proofs.Taken.{begins, cut, goes_on, stuck, tears, whole}
use Rattle.config_script.proofs.read.read.Goals as goal

pub loop-left-init : goal.loop-left-init
loop-left-init c =
    (search rules, begins _ _ _ _ _ c.separators_rest-fed.ensures.fed c.separators_rest-fed.ensures.rest c.new-reading.ensures)

pub loop-left-preserved : goal.loop-left-preserved
loop-left-preserved c = (
  search rules,
  goes_on _ _ _ _ _ _ c.loop-left.invariant.1 _ _ _ _ _ _ (sym c.in-Some.ensures) (sym c.in-Some-after.ensures)
      c.separators_rest.ensures.fed c.separators_rest.ensures.rest c.in_ok-take.ensures,
)

pub loop-left-smaller : goal.loop-left-smaller
loop-left-smaller c = left_shorter _ _ _ _ (sym c.in-Some.ensures) c.separators_rest.ensures.rest

pub returns-in_default-clause-none : goal.returns-in_default-clause-none
returns-in_default-clause-none c =
    let full : (length c.loop-left.left.now == 0) ≡ false = cc in
    tears _ _ _ _ _ _ c.loop-left.invariant.1 (full_chars c.loop-left.left.now c.loop-left.invariant.0 full) (sym c.in_default.ensures)

pub returns-in_default-after-clause-none : goal.returns-in_default-after-clause-none
returns-in_default-after-clause-none c = stuck _ _ _ _ _ _ c.loop-left.invariant.1 _ _ (sym c.in-Some.ensures) (sym c.in_default-after.ensures)

pub returns-in-End-clause-some : goal.returns-in-End-clause-some
returns-in-End-clause-some c =
    let empty : (length c.loop-left.left.now == 0) ≡ true = cc in
    whole _ _ _ _ _ _ c.loop-left.invariant.1 (empty_chars c.loop-left.left.now empty) c.in-End.is

pub returns : goal.returns
returns c =
    let empty : (length c.loop-left.left.now == 0) ≡ true = cc in
    record { some = tt; none = cut _ _ _ _ _ _ c.loop-left.invariant.1 (empty_chars c.loop-left.left.now empty) c.in_default-place.not-End }
