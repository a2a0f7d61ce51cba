use Rattle.std.proofs.Common.{sym, subst, arith}
use Rattle.std.proofs.lemmas.Int.{ints, to_z-of_z}
use mir.Val.{SFits}
use mir.Syntax.{w128}
use Rattle.mof_syntax.specs.Limits.{IsInRange}
use Rattle.mof_codec.proofs.IntegersRead.{reads_integer, lacks_integer, lacks_integer_outside}
use Rattle.mof_codec.proofs.values.integers.integer.Goals as goal

pub returns-in_err-rest-clause-none : goal.returns-in_err-rest-clause-none
returns-in_err-rest-clause-none c =
    rw c.from_residual.ensures
    (lacks_integer _ _ c.separators_rest-left.ensures.stands _ c.sign_rest-digits.ensures c.separators_rest-left.ensures.stops (sym c.in_err-rest.ensures))

pub returns-in_err-value-clause-none : goal.returns-in_err-value-clause-none
returns-in_err-value-clause-none c =
    rw c.from_residual-in_err-value.ensures (lacks_integer_outside _ _ c.separators_rest-left.ensures.stands _ c.sign_rest-digits.ensures
    c.separators_rest-left.ensures.stops _ _ c.is_negative.ensures c.magnitude.ensures c.in_err-value.ensures.none)

pub returns-clause-some : goal.returns-clause-some
returns-clause-some c =
    let range : IsInRange c.in_ok-value.value = subst IsInRange (sym c.in_ok-value.ensures.some.0) c.in_ok-value.ensures.some.1 in
    let fits : SFits w128 c.in_ok-value.value = omega (arith, ints, range.0, range.1) in
    rw (to_z-of_z w128 _ fits) (reads_integer _ _ c.separators_rest-left.ensures.stands _ c.sign_rest-digits.ensures _ _ _ _ c.is_negative.ensures c.in_ok-rest.ensures c.magnitude.ensures
    c.in_ok-value.ensures.some.0 c.in_ok-value.ensures.some.1)
