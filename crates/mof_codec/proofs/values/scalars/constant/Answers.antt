use Rattle.std.proofs.Common.{arith}
use Rattle.std.proofs.lemmas.Int.{ints, to_z-of_z}
use mir.Val.{SFits}
use mir.Syntax.{w128}
use Rattle.mof_codec.proofs.Options.{of_some, of_none}
use Rattle.mof_codec.proofs.Parts.{reads_after, lacks_after}
use Rattle.mof_codec.proofs.ConstantsRead.{reads_text, reads_number, reads_name, reads_true, reads_false, reads_null, lacks_constant}
use Rattle.mof_codec.proofs.values.scalars.constant.Goals as goal

pub returns-in-Some-clause-some : goal.returns-in-Some-clause-some
returns-in-Some-clause-some c =
    reads_after _ _ _ _ _ _ c.separators_rest-left.ensures.stands (reads_text _ _ _ (of_some _ _ _ c.in-Some.is c.in_ok-text.ensures.some))

pub returns-in-Some-integer-clause-some : goal.returns-in-Some-integer-clause-some
returns-in-Some-integer-clause-some c =
    let read = c.in-Some-integer.ensures.some in
    let range = read.fits in
    let fits : SFits w128 c.in-Some-integer.value = omega (arith, ints, range.0, range.1) in
    rw (to_z-of_z w128 _ fits) (reads_after _ _ _ _ _ _ c.separators_rest-left.ensures.stands (reads_number _ _ _ read))

pub returns-in-Some-2-clause-some : goal.returns-in-Some-2-clause-some
returns-in-Some-2-clause-some c =
    reads_after _ _ _ _ _ _ c.separators_rest-left.ensures.stands (reads_name _ _ _ (of_some _ _ _ c.in-Some-2.is c.in_ok-name.ensures.some))

pub returns-in-Some-keyword-clause-some : goal.returns-in-Some-keyword-clause-some
returns-in-Some-keyword-clause-some c =
    reads_after _ _ _ _ _ _ c.separators_rest-left.ensures.stands (reads_true _ _ c.in-Some-keyword.ensures.some)

pub returns-in-Some-keyword-2-clause-some : goal.returns-in-Some-keyword-2-clause-some
returns-in-Some-keyword-2-clause-some c =
    reads_after _ _ _ _ _ _ c.separators_rest-left.ensures.stands (reads_false _ _ c.in-Some-keyword-2.ensures.some)

pub returns-in-Some-keyword-3-clause-some : goal.returns-in-Some-keyword-3-clause-some
returns-in-Some-keyword-3-clause-some c =
    reads_after _ _ _ _ _ _ c.separators_rest-left.ensures.stands (reads_null _ _ c.in-Some-keyword-3.ensures.some)

pub returns-clause-none : goal.returns-clause-none
returns-clause-none c =
    lacks_after _ _ _ _ c.separators_rest-left.ensures.stands
    (lacks_constant _ (of_none _ _ c.in_default.is c.in_ok-text.ensures.none) c.in_default-integer.ensures.none (of_none _ _ c.in_default-2.is c.in_ok-name.ensures.none)
    c.in_default-keyword.ensures.none c.in_default-keyword-2.ensures.none c.in_default-keyword-3.ensures.none)
