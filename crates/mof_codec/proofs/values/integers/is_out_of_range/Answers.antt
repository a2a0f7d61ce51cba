use Rattle.mof_codec.proofs.IntegerFronts.{told_within, told_excess, told_none}
use Rattle.mof_codec.proofs.values.integers.is_out_of_range.Goals as goal

pub returns-in-Some-in_range : goal.returns-in-Some-in_range
returns-in-Some-in_range c = told_within _ _ c.sign_rest-digits.ensures _ c.is_negative.ensures _ c.magnitude.ensures c.in-Some-in_range.ensures.some.1

pub returns-in-None-in_range : goal.returns-in-None-in_range
returns-in-None-in_range c = told_excess _ _ c.sign_rest-digits.ensures _ c.is_negative.ensures _ c.magnitude.ensures _ c.in-Some.ensures c.in-None-in_range.ensures.none

pub returns-in-None : goal.returns-in-None
returns-in-None c = told_none _ _ c.sign_rest-digits.ensures c.in-None.ensures
