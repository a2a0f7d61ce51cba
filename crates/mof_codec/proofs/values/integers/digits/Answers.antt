use Rattle.std.proofs.Common.{rules}
use Rattle.mof_codec.proofs.DigitsRead.{digits_next, told_digit}
use Rattle.mof_codec.proofs.values.integers.digits.Goals as goal

pub loop-c-preserved : goal.loop-c-preserved
loop-c-preserved c = (
  search rules,
  digits_next _ _ _ _ _ _ _ c.requires.least c.loop-c.invariant.1 c.in-Some.ensures.some (told_digit _ c.in-Some.c c.in-Some-to_digit.ensures.value.0)
      (rw (← c.in-Some-to_digit.ensures.value.1) c.capped-value.ensures.same) c.capped-value.ensures.most,
)
