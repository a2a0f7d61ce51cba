use Rattle.std.proofs.Common.{◌≡◌, ◌++◌, length, filter_map}
use Rattle.mof_values.specs.Values.{text_of_scalar}
use Rattle.meta_config.proofs.making.texts_in.Given as goal

abbrev pub invariant-loop-left : goal.invariant-loop-left
invariant-loop-left l = l.texts.items ++ filter_map text_of_scalar l.left ≡ filter_map text_of_scalar l.scalars

abbrev pub decreases-loop-left : goal.decreases-loop-left
decreases-loop-left l = length l.left
