use Rattle.std.proofs.Common.{◌≡◌, ◌++◌, length, map}
use Rattle.meta_config.specs.Writing.{text_scalar}
use Rattle.meta_config.proofs.writing.scalars_of.Given as goal

abbrev pub invariant-loop-left : goal.invariant-loop-left
invariant-loop-left l = l.scalars.items ++ map text_scalar l.left ≡ map text_scalar l.texts

abbrev pub decreases-loop-left : goal.decreases-loop-left
decreases-loop-left l = length l.left
