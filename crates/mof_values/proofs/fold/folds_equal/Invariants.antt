use Rattle.std.proofs.Common.{◌↔◌, length}
use Rattle.mof_values.specs.Fold.{SameName}
use Rattle.mof_values.proofs.fold.folds_equal.Given as goal

abbrev pub invariant-loop-left : goal.invariant-loop-left
invariant-loop-left l = SameName l.a l.b ↔ SameName l.left l.right

abbrev pub decreases-loop-left : goal.decreases-loop-left
decreases-loop-left l = length l.left
