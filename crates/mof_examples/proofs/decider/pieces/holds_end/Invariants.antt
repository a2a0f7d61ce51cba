use Rattle.std.proofs.Common.{length}
use Rattle.mof_examples.proofs.decider.pieces.holds_end.Given as goal

abbrev pub decreases-loop-left : goal.decreases-loop-left
decreases-loop-left l = length l.left
