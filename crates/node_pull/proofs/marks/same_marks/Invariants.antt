use Rattle.std.proofs.Common.{◌≡◌, length}
use Rattle.node_pull.specs.Marks.{same_marks}
use Rattle.node_pull.proofs.marks.same_marks.Given as goal

abbrev pub invariant-loop-left : goal.invariant-loop-left
invariant-loop-left l = same_marks l.others l.parts ≡ same_marks l.left l.right

abbrev pub decreases-loop-left : goal.decreases-loop-left
decreases-loop-left l = length l.left
