use Rattle.std.proofs.Common.{◌≡◌, length}
use Rattle.node_pull.specs.Marks.{same_parts}
use Rattle.node_pull.proofs.marks.same_parts.Given as goal

abbrev pub invariant-loop-left : goal.invariant-loop-left
invariant-loop-left l = same_parts l.others l.parts ≡ same_parts l.left l.right

abbrev pub decreases-loop-left : goal.decreases-loop-left
decreases-loop-left l = length l.left
