use Rattle.std.proofs.Common.{◌≡◌, ◌++◌, length}
use Rattle.node_pull.specs.Names.{asked_of}
use Rattle.node_pull.proofs.names.asked_of.Given as goal

abbrev pub invariant-loop-left : goal.invariant-loop-left
invariant-loop-left l = asked_of l.meta l.names ≡ l.asked.items ++ asked_of l.meta l.left

abbrev pub decreases-loop-left : goal.decreases-loop-left
decreases-loop-left l = length l.left
