use Rattle.std.proofs.Common.{◌≡◌, length}
use Rattle.dsc_node.specs.Sending.{first_unsent}
use Rattle.dsc_node.proofs.sending.first_unsent.Given as goal

abbrev pub invariant-loop-left : goal.invariant-loop-left
invariant-loop-left l = first_unsent l.reports ≡ first_unsent l.left

abbrev pub decreases-loop-left : goal.decreases-loop-left
decreases-loop-left l = length l.left
