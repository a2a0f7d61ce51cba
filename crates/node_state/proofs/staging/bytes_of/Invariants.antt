use Rattle.std.proofs.Common.{◌≡◌, ◌+◌, length}
use Rattle.node_state.specs.Lists.{bytes_of}
use Rattle.node_state.proofs.staging.bytes_of.Given as goal

abbrev pub invariant-loop-left : goal.invariant-loop-left
invariant-loop-left l = l.bytes + bytes_of l.left ≡ bytes_of l.parts

abbrev pub decreases-loop-left : goal.decreases-loop-left
decreases-loop-left l = length l.left
