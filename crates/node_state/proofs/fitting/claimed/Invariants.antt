use Rattle.std.proofs.Common.{◌≡◌, length}
use Rattle.node_state.specs.Fits.{claimed}
use Rattle.node_state.proofs.Claims.{type_or}
use Rattle.node_state.proofs.fitting.claimed.Given as goal

abbrev pub invariant-loop-left : goal.invariant-loop-left
invariant-loop-left l = claimed l.claim ≡ type_or l.left l.after

abbrev pub decreases-loop-left : goal.decreases-loop-left
decreases-loop-left l = length l.left
