use Rattle.std.proofs.Common.{◌≡◌, ◌+◌, length}
use Rattle.std.specs.List.{prefix_len}
use Rattle.node_state.specs.Fits.{is_inside}
use Rattle.node_state.proofs.fitting.inside_len.Given as goal

abbrev pub invariant-loop-left : goal.invariant-loop-left
invariant-loop-left l = (l.len + prefix_len is_inside l.left ≡ prefix_len is_inside l.chars) × (l.len + length l.left ≡ length l.chars)

abbrev pub decreases-loop-left : goal.decreases-loop-left
decreases-loop-left l = length l.left
