use Rattle.std.proofs.Common.{◌≡◌, ◌+◌, length}
use Rattle.node_state.specs.Fits.{taken_from}
use Rattle.node_state.proofs.fitting.first_taken.Given as goal

abbrev pub invariant-loop-left : goal.invariant-loop-left
invariant-loop-left l = record {
  count : l.place + length l.left ≡ length l.resources;
  same : taken_from l.partials l.parts 0 l.resources ≡ taken_from l.partials l.parts l.place l.left;
}

abbrev pub decreases-loop-left : goal.decreases-loop-left
decreases-loop-left l = length l.left
