use Rattle.std.proofs.Common.{◌≤◌, length, take}
use Rattle.node_store.specs.Digests.{texts_of}
use Rattle.node_store.specs.Growing.{AllAmong, KeepsAll}
use Rattle.node_store.proofs.Lacking.{TextsSoFar}
use Rattle.node_store.proofs.blobs.Blobs.choose_parts.Given as goal

abbrev pub invariant-loop-left : goal.invariant-loop-left
invariant-loop-left l = record {
  so_far : TextsSoFar (take l.front l.initial.self) (take l.chosen l.self) (texts_of l.parts) (texts_of l.left) l.apart;
  within : l.chosen ≤ length l.self;
  keeps : KeepsAll l.initial.self l.self;
  there : AllAmong l.initial.self (texts_of l.left);
}

abbrev pub decreases-loop-left : goal.decreases-loop-left
decreases-loop-left l = length l.left
