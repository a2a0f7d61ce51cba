use Rattle.std.proofs.Common.{take}
use Rattle.node_store.specs.Digests.{IsAmong}
use Rattle.node_store.specs.Growing.{bytes_in}
use Rattle.node_store.proofs.blobs.place_in.Given as goal

abbrev pub invariant-loop-place : goal.invariant-loop-place
invariant-loop-place l = IsAmong (bytes_in (take l.place l.list)) l.part.bytes → ⊥
