use Rattle.std.proofs.Common.{length}
use Rattle.node_store.proofs.Resolved.{NamedSoFar}
use Rattle.node_store.proofs.resolving.parts_named.Given as goal

abbrev pub invariant-loop-left : goal.invariant-loop-left
invariant-loop-left l = NamedSoFar l.blobs l.marks l.left l.parts.items

abbrev pub decreases-loop-left : goal.decreases-loop-left
decreases-loop-left l = length l.left
