use Rattle.std.proofs.Common.{length}
use Rattle.node_store.proofs.Searched.{Narrows}
use Rattle.node_store.proofs.blobs.find_in.Given as goal

abbrev pub invariant-loop-left : goal.invariant-loop-left
invariant-loop-left l = Narrows l.list l.digest l.left

abbrev pub decreases-loop-left : goal.decreases-loop-left
decreases-loop-left l = length l.left
