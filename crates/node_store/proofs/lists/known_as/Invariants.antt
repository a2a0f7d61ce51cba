use Rattle.std.proofs.Common.{length}
use Rattle.node_store.proofs.KnownLists.{SearchedLists}
use Rattle.node_store.proofs.lists.known_as.Given as goal

abbrev pub invariant-loop-left : goal.invariant-loop-left
invariant-loop-left l = SearchedLists l.lists l.left

abbrev pub decreases-loop-left : goal.decreases-loop-left
decreases-loop-left l = length l.left
