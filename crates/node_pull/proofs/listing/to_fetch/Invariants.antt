use Rattle.std.proofs.Common.{◌≡◌, ◌++◌, length}
use Rattle.node_pull.specs.Contents.{to_fetch}
use Rattle.node_pull.proofs.listing.to_fetch.Given as goal

abbrev pub invariant-loop-left : goal.invariant-loop-left
invariant-loop-left l = to_fetch l.names l.fetches ≡ l.wanted.items ++ to_fetch l.left l.answers

abbrev pub decreases-loop-left : goal.decreases-loop-left
decreases-loop-left l = length l.left
