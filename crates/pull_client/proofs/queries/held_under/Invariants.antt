use Rattle.std.proofs.Common.{◌≡◌, length}
use Rattle.pull_client.specs.Queries.{held_under}
use Rattle.pull_client.proofs.queries.held_under.Given as goal

abbrev pub invariant-loop-left : goal.invariant-loop-left
invariant-loop-left l = held_under l.held l.name ≡ held_under l.left l.name

abbrev pub decreases-loop-left : goal.decreases-loop-left
decreases-loop-left l = length l.left
