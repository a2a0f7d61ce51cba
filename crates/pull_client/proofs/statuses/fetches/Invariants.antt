use Rattle.std.proofs.Common.{◌≡◌, length}
use Rattle.pull_client.specs.Queries.{after_earlier, fetches}
use Rattle.pull_client.proofs.statuses.fetches.Given as goal

abbrev pub invariant-loop-left : goal.invariant-loop-left
invariant-loop-left l = fetches l.only l.answer l.held l.names ≡ after_earlier l.fetched.items (fetches l.only l.answer l.held l.left)

abbrev pub decreases-loop-left : goal.decreases-loop-left
decreases-loop-left l = length l.left
