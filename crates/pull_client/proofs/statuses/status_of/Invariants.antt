use Rattle.std.proofs.Common.{◌≡◌, length}
use Rattle.pull_client.specs.Queries.{status_in}
use Rattle.pull_client.proofs.statuses.status_of.Given as goal

abbrev pub invariant-loop-details : goal.invariant-loop-details
invariant-loop-details l = status_in l.only l.answer.node l.name l.answer.details ≡ status_in l.only l.answer.node l.name l.details

abbrev pub decreases-loop-details : goal.decreases-loop-details
decreases-loop-details l = length l.details
