use Rattle.node_pull.specs.Pulling.{not_listed}
use Rattle.node_pull.proofs.AcceptedParts.{pulled_accepted}
use Rattle.node_pull.proofs.PullRows.{accepted_of}
use Rattle.node_pull.proofs.GoingOn.{listed_goes_on, pulled_goes_on}
use Rattle.node_pull.proofs.pulling.pull.Goals as goal

pub returns-in-Ok-clause-accepted : goal.returns-in-Ok-clause-accepted
returns-in-Ok-clause-accepted g c = accepted_of _ c.brought.result (pulled_accepted (c.brought.ensures.pulled _ c.in-Ok.ensures.listed))

pub returns-in-Ok-clause-goes_on : goal.returns-in-Ok-clause-goes_on
returns-in-Ok-clause-goes_on g c = pulled_goes_on (c.brought.ensures.pulled _ c.in-Ok.ensures.listed)

pub returns-in-Err-clause-pulled : goal.returns-in-Err-clause-pulled
returns-in-Err-clause-pulled g c = rw c.error_of.ensures (not_listed _ _ _ c.in-Err.error c.in-Err.ensures.listed)

pub returns-in-Err-clause-goes_on : goal.returns-in-Err-clause-goes_on
returns-in-Err-clause-goes_on g c = listed_goes_on c.in-Err.ensures.listed
