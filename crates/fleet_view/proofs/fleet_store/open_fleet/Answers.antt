use Rattle.std.proofs.Common.{◌∙◌, ap}
use Rattle.fleet_view.specs.Members.{members_of}
use Rattle.fleet_view.proofs.Answered.{counted}
use Rattle.fleet_view.proofs.fleet_store.open_fleet.Goals as goal

pub returns-clause-counted : goal.returns-clause-counted
returns-clause-counted g c = counted c.in_ok-fleet.fleet.members c.in_ok-store.store.rows (c.in_ok-fleet.ensures ∙ ap members_of c.rows.ensures.rows)
