use Rattle.fleet_view.proofs.Beside.{fleet_answers_beside}
use Rattle.fleet_view.specs.FleetReplies.{AsksFleet, FleetReplies}
use Rattle.pull_serving.proofs.Alone.{runs_alone}
use Rattle.fleet_view.proofs.laws.fleet_runs_leave_agents_alone.Goals as goal

pub returns : goal.returns
returns c = runs_alone FleetReplies AsksFleet fleet_answers_beside
