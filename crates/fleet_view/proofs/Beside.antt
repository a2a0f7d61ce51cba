-- The fleet's targets leave the rows; any other request is answered by the table.
use Rattle.std.proofs.Common.{inl, inr}
use Rattle.pull_serving.proofs.Alone.{AnswersBeside}
use Rattle.fleet_view.specs.FleetReplies.{AsksFleet, FleetReplies, of_fleet, of_table}

pub fleet_answers_beside : AnswersBeside FleetReplies AsksFleet
fleet_answers_beside store contents request rose reply rows (of_fleet target is answered same) = inr ((target, is), same)
fleet_answers_beside store contents request rose reply rows (of_table none told) = inl told
