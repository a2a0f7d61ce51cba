use Rattle.std.proofs.Common.{◌≡◌, map, take}
use Rattle.fleet_view.specs.Members.{member_of}
use Rattle.fleet_view.proofs.fleet.Fleet.of.Given as goal

abbrev pub invariant-loop-row : goal.invariant-loop-row
invariant-loop-row l = l.fleet.members ≡ map member_of (take l.row-index l.rows)
