use Rattle.std.proofs.Common.{◌≡◌, take}
use Rattle.store_lines.specs.Gauges.{standings_of}
use Rattle.store_lines.proofs.standing.standings_of.Given as goal

abbrev pub invariant-loop-row : goal.invariant-loop-row
invariant-loop-row l = l.standings.items ≡ standings_of l.since (take l.row-index l.rows)
