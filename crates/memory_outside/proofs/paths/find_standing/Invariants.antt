use Rattle.std.proofs.Common.{◌≡◌, drop}
use Rattle.memory_outside.specs.MemoryHost.{standing_at}
use Rattle.memory_outside.proofs.paths.find_standing.Given as goal

abbrev pub invariant-loop-entry : goal.invariant-loop-entry
invariant-loop-entry l = standing_at (drop l.entry-index l.paths) l.path ≡ standing_at l.paths l.path
