use Rattle.std.proofs.Common.{take}
use Rattle.memory_outside.specs.MemoryHost.{AreMissing}
use Rattle.memory_outside.proofs.paths.missing_above.Given as goal

abbrev pub invariant-loop-at : goal.invariant-loop-at
invariant-loop-at l = AreMissing (take l.at l.path) l.paths l.missing.items
