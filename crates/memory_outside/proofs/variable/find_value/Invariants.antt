use Rattle.std.proofs.Common.{◌≡◌, drop}
use Rattle.memory_outside.specs.MemoryHost.{value_of}
use Rattle.memory_outside.proofs.variable.find_value.Given as goal

abbrev pub invariant-loop-variable : goal.invariant-loop-variable
invariant-loop-variable l = value_of (drop l.variable-index l.variables) l.name ≡ value_of l.variables l.name
