-- The count of faults after a run.
use Rattle.std.specs.Prelude.{ℕ, Result, Ok, Err}
use Rattle.dsc_outside.specs.Causes.{one_more}
use Rattle.command_kind.specs.declared.spawner.SpawnError.{SpawnError}
use Rattle.command_kind.specs.declared.spawner.SpawnError.TheVariants.{Failed, Memory}

-- one more where the run failed
abbrev pub fault_count : ℕ → Result ℕ SpawnError → ℕ
fault_count before (Ok status) = before
fault_count before (Err Failed) = one_more before
fault_count before (Err Memory) = before
