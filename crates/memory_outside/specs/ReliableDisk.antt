-- A disk in memory none of whose calls fails but for memory.
use Rattle.std.specs.Prelude.{◌≡◌, List, ℕ, [], None, false, Result, is_ok}
use Rattle.memory_outside.specs.Memory.{NoneIsToFail}
use Rattle.memory_outside.specs.MemoryDisk.{DiskInMemory, Goes, new_disk}
use Rattle.memory_outside.specs.declared.disk_calls.CallOutcome.TheVariants as outcomes
use Rattle.memory_outside.specs.declared.disk_calls.DiskCall.{DiskCall}

-- no call is to fail, and where memory lasted, none has
pub record IsReliable (disk : DiskInMemory) : Type 0 where
  pub none : NoneIsToFail disk.count
  pub lasted : disk.short ≡ false → disk.count.faults ≡ 0

-- before the first call: a disk of these bytes, all of them synced
abbrev pub fresh_disk : List ℕ → DiskInMemory
fresh_disk bytes = new_disk bytes [] None

-- the call is done, or memory ran out for it
abbrev pub DoesCall : {A E : Type 0} → DiskCall → DiskInMemory → Result A E → DiskInMemory → Type 0
DoesCall call old result new = Goes outcomes.Done call old (is_ok result) new
