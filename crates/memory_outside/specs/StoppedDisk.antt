-- A disk in memory that stops in a call of several things together.
use Rattle.std.specs.Prelude.{◌≡◌, List, ℕ, Bool, ◌||◌, if◌then◌else◌, Result, is_ok}
use Rattle.memory_outside.specs.MemoryDisk.{DiskInMemory, Goes, outcome_of, part_left, state_of}
use Rattle.memory_outside.specs.ReliableDisk.{IsReliable}
use Rattle.memory_outside.specs.SharedStop.{Follows, course_at, has_come, met_at}
use Rattle.memory_outside.specs.StoppedHost.{HostToStop}
use Rattle.memory_outside.specs.declared.disk_calls.DiskCall.{DiskCall}
use Rattle.memory_outside.specs.declared.disk_calls.DiskPart.{DiskPart}
use Rattle.memory_outside.specs.declared.disk_calls.DiskPart.TheVariants as parts
use Rattle.memory_outside.specs.declared.shared_stop.Turn.{Turn}
use Rattle.memory_outside.specs.declared.shared_stop.Turn.TheVariants as turns
use Rattle.memory_outside.specs.declared.stop.Done.TheVariants as dones

pub record DiskToStop : Type 0 where
  pub disk : DiskInMemory
  -- how its last call lies to the stop
  pub turn : Turn

-- until the stop it is a disk that fails for memory alone
abbrev pub StopsAlone : DiskInMemory → Turn → Type 0
StopsAlone disk turn = turn ≡ turns.Before → IsReliable disk

-- the disk as a call of that turn meets it
abbrev pub met : Turn → DiskInMemory → DiskInMemory
met turn disk = record disk { count = met_at turn dones.All disk.count }

-- before the stop the call is done, or memory ran out for it; one that the stop comes in fails, and what it began counts
-- among the changes of which the stop leaves a part; after the stop each fails, and nothing is done
pub record MeetsCall {A E : Type 0} (call : DiskCall) (old : DiskToStop) (result : Result A E) (new : DiskToStop) : Type 0 where
  pub order : Follows old.turn new.turn
  pub goes : Goes (outcome_of (course_at new.turn dones.All)) call (met new.turn old.disk) (is_ok result) new.disk

-- where a start was stopped, that part of the changes since the last sync is left, and otherwise all of them
abbrev pub part_if : Bool → DiskPart → DiskPart
part_if stopped part = if stopped then part else parts.Whole

-- the stop has come in a call of the disk or of the host, or before one
abbrev pub is_stopped : DiskToStop → HostToStop → Bool
is_stopped disk host = has_come disk.turn || has_come host.turn

-- what the next start finds
abbrev pub left_of : DiskToStop → HostToStop → DiskPart → List ℕ
left_of disk host part = part_left (part_if (is_stopped disk host) part) (state_of disk.disk)
