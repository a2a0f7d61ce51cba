-- A disk in memory: its calls, what they have made of it, and what a stop leaves.
use Rattle.std.specs.Prelude.{◌≡◌, ◌⊎◌, ℕ, ◌+◌, ◌-◌, ◌≤◌, List, [], ◌∷◌, ◌++◌, Bool, true, false, Option, Some, None, Result, Ok, Err, length, take, drop, min, replicate, option_map, IsOk, IsErr, is_ok, ⊤}
use Rattle.dsc_outside.specs.Disk.{written}
use Rattle.dsc_outside.specs.Images.{DiskState, IsImage, after_cut, after_sync, after_write, settled}
use Rattle.memory_outside.specs.Memory.{CallCount, counted, course_of, unstarted, with_fault}
use Rattle.memory_outside.specs.declared.disk_calls.CallOutcome.{CallOutcome}
use Rattle.memory_outside.specs.declared.disk_calls.CallOutcome.TheVariants as outcomes
use Rattle.memory_outside.specs.declared.disk_calls.DiskCall.{DiskCall}
use Rattle.memory_outside.specs.declared.disk_calls.DiskCall.TheVariants as calls
use Rattle.memory_outside.specs.declared.disk_calls.DiskPart.{DiskPart}
use Rattle.memory_outside.specs.declared.disk_calls.DiskPart.TheVariants as parts
use Rattle.memory_outside.specs.declared.disk_calls.DiskStop.{DiskStop}
use Rattle.memory_outside.specs.declared.disk_calls.RecordedCall.{RecordedCall}
use Rattle.memory_outside.specs.declared.stop.Course.{Course}
use Rattle.memory_outside.specs.declared.stop.Course.TheVariants as courses
use Rattle.memory_outside.specs.declared.stop.Done.TheVariants as dones
use Rattle.memory_outside.specs.declared.stop.Stop.{Stop}

-- what the call makes of the bytes, where it is done
abbrev pub changed : DiskCall → List ℕ → List ℕ
changed (calls.WriteAt at bytes) held = written at bytes held
changed (calls.Cut to) held = take to held
changed call held = held

-- one that failed did nothing
abbrev pub bytes_after : CallOutcome → DiskCall → List ℕ → List ℕ
bytes_after outcomes.Done call held = changed call held
bytes_after outcomes.Failed call held = held
bytes_after outcomes.Stopped call held = changed call held

-- after a call that was begun: a write and a cut change the disk
abbrev pub after_begun : DiskCall → DiskState → DiskState
after_begun (calls.WriteAt at bytes) state = after_write at bytes state
after_begun (calls.Cut to) state = after_cut to state
after_begun call state = state

-- after a call that was done, which a sync is only then
abbrev pub after_done : DiskCall → DiskState → DiskState
after_done calls.Sync state = after_sync state
after_done call state = after_begun call state

-- the range that a call wrote, which began and is a write
abbrev pub range_of : CallOutcome → DiskCall → List (ℕ × ℕ)
range_of outcomes.Failed call = []
range_of outcome (calls.WriteAt at bytes) = (at, length bytes) ∷ []
range_of outcome call = []

-- the call is a sync that succeeded
abbrev pub is_done_sync : CallOutcome → DiskCall → Bool
is_done_sync outcomes.Done calls.Sync = true
is_done_sync outcome call = false

-- after a recorded call; one that failed did nothing
abbrev pub after_outcome : CallOutcome → DiskCall → DiskState → DiskState
after_outcome outcomes.Done call state = after_done call state
after_outcome outcomes.Failed call state = state
after_outcome outcomes.Stopped call state = after_begun call state

-- after the recorded calls, the oldest first
abbrev pub state_after : List RecordedCall → DiskState → DiskState
state_after [] state = state
state_after (entry ∷ entries) state = state_after entries (after_outcome entry.outcome entry.call state)

pub record DiskInMemory : Type 0 where
  -- the bytes that it was made of
  pub first : List ℕ
  -- the calls, the oldest first
  pub calls : List RecordedCall
  pub count : CallCount
  -- what the stop is to leave
  pub stop_part : DiskPart
  -- what is left of the changes since the last sync: all of them until the stop has come
  pub left : DiskPart
  -- a call ran out of memory for what the disk keeps of it
  pub short : Bool

abbrev pub state_of : DiskInMemory → DiskState
state_of disk = state_after disk.calls (settled disk.first)

-- what a read gives
abbrev pub held_by : DiskInMemory → List ℕ
held_by disk = (state_of disk).held

-- the same, as a clause of every disk takes it
abbrev pub exposed_bytes : DiskInMemory → Option (List ℕ)
exposed_bytes disk = Some (held_by disk)

-- the moment of a disk is the number of its calls
abbrev pub moment_of : DiskInMemory → ℕ
moment_of disk = length disk.calls

-- what a crash may leave
abbrev pub images_of : DiskInMemory → List ℕ → Type 0
images_of disk = IsImage (state_of disk)

-- the disk after that many of its calls
abbrev pub at_moment : ℕ → DiskInMemory → DiskState
at_moment k disk = state_after (take k disk.calls) (settled disk.first)

-- what a crash after one of the calls since that moment might have left
abbrev pub left_at : DiskInMemory → ℕ → List ℕ → Type 0
left_at disk t image = (k : ℕ) × (t ≤ k) × (k ≤ length disk.calls) × IsImage (at_moment k disk) image

-- the byte at each place of the range below the length
abbrev pub range_filled : ℕ → ℕ × ℕ → List ℕ → List ℕ
range_filled byte range held = take range.0 held ++ replicate (min range.1 (length held - range.0)) byte ++ drop (range.0 + range.1) held

-- in each of the ranges
abbrev pub filled : ℕ → List (ℕ × ℕ) → List ℕ → List ℕ
filled byte [] held = held
filled byte (range ∷ ranges) held = filled byte ranges (range_filled byte range held)

-- that part of the changes since the last sync
abbrev pub part_left : DiskPart → DiskState → List ℕ
part_left parts.Nothing state = state.synced
part_left parts.Whole state = state.held
part_left (parts.Filled byte) state = filled byte state.ranges state.held

-- what the next start finds: what the stop left, or what is held where none has come
abbrev pub left_by : DiskInMemory → List ℕ
left_by disk = part_left disk.left (state_of disk)

-- a stop as the calls count it
abbrev pub stop_of : Option DiskStop → Option Stop
stop_of = option_map (λ stop. record { call = stop.call; done = dones.All })

abbrev pub part_of_stop : Option DiskStop → DiskPart
part_of_stop None = parts.Whole
part_of_stop (Some stop) = stop.part

-- before the first call
abbrev pub new_disk : List ℕ → List ℕ → Option DiskStop → DiskInMemory
new_disk bytes failing stop = record {
  first = bytes;
  calls = [];
  count = unstarted failing (stop_of stop);
  stop_part = part_of_stop stop;
  left = parts.Whole;
  short = false;
}

abbrev pub outcome_of : Course → CallOutcome
outcome_of courses.Runs = outcomes.Done
outcome_of courses.Fails = outcomes.Failed
outcome_of courses.StopsHalf = outcomes.Stopped
outcome_of courses.StopsWhole = outcomes.Stopped

-- what is left of the changes: once the stop has come, its part
abbrev pub left_after : CallOutcome → DiskPart → DiskPart → DiskPart
left_after outcomes.Done left stop_part = left
left_after outcomes.Failed left stop_part = left
left_after outcomes.Stopped left stop_part = stop_part

-- a call was counted and recorded
abbrev pub recorded : DiskCall → CallOutcome → DiskInMemory → DiskInMemory
recorded call outcome old = record old {
  calls = old.calls ++ record { call = call; outcome = outcome } ∷ [];
  count = counted old.count;
  left = left_after outcome old.left old.stop_part;
}

-- a call was counted, and memory ran out for what the disk keeps of it
abbrev pub unrecorded : CallOutcome → DiskInMemory → DiskInMemory
unrecorded outcome old = record old { count = counted old.count; left = left_after outcome old.left old.stop_part; short = true }

-- what the call left: it is recorded, or memory ran out for that
abbrev pub Keeps : DiskCall → CallOutcome → DiskInMemory → DiskInMemory → Type 0
Keeps call outcome old new = (new ≡ recorded call outcome old) ⊎ (new ≡ unrecorded outcome old)

-- a call that is not to fail is done and recorded, and else fails for memory alone; one that is to fail fails
abbrev pub Goes : CallOutcome → DiskCall → DiskInMemory → (succeeded : Bool) → DiskInMemory → Type 0
Goes outcomes.Done call old true new = new ≡ recorded call outcomes.Done old
Goes outcomes.Done call old false new = new ≡ record (unrecorded outcomes.Done old) { count = with_fault (counted old.count) }
Goes outcomes.Failed call old true new = ⊥
Goes outcomes.Failed call old false new = Keeps call outcomes.Failed old new
Goes outcomes.Stopped call old true new = ⊥
Goes outcomes.Stopped call old false new = Keeps call outcomes.Stopped old new

-- the next call is this one, and that comes of it
abbrev pub TakesCall : {A E : Type 0} → DiskCall → DiskInMemory → Result A E → DiskInMemory → Type 0
TakesCall call old result new = Goes (outcome_of (course_of old.count)) call old (is_ok result) new

-- a call that is no change
abbrev pub Looks : DiskCall → Type 0
Looks (calls.WriteAt at bytes) = ⊥
Looks (calls.Cut to) = ⊥
Looks call = ⊤

-- the answer of a call that was tried, whether it reports that it ran out of memory, and the count
abbrev pub Settles : {E F : Type 0} → CallOutcome → Result (Unit {0}) F → Bool → CallCount → Result (Unit {0}) E → Bool → CallCount → Type 0
Settles outcomes.Done (Ok done) short count result short_after count_after = IsOk result × (short_after ≡ short) × (count_after ≡ count)
Settles outcomes.Done (Err error) short count result short_after count_after = IsErr result × (short_after ≡ true) × (count_after ≡ with_fault count)
Settles outcomes.Failed (Ok done) short count result short_after count_after = IsErr result × (short_after ≡ short) × (count_after ≡ count)
Settles outcomes.Failed (Err error) short count result short_after count_after = IsErr result × (short_after ≡ true) × (count_after ≡ count)
Settles outcomes.Stopped (Ok done) short count result short_after count_after = IsErr result × (short_after ≡ short) × (count_after ≡ count)
Settles outcomes.Stopped (Err error) short count result short_after count_after = IsErr result × (short_after ≡ true) × (count_after ≡ count)
