-- What the server prints: a line for each connection, and one for a refusal.
use Rattle.std.specs.Prelude.{◌≡◌, ℕ, ◌≤◌, ◌<◌, suc, true, false, List, [], ◌∷◌, ◌++◌, length, codes, Option}
use Rattle.std.specs.Io.KnownBytes.{Appends}
use Rattle.std.specs.Fmt.{decimal}
use Rattle.dsc_terms.specs.Counts.{Rose}
use Rattle.dsc_outside.specs.declared.ends.Ends.{Ghosts}
use Rattle.dsc_outside.specs.Streams.{AppendsPart}
use Rattle.pull_exchange.specs.Exchange.{Writes}
use Rattle.pull_serving.specs.declared.connection.ConnectionEnd.{ConnectionEnd}
use Rattle.pull_serving.specs.declared.connection.ConnectionEnd.TheVariants as ends
use Rattle.pull_serving.specs.declared.status.ServeStatus.{ServeStatus}
use Rattle.pull_serving.specs.declared.status.ServeStatus.TheVariants as statuses
use Rattle.pull_store.specs.Store.{is_spent}
use Rattle.pull_serving.specs.Turn.{State, Turn}

-- how a connection ended
abbrev pub end_text : ConnectionEnd → List ℕ
end_text (ends.Answered code) = codes "answer " ++ decimal code
end_text ends.DiskFault = codes "disk fault"
end_text (ends.Torn at) = codes "torn " ++ decimal at
end_text ends.ReadFault = codes "read fault"
end_text ends.WriteFault = codes "write fault"
end_text ends.Memory = codes "memory"

-- the line of the connection with that number
abbrev pub line : ℕ → ConnectionEnd → List ℕ
line number end = decimal number ++ codes " " ++ end_text end ++ codes "\n"

-- the lines of connections, from that number on
abbrev pub lines : ℕ → List Turn → List ℕ
lines number [] = []
lines number (t ∷ ts) = line number t.end ++ lines (suc number) ts

-- the line of a refusal; where it ran out of memory, or writing failed, there is none
abbrev pub refusal_line : ServeStatus → List ℕ
refusal_line statuses.Done = []
refusal_line statuses.Usage = codes "refused Usage\n"
refusal_line (statuses.NotAStore at) = codes "refused NotAStore " ++ decimal at ++ codes "\n"
refusal_line statuses.DiskFault = codes "refused DiskFault\n"
refusal_line statuses.DoorFault = codes "refused DoorFault\n"
refusal_line statuses.WriteFault = []
refusal_line statuses.Memory = []

-- ---- the output

-- what is known of the output: what it took, where it shows that, and its count of faults
pub record Output : Type 0 where
  pub held : Option (List ℕ)
  pub faults : ℕ

abbrev pub output_of : {K : Type 0} → Ghosts K → K → Output
output_of ghosts output = record { held = ghosts.held output; faults = ghosts.faults output }

-- the lines of the turns were written whole, and then the line of the refusal
pub record Refuses (old new : Output) (turns : List Turn) (status : ServeStatus) : Type 0 where
  pub mid : Option (List ℕ)
  pub lines : Appends old.held mid (lines 1 turns)
  pub refusal : Writes mid new.held (refusal_line status) old.faults new.faults

-- the line of the last turn could not be written whole, but a part from its front
pub record IsCutOff (old new : Option (List ℕ)) (turns : List Turn) : Type 0 where
  pub done : List Turn
  pub last : Turn
  pub split : turns ≡ done ++ last ∷ []
  pub mid : Option (List ℕ)
  pub whole : Appends old mid (lines 1 done)
  pub part : AppendsPart mid new (line (suc (length done)) last.end)

-- what was printed of that many connections at most, and why the run ended so
abbrev pub Printed : ℕ → State → ℕ → ℕ → Output → Output → ServeStatus → List Turn → Type 0
Printed count last door_before door_now old new statuses.Done turns = (length turns ≡ count) × (is_spent last.store ≡ false) × Appends old.held new.held (lines 1 turns)
Printed count last door_before door_now old new statuses.DiskFault turns = (length turns ≤ count) × (is_spent last.store ≡ true) × Refuses old new turns statuses.DiskFault
Printed count last door_before door_now old new statuses.DoorFault turns =
    (length turns < count) × (is_spent last.store ≡ false) × Rose door_before door_now × Refuses old new turns statuses.DoorFault
Printed count last door_before door_now old new statuses.WriteFault turns = (length turns ≤ count) × Rose old.faults new.faults × IsCutOff old.held new.held turns
Printed count last door_before door_now old new statuses.Usage turns = ⊥
Printed count last door_before door_now old new (statuses.NotAStore at) turns = ⊥
Printed count last door_before door_now old new statuses.Memory turns = ⊥
