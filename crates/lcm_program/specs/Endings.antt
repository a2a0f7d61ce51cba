-- How a command ends that was refused, or that started the node.
use Rattle.std.specs.Prelude.{◌≡◌, ◌⊎◌, ℕ, List, [], ◌++◌, Option, Some, None}
use Rattle.dsc_outside.specs.declared.ends.Ends.{Ghosts}
use Rattle.dsc_node.specs.declared.status.Status.{Status}
use Rattle.dsc_node.specs.declared.status.Status.TheVariants.{InputRefused, ReadFault, WriteFault, Memory}
use Rattle.lcm_program.specs.declared.input.Unread.{Unread}
use Rattle.lcm_program.specs.declared.input.Unread.TheVariants as unread
use Rattle.lcm_program.specs.Printed.{Holds, IsCutShort, PrintsFront}
use Rattle.lcm_program.specs.Refusal.{line_of, reason_of}

-- memory ran out, and nothing is printed
abbrev pub EndsSilent : {K : Type 0} → Status → K → K → Type 0
EndsSilent status old new = (status ≡ Memory) × (new ≡ old)

-- ---- a start that ended so, with these lines

-- it was refused: the lines and after them that of the refusal are printed, or a part from their front where the output failed; its
-- status stays
abbrev pub RefusedEnds : {K : Type 0} → Ghosts K → Status → List ℕ → List ℕ → Status → K → K → Type 0
RefusedEnds sink ended lines reason status old new =
    ((status ≡ ended) × PrintsFront sink (lines ++ line_of reason) old new) ⊎ EndsSilent status old new

-- it was not: the lines are printed, or a part from their front, and WriteFault comes in place of its status, where the output failed
abbrev pub OtherEnds : {K : Type 0} → Ghosts K → Status → List ℕ → Status → K → K → Type 0
OtherEnds sink Memory lines status old new = EndsSilent status old new
OtherEnds sink ended lines status old new =
    ((status ≡ ended) × Holds sink lines old new) ⊎ ((status ≡ WriteFault) × IsCutShort sink lines old new)

abbrev pub EndsBy : {K : Type 0} → Ghosts K → Status → List ℕ → Option (List ℕ) → Status → K → K → Type 0
EndsBy sink ended lines (Some reason) status old new = RefusedEnds sink ended lines reason status old new
EndsBy sink ended lines None status old new = OtherEnds sink ended lines status old new

abbrev pub StartEnds : {K : Type 0} → Ghosts K → Status → List ℕ → Status → K → K → Type 0
StartEnds sink ended lines status old new = EndsBy sink ended lines (reason_of ended) status old new

-- ---- a command that ended before it did anything

-- it has no line but that of the refusal
abbrev pub RefusalEnds : {K : Type 0} → Ghosts K → Status → Status → K → K → Type 0
RefusalEnds sink ended status old new = StartEnds sink ended [] status old new

-- the status of an input that was not read
abbrev pub unread_status : Unread → Status
unread_status (unread.Refused error) = InputRefused error
unread_status unread.ReadFault = ReadFault
unread_status unread.Memory = Memory

abbrev pub UnreadEnds : {K : Type 0} → Ghosts K → Unread → Status → K → K → Type 0
UnreadEnds sink unread status old new = RefusalEnds sink (unread_status unread) status old new
