-- What the calls of a log do with the bodies that it has on a disk, whichever these are. A call takes the disk and the log
-- from the values before it to those after it.
use Rattle.std.specs.Prelude.{ℕ, List, [], ◌∷◌, ◌++◌, Result, OnOk}
use Rattle.dsc_outside.specs.declared.disk.Disk.{Ghosts}
use Rattle.gate_log.specs.declared.error.LogError.{LogError}
use Rattle.gate_log.specs.Text.{Gives, IsLive}
use Rattle.gate_log.specs.Log.{LogTerm, IsLogOf, HasPutOn, AtAnyMoment, BeforeOrAfter, OldOrNew}

-- ---- an append

-- after Ok the log has its bodies and this one after them
abbrev pub AddsBody : {T D : Type 0} → Ghosts D → D → D → LogTerm → LogTerm → List ℕ → Result T LogError → Type 0
AddsBody d before now old new body result =
    (bodies : List (List ℕ)) → IsLogOf d before old bodies → OnOk result (IsLogOf d now new (bodies ++ body ∷ []))

-- a crash at any moment leaves the bodies with this one after them or without it
abbrev pub LeavesWithOrWithout : {D : Type 0} → Ghosts D → D → D → LogTerm → List ℕ → Type 0
LeavesWithOrWithout d before now old body =
    (bodies : List (List ℕ)) → IsLogOf d before old bodies → AtAnyMoment d before now (BeforeOrAfter old.shape bodies body)

-- a crash at any moment leaves the log's bank live
abbrev pub StaysInBank : {D : Type 0} → Ghosts D → D → D → LogTerm → Type 0
StaysInBank d before now old =
    (bodies : List (List ℕ)) → IsLogOf d before old bodies → AtAnyMoment d before now (IsLive old.second)

-- ---- a rewrite

-- after Ok the log has the bodies that it had
abbrev pub KeepsBodies : {T D : Type 0} → Ghosts D → D → D → LogTerm → LogTerm → Result T LogError → Type 0
KeepsBodies d before now old new result =
    (bodies : List (List ℕ)) → IsLogOf d before old bodies → OnOk result (IsLogOf d now new bodies)

-- after Ok this body stands after those that were put
abbrev pub PutsBody : {T D : Type 0} → Ghosts D → D → D → LogTerm → LogTerm → List ℕ → Result T LogError → Type 0
PutsBody d before now old new body result =
    (put : List (List ℕ)) → HasPutOn d before old put → OnOk result (HasPutOn d now new (put ++ body ∷ []))

-- a crash at any moment leaves the bodies that the log had
abbrev pub LeavesBodies : {D : Type 0} → Ghosts D → D → D → LogTerm → Type 0
LeavesBodies d before now old =
    (bodies : List (List ℕ)) → IsLogOf d before old bodies → AtAnyMoment d before now (λ c. Gives old.shape c bodies)

-- after Ok the log has the bodies that were put
abbrev pub TakesPut : {T D : Type 0} → Ghosts D → D → D → LogTerm → LogTerm → Result T LogError → Type 0
TakesPut d before now old new result =
    (bodies put : List (List ℕ)) → IsLogOf d before old bodies → HasPutOn d before old put → OnOk result (IsLogOf d now new put)

-- a crash at any moment leaves the old bodies or those that were put
abbrev pub LeavesOldOrPut : {D : Type 0} → Ghosts D → D → D → LogTerm → Type 0
LeavesOldOrPut d before now old =
    (bodies put : List (List ℕ)) → IsLogOf d before old bodies → HasPutOn d before old put
    → AtAnyMoment d before now (OldOrNew old.shape bodies put)
