-- Bodies that are written one after the other: what they leave, and what the calls answer.
use Rattle.std.specs.Prelude.{◌≡◌, ℕ, ◌+◌, ◌≤◌, max, Bool, true, false, not, List, [], ◌∷◌, ◌++◌, length, None, Result, Ok, Err, OnOk}
use Rattle.dsc_outside.specs.declared.disk.Disk.{Ghosts}
use Rattle.dsc_terms.specs.Counts.{Rose}
use Rattle.gate_log.specs.declared.shape.Shape.{Shape}
use Rattle.gate_log.specs.declared.error.LogError.{LogError}
use Rattle.gate_log.specs.declared.error.LogError.TheVariants.{Disk, NotAStore, Memory}
use Rattle.gate_log.specs.Text.{Gives, begin, cells, need_of}
use Rattle.gate_log.specs.Log.{LogTerm, IsLogOf, AtAnyMoment, OldOrNew, capacity_in, grown}

-- the first of some bodies was spelled, and the others are left; or there is none
abbrev pub SpellsNext : List (List ℕ) → List (List ℕ) → List ℕ → Bool → Type 0
SpellsNext old new body true = old ≡ body ∷ new
SpellsNext old new body false = old ≡ []

-- ---- appended

-- these bodies were appended, one after the other
abbrev pub grown_by : LogTerm → List (List ℕ) → LogTerm
grown_by log [] = log
grown_by log (body ∷ bodies) = grown_by (grown log (need_of body)) bodies

-- an image gives these bodies, and after them the first of those that are added: none, some or all
pub record GivesFront (shape : Shape) (bodies more : List (List ℕ)) (image : List ℕ) : Type 0 where
  pub front : List (List ℕ)
  pub rest : List (List ℕ)
  pub is : more ≡ front ++ rest
  pub gives : Gives shape image (bodies ++ front)

-- what an answer of append_all says
abbrev pub AppendedAll : {T : Type 0} → LogTerm → List (List ℕ) → ℕ → ℕ → Result T LogError → LogTerm → Type 0
AppendedAll old more before after (Ok v) new = new ≡ grown_by old more
AppendedAll old more before after (Err Disk) new = Rose before after × (new.spent ≡ true)
AppendedAll old more before after (Err (NotAStore at)) new = ⊥
AppendedAll old more before after (Err Memory) new = ⊥

-- after Ok the log has its bodies and these after them
abbrev pub AddsBodies : {T D : Type 0} → Ghosts D → D → D → LogTerm → LogTerm → List (List ℕ) → Result T LogError → Type 0
AddsBodies d before now old new more result =
    (bodies : List (List ℕ)) → IsLogOf d before old bodies → OnOk result (IsLogOf d now new (bodies ++ more))

-- a crash at any moment leaves the bodies with the first of these after them: none, some or all
abbrev pub LeavesFront : {D : Type 0} → Ghosts D → D → D → LogTerm → List (List ℕ) → Type 0
LeavesFront d before now old more =
    (bodies : List (List ℕ)) → IsLogOf d before old bodies → AtAnyMoment d before now (GivesFront old.shape bodies more)

-- ---- in place of all others

-- the other bank is live with these bodies; the file ends where it did, or within that bank
pub record RewrittenTo (old : LogTerm) (whole : List (List ℕ)) (new : LogTerm) : Type 0 where
  pub shape : new.shape ≡ old.shape
  pub second : new.second ≡ not old.second
  pub spent : new.spent ≡ false
  pub filled : new.filled ≡ None
  pub capacity : capacity_in new + length (cells whole) + 1 ≡ old.shape.bank
  pub long : new.long ≤ max old.long (begin old.shape (not old.second) + old.shape.bank)

-- what an answer of rewrite_all says
abbrev pub Rewritten : {T : Type 0} → LogTerm → List (List ℕ) → ℕ → ℕ → Result T LogError → LogTerm → Type 0
Rewritten old whole before after (Ok v) new = RewrittenTo old whole new
Rewritten old whole before after (Err Disk) new = Rose before after × (new.spent ≡ true)
Rewritten old whole before after (Err (NotAStore at)) new = ⊥
Rewritten old whole before after (Err Memory) new = ⊥

-- after Ok the log has these bodies in place of all that it had
abbrev pub TakesBodies : {T E D : Type 0} → Ghosts D → D → D → LogTerm → LogTerm → List (List ℕ) → Result T E → Type 0
TakesBodies d before now old new whole result =
    (bodies : List (List ℕ)) → IsLogOf d before old bodies → OnOk result (IsLogOf d now new whole)

-- a crash at any moment leaves the bodies that the log had, or these
abbrev pub LeavesOldOrThese : {D : Type 0} → Ghosts D → D → D → LogTerm → List (List ℕ) → Type 0
LeavesOldOrThese d before now old whole =
    (bodies : List (List ℕ)) → IsLogOf d before old bodies → AtAnyMoment d before now (OldOrNew old.shape bodies whole)
