-- A log, the disk that it is of, and what its calls answer.
use Rattle.std.specs.Prelude.{◌≡◌, ◌⊎◌, ℕ, ◌+◌, ◌-◌, ◌<◌, ◌≤◌, max, Bool, true, false, not, List, [], ◌∷◌, ◌++◌, length, Option, Some, None, IfSome, Result, Ok, Err}
use Rattle.dsc_outside.specs.declared.disk.Disk.{Ghosts}
use Rattle.dsc_terms.specs.Counts.{Rose}
use Rattle.dsc_outside.specs.Disk.{Each, AnyMoment}
use Rattle.gate_log.specs.declared.shape.Shape.{Shape}
use Rattle.gate_log.specs.declared.error.LogError.{LogError}
use Rattle.gate_log.specs.declared.error.LogError.TheVariants.{Disk, NotAStore, Memory}
use Rattle.gate_log.specs.Text.{Gives, IsText, Holds, AllFit, FailsAt, need_of, begin, end_of, cells}

-- what contracts see of a log
pub record LogTerm : Type 0 where
  pub shape : Shape
  -- the second bank is live
  pub second : Bool
  -- the place of the live bank's closed gate
  pub closed : ℕ
  -- the disk's length
  pub long : ℕ
  -- a call answered Disk
  pub spent : Bool
  -- up to where the other bank is filled, where a rewrite is begun
  pub filled : Option ℕ

-- Every image has the log's bank live with these bodies and its closed gate, and the log keeps the disk's length. Over a disk
-- that does not show this says nothing.
pub record IsOf (shown : Option (List ℕ)) (images : List ℕ → Type 0) (log : LogTerm) (bodies : List (List ℕ)) : Type 0 where
  pub each : Each images (λ c. IsText log.shape log.second log.closed c bodies)
  pub long : IfSome shown (λ held. log.long ≡ length held)

-- A rewrite is begun, and the cells of these bodies stand in the other bank up to the kept place, as the disk reads.
pub record HasPut (shown : Option (List ℕ)) (log : LogTerm) (bodies : List (List ℕ)) : Type 0 where
  pub filled : log.filled ≡ Some (end_of log.shape (not log.second) bodies)
  pub within : length (cells bodies) + 1 ≤ log.shape.bank
  pub fit : AllFit log.shape.largest bodies
  pub holds : IfSome shown (Holds (begin log.shape (not log.second)) (cells bodies))

abbrev pub IsLogOf : {D : Type 0} → Ghosts D → D → LogTerm → List (List ℕ) → Type 0
IsLogOf d disk log bodies = IsOf (d.shown disk) (d.images disk) log bodies

abbrev pub HasPutOn : {D : Type 0} → Ghosts D → D → LogTerm → List (List ℕ) → Type 0
HasPutOn d disk log bodies = HasPut (d.shown disk) log bodies

-- the log is of the disk with some bodies, or it is spent
abbrev pub IsReady : {D : Type 0} → Ghosts D → D → LogTerm → Type 0
IsReady {D} d disk log = (log.spent ≡ true) ⊎ ((bodies : List (List ℕ)) × IsLogOf d disk log bodies)

-- every image at a moment since old has P
abbrev pub AtAnyMoment : {D : Type 0} → Ghosts D → D → D → (List ℕ → Type 0) → Type 0
AtAnyMoment d old new P = AnyMoment d.moment d.left_since old new P

-- with one body more or without it
abbrev pub BeforeOrAfter : Shape → List (List ℕ) → List ℕ → List ℕ → Type 0
BeforeOrAfter shape bodies body image = Gives shape image bodies ⊎ Gives shape image (bodies ++ body ∷ [])

-- the one list or the other
abbrev pub OldOrNew : Shape → List (List ℕ) → List (List ℕ) → List ℕ → Type 0
OldOrNew shape old new image = Gives shape image old ⊎ Gives shape image new

-- what an image gave it still gives
abbrev pub Keeps : Shape → List ℕ → List ℕ → Type 0
Keeps shape old new = (bodies : List (List ℕ)) → Gives shape old bodies → Gives shape new bodies

-- the bytes left in the live bank after its closed gate
abbrev pub capacity_in : LogTerm → ℕ
capacity_in log = begin log.shape log.second + log.shape.bank - (log.closed + 1)

-- the bytes left in the other bank, but one for its gate
abbrev pub left_after : Shape → Bool → Option ℕ → ℕ
left_after shape second None = 0
left_after shape second (Some at) = begin shape (not second) + shape.bank - (at + 1)

abbrev pub capacity_to_put : LogTerm → ℕ
capacity_to_put log = left_after log.shape log.second log.filled

-- a body was appended
abbrev pub grown : LogTerm → ℕ → LogTerm
grown log need = record log { closed = log.closed + need; long = max log.long (log.closed + 1 + need); spent = false; filled = None }

-- a call answered Disk
abbrev pub spoilt : LogTerm → LogTerm
spoilt log = record log { spent = true }

-- a rewrite is begun
abbrev pub begun : LogTerm → LogTerm
begun log = record log { filled = Some (begin log.shape (not log.second)) }

-- what an answer of append says, with the disk's count before and after
abbrev pub Appended : {T : Type 0} → LogTerm → List ℕ → ℕ → ℕ → Result T LogError → LogTerm → Type 0
Appended old body before after (Ok v) new = new ≡ grown old (need_of body)
Appended old body before after (Err Disk) new = Rose before after × (new ≡ spoilt old)
Appended old body before after (Err (NotAStore at)) new = ⊥
Appended old body before after (Err Memory) new = ⊥

-- a body was put: the live bank is as it was, and the file ends where it did, or within the other bank
pub record PutMore (old : LogTerm) (body : List ℕ) (new : LogTerm) : Type 0 where
  pub shape : new.shape ≡ old.shape
  pub second : new.second ≡ old.second
  pub closed : new.closed ≡ old.closed
  pub spent : new.spent ≡ false
  pub capacity : capacity_to_put new + need_of body ≡ capacity_to_put old
  pub long : new.long ≤ max old.long (begin old.shape (not old.second) + old.shape.bank)

-- what an answer of put says
abbrev pub Put : {T : Type 0} → LogTerm → List ℕ → ℕ → ℕ → Result T LogError → LogTerm → Type 0
Put old body before after (Ok v) new = PutMore old body new
Put old body before after (Err Disk) new = Rose before after × (new ≡ spoilt old)
Put old body before after (Err (NotAStore at)) new = ⊥
Put old body before after (Err Memory) new = ⊥

-- the other bank is live, with the capacity that was left there; the file ends where it did, or within that bank
pub record Switched (old new : LogTerm) : Type 0 where
  pub shape : new.shape ≡ old.shape
  pub second : new.second ≡ not old.second
  pub spent : new.spent ≡ false
  pub filled : new.filled ≡ None
  pub capacity : capacity_in new ≡ capacity_to_put old
  pub long : new.long ≤ max old.long (begin old.shape (not old.second) + old.shape.bank)

-- what an answer of finish_rewrite says
abbrev pub Finished : {T : Type 0} → LogTerm → ℕ → ℕ → Result T LogError → LogTerm → Type 0
Finished old before after (Ok v) new = Switched old new
Finished old before after (Err Disk) new = Rose before after × (new ≡ spoilt old)
Finished old before after (Err (NotAStore at)) new = ⊥
Finished old before after (Err Memory) new = ⊥

-- a log that was opened, its closed gate at the disk's end
abbrev pub log_at : Shape → Bool → ℕ → LogTerm
log_at shape second closed = record { shape = shape; second = second; closed = closed; long = closed + 1; spent = false; filled = None }

-- the grammar fails here, in an image of more than nine bytes
pub record IsNoStore (shape : Shape) (image : List ℕ) (at : ℕ) : Type 0 where
  pub long : 9 < length image
  pub fails : FailsAt shape image at
