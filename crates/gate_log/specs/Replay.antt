-- What an opening hands to the layer above, body by body, and where the first failure of a store stands.
use Rattle.std.specs.Prelude.{ℕ, ◌≡◌, ◌+◌, ◌<◌, Bool, false, List, [], ◌∷◌, ◌++◌, length, IfSome, IsSomeAnd, Result, Ok, Err}
use Rattle.dsc_outside.specs.declared.disk.Disk.{Ghosts}
use Rattle.dsc_terms.specs.Counts.{Rose}
use Rattle.dsc_outside.specs.Disk.{Only, Still}
use Rattle.gate_log.specs.declared.shape.Shape.{Shape}
use Rattle.gate_log.specs.declared.error.LogError.{LogError}
use Rattle.gate_log.specs.declared.error.LogError.TheVariants.{Disk, NotAStore, Memory}
use Rattle.gate_log.specs.declared.replay.TakeError.{TakeError}
use Rattle.gate_log.specs.declared.replay.TakeError.TheVariants as take
use Rattle.gate_log.specs.Text.{Gives, IsLive, HasCells, FailsAt, wrong_magic, wrong_bank, end_of}
use Rattle.gate_log.specs.Log.{LogTerm, IsLogOf}
use Rattle.gate_log.specs.Bytes.{Opens}

-- what an answer of take says, after these bodies
abbrev pub Taken : {T : Type 0} → (List (List ℕ) → Type 0) → (List (List ℕ) → List ℕ → Type 0) → List (List ℕ) → List ℕ → Result T TakeError → Type 0
Taken Took Refused bodies body (Ok v) = Took (bodies ++ body ∷ [])
Taken Took Refused bodies body (Err take.Refused) = Refused bodies body
Taken Took Refused bodies body (Err take.Memory) = Unit {0}

-- the bodies in front of the byte where the grammar fails
abbrev pub bodies_before : {shape : Shape} {image : List ℕ} {at : ℕ} → FailsAt shape image at → List (List ℕ)
bodies_before (wrong_magic at less there front wrong) = []
bodies_before (wrong_bank second at live fails) = fails.bodies

-- The first failure of an image, in the order of its bytes: the grammar fails at this place and all bodies in front of it
-- were taken, or a body was refused whose first byte stands there, and those in front of it were taken.
pub data FailsFirst (shape : Shape) (Took : List (List ℕ) → Type 0) (Refused : List (List ℕ) → List ℕ → Type 0) (image : List ℕ) : ℕ → Type 0 where
  no_text : (at : ℕ) (fails : FailsAt shape image at) → Took (bodies_before fails) → FailsFirst shape Took Refused image at
  no_meaning : (second : Bool) (front : List (List ℕ)) (body : List ℕ) → IsLive second image → HasCells shape second image (front ++ body ∷ []) → Refused front body
      → FailsFirst shape Took Refused image (end_of shape second front + 5)

-- an image of more than nine bytes fails first at this place
pub record IsRefused (shape : Shape) (Took : List (List ℕ) → Type 0) (Refused : List (List ℕ) → List ℕ → Type 0) (image : List ℕ) (at : ℕ) : Type 0 where
  pub long : 9 < length image
  pub fails : FailsFirst shape Took Refused image at

-- what an opening that ended well gives: the log is of the disk with these bodies, all of them were taken, and the disk read as
-- them; it now reads as a new store, or without what stood after the closed gate, and a crash leaves that
pub record Opened {D : Type 0} (d : Ghosts D) (old new : D) (shape : Shape) (Took : List (List ℕ) → Type 0) (log : LogTerm) : Type 0 where
  pub found : List (List ℕ)
  pub took : Took found
  pub same_shape : log.shape ≡ shape
  pub spent : log.spent ≡ false
  pub of : IsLogOf d new log found
  pub gave : IfSome (d.shown old) (λ held. Gives shape held found)
  pub bytes : IfSome (d.shown old) (λ held. IsSomeAnd (d.shown new) (Opens log.closed held))
  pub only : Only (d.shown new) (d.images new)

-- the cause of NotAStore, whose file is as it was
pub record NotOpened {D : Type 0} (d : Ghosts D) (old new : D) (shape : Shape) (Took : List (List ℕ) → Type 0) (Refused : List (List ℕ) → List ℕ → Type 0) (at : ℕ) : Type 0 where
  pub refused : IfSome (d.shown old) (λ held. IsRefused shape Took Refused held at)
  pub still : Still d.shown d.images d.moment d.left_since old new

-- the cause of an opening's error
abbrev pub Unopened : {D : Type 0} → Ghosts D → D → D → Shape → (List (List ℕ) → Type 0) → (List (List ℕ) → List ℕ → Type 0) → LogError → Type 0
Unopened d old new shape Took Refused Disk = Rose (d.faults old) (d.faults new)
Unopened d old new shape Took Refused (NotAStore at) = NotOpened d old new shape Took Refused at
Unopened d old new shape Took Refused Memory = Unit {0}
