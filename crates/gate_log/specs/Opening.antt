-- What the steps of an opening leave.
use Rattle.std.specs.Prelude.{◌≡◌, ℕ, ◌+◌, Bool, List, ◌∷◌, [], ◌++◌, Option, IfSome}
use Rattle.dsc_outside.specs.declared.disk.Disk.{Ghosts}
use Rattle.dsc_outside.specs.Disk.{Each, Still}
use Rattle.gate_log.specs.declared.shape.Shape.{Shape}
use Rattle.gate_log.specs.declared.error.LogError.{LogError}
use Rattle.gate_log.specs.declared.error.LogError.TheVariants.{Disk, NotAStore, Memory}
use Rattle.gate_log.specs.Text.{Gives, IsText, IsBank, HasCells, FailsInBank, FailsAt, end_of}
use Rattle.gate_log.specs.Replay.{bodies_before}
use Rattle.gate_log.specs.Steps.{ReadUpTo}

-- the grammar fails in front of all bodies
abbrev pub FailsInHead : Shape → List ℕ → ℕ → Type 0
FailsInHead shape image at = (fails : FailsAt shape image at) × (bodies_before fails ≡ [])

-- the bodies of a bank up to this place were read, and all of them were taken
pub record HandedUpTo (shape : Shape) (second : Bool) (shown : Option (List ℕ)) (Took : List (List ℕ) → Type 0) (at : ℕ) : Type 0 where
  pub bodies : List (List ℕ)
  pub took : Took bodies
  pub read : IfSome shown (λ held. ReadUpTo shape second at held bodies)

-- a bank holds these bodies and a closed gate at this place, and all of them were taken
pub record HandedOn (shape : Shape) (second : Bool) (shown : Option (List ℕ)) (Took : List (List ℕ) → Type 0) (closed : ℕ) : Type 0 where
  pub found : List (List ℕ)
  pub took : Took found
  pub bank : IfSome shown (λ held. IsBank shape second closed held found)

-- the first failure in a bank: of the grammar after bodies that were taken, or a body that was refused
pub data FailsInOrder (shape : Shape) (second : Bool) (Took : List (List ℕ) → Type 0) (Refused : List (List ℕ) → List ℕ → Type 0) (image : List ℕ) : ℕ → Type 0 where
  no_cell : (at : ℕ) (fails : FailsInBank shape second image at) → Took fails.bodies → FailsInOrder shape second Took Refused image at
  refused_cell : (front : List (List ℕ)) (body : List ℕ) → HasCells shape second image (front ++ body ∷ []) → Refused front body → FailsInOrder shape second Took Refused image (end_of shape second front + 5)

-- the cause of an error in handing a body on, whose cell stands at this place
abbrev pub Untaken : Type 0 → ℕ → LogError → Type 0
Untaken Refused place Disk = ⊥
Untaken Refused place (NotAStore at) = (at ≡ place + 5) × Refused
Untaken Refused place Memory = Unit {0}

-- every image has this bank live with bodies that were taken, as the disk read before
pub record Replayed {D : Type 0} (d : Ghosts D) (old new : D) (shape : Shape) (Took : List (List ℕ) → Type 0) (second : Bool) (closed : ℕ) : Type 0 where
  pub found : List (List ℕ)
  pub took : Took found
  pub each : Each (d.images new) (λ c. IsText shape second closed c found)
  pub gave : IfSome (d.shown old) (λ held. Gives shape held found)

-- after NotAStore the disk is as it was
abbrev pub StillWhereRefused : {D : Type 0} → Ghosts D → D → D → LogError → Type 0
StillWhereRefused d old new Disk = Unit {0}
StillWhereRefused d old new (NotAStore at) = Still d.shown d.images d.moment d.left_since old new
StillWhereRefused d old new Memory = Unit {0}
