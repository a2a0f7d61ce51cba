-- Laws of the text of a store.
use Rattle.std.specs.Prelude.{◌≡◌, ◌⊎◌, ◌<◌, ◌≤◌, ◌^◌, ℕ, Bool, List, ◌++◌, length, get_or}
use Rattle.gate_log.specs.declared.shape.Shape.{Shape}
use Rattle.gate_log.specs.Text.{Gives, IsLive, HasCells}
use Rattle.gate_log.specs.Log.{IsNoStore}

-- an image gives at most one list of bodies
abbrev pub OneList : Type 0
OneList = (shape : Shape) (image : List ℕ) (one other : List (List ℕ)) → shape.largest < 2 ^ 32 → Gives shape image one → Gives shape image other → one ≡ other

-- what gives bodies is a store
abbrev pub NeverBoth : Type 0
NeverBoth = (shape : Shape) (image : List ℕ) (bodies : List (List ℕ)) (at : ℕ) → shape.largest < 2 ^ 32 → Gives shape image bodies → IsNoStore shape image at → ⊥

-- bodies with which the live bank begins are the first of those that the image gives
abbrev pub FrontGiven : Type 0
FrontGiven = (shape : Shape) (second : Bool) (image : List ℕ) (front bodies : List (List ℕ)) → shape.largest < 2 ^ 32 → 9 < length image → IsLive second image → HasCells shape second image front → Gives shape image bodies
    → (rest : List (List ℕ)) × (bodies ≡ front ++ rest)

abbrev pub AreBytes : List ℕ → Type 0
AreBytes image = (at : ℕ) → get_or image at 0 < 256

-- bytes give bodies, or they fail
abbrev pub AnswerExists : Type 0
AnswerExists = (shape : Shape) (image : List ℕ) → 1 ≤ shape.bank → AreBytes image
    → ((bodies : List (List ℕ)) × Gives shape image bodies) ⊎ ((at : ℕ) × IsNoStore shape image at)
