-- What a reader takes from the front of the bytes, and what it leaves.
use Rattle.std.specs.Prelude.{◌≡◌, List, ℕ, ◌++◌, [], Option, Some, None, Result, Ok, Err, IfOk, ⊤}
use Rattle.store_fields.specs.declared.error.FieldError.{FieldError}
use Rattle.store_fields.specs.declared.error.FieldError.TheVariants.{Wrong, Memory}

-- the answer is this value with this rest, or memory ran out
abbrev pub IsTaken : {X : Type 0} → Result X FieldError → List ℕ → X → List ℕ → Type 0
IsTaken (Ok found) after x rest = (found ≡ x) × (after ≡ rest)
IsTaken (Err Wrong) after x rest = ⊥
IsTaken (Err Memory) after x rest = ⊤

-- A value in range was taken from the front, and the rest is left. Where such a value stands at the front, it is taken.
pub record Reads {X : Type 0} (bytes_of : X → List ℕ) (IsInRange : X → Type 0) (before after : List ℕ) (result : Result X FieldError) : Type 0 where
  pub found : IfOk result (λ x. IsInRange x × (before ≡ bytes_of x ++ after))
  pub only : (x : X) (rest : List ℕ) → IsInRange x → before ≡ bytes_of x ++ rest → IsTaken result after x rest

-- a front of the bytes is the bytes of at most one value in range, and then the rest is one too
abbrev pub IsUnique : {X : Type 0} → (X → List ℕ) → (X → Type 0) → Type 0
IsUnique {X} bytes_of IsInRange = (x y : X) (r s : List ℕ) → IsInRange x → IsInRange y → bytes_of x ++ r ≡ bytes_of y ++ s → (x ≡ y) × (r ≡ s)

-- the same of a reader that hands back the rest, and takes no memory
abbrev pub ReadsFront : {X : Type 0} → (X → List ℕ) → (X → Type 0) → List ℕ → Option (X × List ℕ) → Type 0
ReadsFront bytes_of IsInRange before (Some read) = Reads bytes_of IsInRange before read.1 (Ok read.0)
ReadsFront bytes_of IsInRange before None = Reads bytes_of IsInRange before [] (Err Wrong)
