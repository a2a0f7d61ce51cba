-- Places in lists.
use Rattle.std.specs.Prelude.{◌≡◌, ℕ, zero, suc, List, [], ◌∷◌, ◌++◌, Contains}

-- q stands before r in the list
abbrev pub Precedes : List ℕ → ℕ → ℕ → Type 0
Precedes order q r = (a : List ℕ) × (b : List ℕ) × (c : List ℕ) × (order ≡ a ++ q ∷ b ++ r ∷ c)

-- nothing of the list stands in it twice
abbrev pub IsOnce : List ℕ → Type 0
IsOnce order = (a : List ℕ) (r : ℕ) (b : List ℕ) → order ≡ a ++ r ∷ b → Contains a r → ⊥

-- the places of a list of that length, in order
abbrev pub places_below : ℕ → List ℕ
places_below zero = []
places_below (suc n) = places_below n ++ n ∷ []
