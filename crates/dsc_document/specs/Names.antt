-- Names that compare by fold.
use Rattle.std.specs.Prelude.{◌≡◌, ℕ, ◌<◌, List, Option, Some}
use Rattle.mof_values.specs.Fold.{SameName}

-- two places of a list, the first before the second, have the same name; a place need not have one
abbrev pub ShareName : (ℕ → Option (List ℕ)) → ℕ → ℕ → Type 0
ShareName name_at first second =
    (first < second) × (a : List ℕ) × (b : List ℕ) × (name_at first ≡ Some a) × (name_at second ≡ Some b) × SameName a b

-- a place of the list has the name
abbrev pub IsName : (ℕ → Option (List ℕ)) → List ℕ → Type 0
IsName name_at name = (k : ℕ) × (other : List ℕ) × (name_at k ≡ Some other) × SameName other name
