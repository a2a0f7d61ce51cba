-- A count that is kept as bodies of two bytes: a kind, and a number.
use Rattle.std.specs.Prelude.{◌≡◌, ◌==◌, ℕ, ◌+◌, if◌then◌else◌, nat_le, List, [], ◌∷◌, map, Option, Some, None}
use Rattle.gate_log.specs.declared.shape.Shape.{Shape}
use Rattle.gate_log.specs.Log.{LogTerm}

-- two banks of 64 bytes
abbrev pub count_shape : Shape
count_shape = record { bank = 64; largest = 32 }

-- the number is named (0), added (1), or the count itself (2); a count is at most 255
abbrev pub count_by : ℕ → ℕ → ℕ → Option ℕ
count_by kind count n =
    if kind == 0 then Some count else if kind == 1 then (if nat_le (count + n) 255 then Some (count + n) else None) else if kind == 2 then Some n else None

abbrev pub count_after : ℕ → List ℕ → Option ℕ
count_after count (kind ∷ n ∷ []) = count_by kind count n
count_after count _ = None

abbrev pub count_of : Option ℕ → List (List ℕ) → Option ℕ
count_of count [] = count
count_of None (body ∷ bodies) = None
count_of (Some count) (body ∷ bodies) = count_of (count_after count body) bodies

-- a new store counts nothing
abbrev pub LeadsToCount : List (List ℕ) → ℕ → Type 0
LeadsToCount bodies count = count_of (Some 0) bodies ≡ Some count

-- bodies of these kinds, with this number
abbrev pub bodies_with : ℕ → List ℕ → List (List ℕ)
bodies_with n kinds = map (λ kind. kind ∷ n ∷ []) kinds

-- a number that is added is named first: only the second body makes it count
abbrev pub cells_of : ℕ → List (List ℕ)
cells_of n = bodies_with n (0 ∷ 1 ∷ [])

abbrev pub whole_of : ℕ → List (List ℕ)
whole_of count = bodies_with count (2 ∷ [])

-- what contracts see of a counter
pub record CounterTerm : Type 0 where
  pub log : LogTerm
  pub count : ℕ
