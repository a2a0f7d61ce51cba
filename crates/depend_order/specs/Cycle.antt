-- The closed walk through places that no order can hold.
--
-- `names r k q` says that the k-th name in r's list of dependencies means q.
use Rattle.std.specs.Prelude.{◌≡◌, ℕ, ◌<◌, ◌≤◌, List, [], ◌∷◌, ◌++◌, Contains}
use Rattle.dsc_terms.specs.Lists.{IsOnce}
use Rattle.depend_order.specs.Order.{IsEarliestReady}

-- r depends on q: some name in r's list means q
abbrev pub DependsOn : (ℕ → ℕ → ℕ → Type 0) → ℕ → ℕ → Type 0
DependsOn names r q = (k : ℕ) × names r k q

-- placing the least ready place again and again never places r
pub record IsLeft (count : ℕ) (names : ℕ → ℕ → ℕ → Type 0) (r : ℕ) : Type 0 where
  pub is_place : r < count
  pub unplaced : (list : List ℕ) → IsEarliestReady count (DependsOn names) list → Contains list r → ⊥

-- the least place that is left
pub record IsLeastLeft (count : ℕ) (names : ℕ → ℕ → ℕ → Type 0) (r : ℕ) : Type 0 where
  pub left : IsLeft count names r
  pub least : (s : ℕ) → IsLeft count names s → r ≤ s

-- the first name in r's list that means a place that is left means s
pub record IsFirstLeft (count : ℕ) (names : ℕ → ℕ → ℕ → Type 0) (r s : ℕ) : Type 0 where
  pub at : ℕ
  pub means : names r at s
  pub left : IsLeft count names s
  pub first : (k q : ℕ) → k < at → names r k q → IsLeft count names q → ⊥

-- the list begins at the least place that is left,
-- and goes on from each place to its first dependency that is left
pub record IsWalk (count : ℕ) (names : ℕ → ℕ → ℕ → Type 0) (walk : List ℕ) : Type 0 where
  pub begins : (r : ℕ) (b : List ℕ) → walk ≡ r ∷ b → IsLeastLeft count names r
  pub goes_on : (a : List ℕ) (r s : ℕ) (b : List ℕ) → walk ≡ a ++ r ∷ s ∷ b → IsFirstLeft count names r s

-- a walk comes to no place twice until it comes to one of its places again:
-- the cycle is that place and what stands after its first visit
pub record IsCycle (count : ℕ) (names : ℕ → ℕ → ℕ → Type 0) (cycle : List ℕ) : Type 0 where
  pub lead : List ℕ
  pub first : ℕ
  pub rest : List ℕ
  pub is : cycle ≡ first ∷ rest
  pub once : IsOnce (lead ++ first ∷ rest)
  pub walk : IsWalk count names (lead ++ first ∷ rest ++ first ∷ [])

-- each place depends on the next, and the last on the first
abbrev pub IsClosed : (ℕ → ℕ → Type 0) → List ℕ → Type 0
IsClosed depends [] = ⊥
IsClosed depends (first ∷ rest) =
    (a : List ℕ) (r s : ℕ) (b : List ℕ) → first ∷ rest ++ first ∷ [] ≡ a ++ r ∷ s ∷ b → depends r s
