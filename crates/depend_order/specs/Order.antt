-- The order of places by their dependencies.
--
-- There are `count` places, counted from 0. `depends r q` says that r depends on q.
use Rattle.std.specs.Prelude.{◌≡◌, ℕ, ◌<◌, ◌≤◌, List, ◌∷◌, ◌++◌, Contains}
use Rattle.dsc_terms.specs.Lists.{IsOnce}

-- r is a place that does not stand in the list, and each that it depends on stands there
pub record IsReady (count : ℕ) (depends : ℕ → ℕ → Type 0) (list : List ℕ) (r : ℕ) : Type 0 where
  pub is_place : r < count
  pub absent : Contains list r → ⊥
  pub met : (q : ℕ) → depends r q → Contains list q

-- the least place that is ready
pub record IsNext (count : ℕ) (depends : ℕ → ℕ → Type 0) (list : List ℕ) (r : ℕ) : Type 0 where
  pub ready : IsReady count depends list r
  pub least : (s : ℕ) → IsReady count depends list s → r ≤ s

-- at each position stands the least place that is ready after the earlier ones
abbrev pub IsEarliestReady : ℕ → (ℕ → ℕ → Type 0) → List ℕ → Type 0
IsEarliestReady count depends list =
    (a : List ℕ) (r : ℕ) (b : List ℕ) → list ≡ a ++ r ∷ b → IsNext count depends a r

-- every place stands once, and at each position the least that is ready
pub record IsOrder (count : ℕ) (depends : ℕ → ℕ → Type 0) (list : List ℕ) : Type 0 where
  pub all : (r : ℕ) → r < count → Contains list r
  pub once : IsOnce list
  pub earliest : IsEarliestReady count depends list
