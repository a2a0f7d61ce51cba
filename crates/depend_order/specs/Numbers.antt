-- Dependencies that are given as numbers.
use Rattle.std.specs.Prelude.{◌≡◌, ℕ, ◌<◌, List, [], All, Some, length, slice_get, vec_len}
use Rattle.std.specs.List.{sum_by}
use Rattle.std.specs.Option.{option_map_or}
use Rattle.std.specs.Global.{Vec}
use Rattle.depend_order.specs.Cycle.{DependsOn, IsCycle}
use Rattle.depend_order.specs.Order.{IsOrder}

-- the numbers of the places that r depends on, as listed; none where there is no such place
abbrev pub numbers_of : List (Vec ℕ) → ℕ → List ℕ
numbers_of depends r = option_map_or (λ numbers. numbers.items) (slice_get depends r) []

-- the k-th number in r's list is q
abbrev pub Lists : List (Vec ℕ) → ℕ → ℕ → ℕ → Type 0
Lists depends r k q = slice_get (numbers_of depends r) k ≡ Some q

-- each number is below the count
abbrev pub AreBelow : ℕ → List (Vec ℕ) → Type 0
AreBelow count depends = All (λ numbers. All (λ q. q < count) numbers.items) depends

-- how many numbers are listed in all
abbrev pub numbers_in : List (Vec ℕ) → ℕ
numbers_in depends = sum_by vec_len depends

abbrev pub IsOrderOfNumbers : List (Vec ℕ) → List ℕ → Type 0
IsOrderOfNumbers depends order = IsOrder (length depends) (DependsOn (Lists depends)) order

-- no list of all places is their order
abbrev pub AreUnordered : List (Vec ℕ) → Type 0
AreUnordered depends = (order : List ℕ) → IsOrderOfNumbers depends order → ⊥

abbrev pub IsCycleOfNumbers : List (Vec ℕ) → List ℕ → Type 0
IsCycleOfNumbers depends cycle = IsCycle (length depends) (Lists depends) cycle
