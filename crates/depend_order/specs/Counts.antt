-- What the search for an order keeps, and what it hands to the walk.
use Rattle.std.specs.Prelude.{◌≡◌, ◌==◌, ℕ, ◌+◌, ◌<◌, ◌≤◌, List, length, if◌then◌else◌, slice_index}
use Rattle.std.specs.List.{count_by}
use Rattle.std.specs.Global.{Vec}
use Rattle.depend_order.specs.Cycle.{IsLeft}
use Rattle.depend_order.specs.Numbers.{numbers_of, Lists}

-- how often r stands in the list
abbrev pub times : ℕ → List ℕ → ℕ
times r list = count_by (λ q. q == r) list

-- how many of the numbers stand nowhere in the order
abbrev pub waits_for : List ℕ → List ℕ → ℕ
waits_for order numbers = count_by (λ q. times q order == 0) numbers

-- 1 where the count is 0, else 0
abbrev pub none_left : ℕ → ℕ
none_left count = if count == 0 then 1 else 0

-- how many of the counts are 0
abbrev pub zeros : List ℕ → ℕ
zeros counts = count_by (λ count. count == 0) counts

-- for each place those that depend on it, each as often as it lists it
pub record AreDependents (depends dependents : List (Vec ℕ)) : Type 0 where
  pub count : length dependents ≡ length depends
  pub listed : (q r : ℕ) → times r (numbers_of dependents q) ≡ times q (numbers_of depends r)

-- for each place how many of its dependencies stand nowhere in the order
pub record AreCounted (depends : List (Vec ℕ)) (order waiting : List ℕ) : Type 0 where
  pub size : length waiting ≡ length depends
  pub counts : (r : ℕ) → slice_index waiting r ≡ waits_for order (numbers_of depends r)

-- ready or in the order stand, once in all, exactly the places that wait for none
pub record IsReadied (waiting order ready : List ℕ) : Type 0 where
  pub each : (r : ℕ) → r < length waiting → times r ready + times r order ≡ none_left (slice_index waiting r)
  pub no_others : (r : ℕ) → length waiting ≤ r → times r ready + times r order ≡ 0

-- the places that are left are those that wait, and each of them depends on one that is left
pub record IsStuck (depends : List (Vec ℕ)) (waiting : List ℕ) : Type 0 where
  pub size : length waiting ≡ length depends
  pub left : (r : ℕ) → r < length depends → 0 < slice_index waiting r → IsLeft (length depends) (Lists depends) r
  pub waits : (r : ℕ) → IsLeft (length depends) (Lists depends) r → 0 < slice_index waiting r
  pub goes_on : (r : ℕ) → IsLeft (length depends) (Lists depends) r
      → (k : ℕ) × (s : ℕ) × Lists depends r k s × (0 < slice_index waiting s)
