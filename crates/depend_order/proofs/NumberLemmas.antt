-- Lists of numbers by their place.
use Rattle.std.proofs.Common.{◌≡◌, ℕ, zero, suc, ◌<◌, List, [], ◌∷◌, Some, length, get_or, refl, ap, subst, arith}
use Rattle.std.proofs.lemmas.List.Elements.{All-tail}
use Rattle.std.proofs.lemmas.Option.{none-some, slice_get_within, slice_get_read, get_or_from_slice_get}
use Rattle.std.specs.Global.{Vec}
use Rattle.std.specs.Option.{option_map_or}
use Rattle.std.specs.Prelude.{All, slice_get}
use Rattle.depend_order.specs.Numbers.{numbers_of, Lists, AreBelow}

-- the list that stands at a place
pub numbers_at : (depends : List (Vec ℕ)) (r : ℕ) (numbers : Vec ℕ) → slice_get depends r ≡ Some numbers → numbers_of depends r ≡ numbers.items
numbers_at depends r numbers is = ap (λ o. option_map_or (λ v. v.items) o []) is

-- the same, as it is read
pub numbers_of_read : (depends : List (Vec ℕ)) (r : ℕ) (numbers : Vec ℕ) → r < length depends → numbers ≡ get_or depends r numbers → numbers_of depends r ≡ numbers.items
numbers_of_read depends r numbers lt is = numbers_at depends r numbers (slice_get_read depends (length depends) r numbers refl lt is)

pub listed_at : (depends : List (Vec ℕ)) (r : ℕ) (numbers : Vec ℕ) (k q : ℕ) → slice_get depends r ≡ Some numbers → slice_get numbers.items k ≡ Some q → Lists depends r k q
listed_at depends r numbers k q is at = rw (numbers_at depends r numbers is) at

-- a dependency is a place
pub number_below : (count : ℕ) (depends : List (Vec ℕ)) (r k q : ℕ) → AreBelow count depends → Lists depends r k q → q < count
number_below count [] r k q below is = absurd (none-some q is)
number_below count (numbers ∷ more) zero k q below is =
    subst (λ (n : ℕ). n < count) (get_or_from_slice_get numbers.items k q 0 is)
    (below 0 numbers (omega arith) k 0 (slice_get_within numbers.items k q is))
number_below count (numbers ∷ more) (suc r) k q below is = number_below count more r k q (All-tail (λ v. All (λ n. n < count) v.items) numbers more below) is
