-- The heap of ready places, as the list of its places.
use Rattle.std.proofs.Common.{◌≡◌, ℕ, ◌+◌, ◌<◌, ◌≤◌, List, [], ◌∷◌, All, length, map, sym, ◌∙◌, subst, arith}
use Rattle.std.proofs.lemmas.List.{get_or-map, length-map}
use Rattle.std.proofs.lemmas.List.Elements.{All-cons, All-nil}
use Rattle.std.proofs.lemmas.List.Sorted.{IsPermutation-map, le_from_greatest, sum_by_popped, sum_by_pushed}
use Rattle.std.specs.BinaryHeap.{IsUpperBound}
use Rattle.std.specs.List.Sorted.{IsPermutation}
use Rattle.std.specs.Ordering.{nat_cmp}
use Rattle.depend_order.specs.Counts.{times}
use Rattle.depend_order.proofs.Times.{has_times, one_if, one_same}

module _ {X : Type 0} (place : X → ℕ) where
  pub times_pushed : (x : X) (old new : List X) → IsPermutation (x ∷ old) new → (r : ℕ) → times r (map place new) ≡ one_if (place x) r + times r (map place old)
  times_pushed x old new moved r = sum_by_pushed (λ q. one_if q r) (place x) (map place old) (map place new) (IsPermutation-map place (x ∷ old) new moved)

  pub times_popped : (x : X) (old new : List X) → IsPermutation old (x ∷ new) → (r : ℕ) → times r (map place new) + one_if (place x) r ≡ times r (map place old)
  times_popped x old new moved r = sum_by_popped (λ q. one_if q r) (place x) (map place old) (map place new) (IsPermutation-map place old (x ∷ new) moved)

  pub popped_some : (x : X) (old new : List X) → IsPermutation old (x ∷ new) → 1 ≤ times (place x) (map place old)
  popped_some x old new moved = omega (arith, times_popped x old new moved (place x), one_same (place x))

  -- no place of the heap is below the one that is taken from it
  above : (x : X) (items : List X) → IsUpperBound (λ a b. nat_cmp (place b) (place a)) x items → All (λ y. place x ≤ place y) items
  above x [] top = All-nil (λ y. place x ≤ place y)
  above x (y ∷ items) top = All-cons (λ z. place x ≤ place z) y items (le_from_greatest (place y) (place x ∷ []) (top.0, tt) 0 0 (omega arith)) (above x items top.1)

  pub least_popped : (x : X) (items : List X) → IsUpperBound (λ a b. nat_cmp (place b) (place a)) x items → (r : ℕ) → 1 ≤ times r (map place items) → place x ≤ r
  least_popped x items top r some =
      let has = has_times r (map place items) some in
      let within : has.0 < length items = omega (arith, has.1, length-map items place) in
      subst (λ q. place x ≤ q) (sym (get_or-map place items has.0 x r within) ∙ has.2) (above x items top has.0 x within)
