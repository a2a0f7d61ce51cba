-- The places of a list.
use Rattle.std.proofs.Common.{◌≡◌, inl, inr, ℕ, zero, suc, ◌<◌, List, [], ◌∷◌, All, length, get_or, refl, sym, ap, subst, arith, length-append}
use Rattle.std.specs.Prelude.{Contains}
use Rattle.std.proofs.lemmas.List.{get_or_default}
use Rattle.std.proofs.lemmas.List.Elements.{Contains-push_cases}
use Rattle.dsc_terms.specs.Lists.{IsOnce, places_below}
use Rattle.dsc_terms.proofs.Splits.{split_push}

pub length-places_below : (n : ℕ) → length (places_below n) ≡ n
length-places_below zero = refl
length-places_below (suc n) = omega (arith, length-places_below n, length-append (places_below n) (n ∷ []))

pub below_places : (n m : ℕ) → (k : ℕ) → Contains (places_below n) m → m < n
below_places zero m k has = absurd (omega (arith, has.1))
below_places (suc n) m k has = elim (Contains-push_cases (places_below n) n m has) [
  | inl there ↦ omega (arith, below_places n m k there)
  | inr here ↦ omega (arith, here)
]

pub once_places : (n : ℕ) → IsOnce (places_below n)
once_places zero a r b e has = absurd (omega (arith, ap length e, length-append a (r ∷ b)))
once_places (suc n) a r b e has = elim (split_push (places_below n) n a r b e) [
  | inl last ↦ let lt : r < n = below_places n r 0 (subst (λ (l : List ℕ). Contains l r) (sym last.0) has) in absurd (omega (arith, lt, last.1))
  | inr more ↦ once_places n a r more.0 more.1 has
]

pub all_below : (n : ℕ) → All (λ r. r < n) (places_below n)
all_below n k d lt = below_places n (get_or (places_below n) k d) k (k, lt, get_or_default (places_below n) k _ d lt)
