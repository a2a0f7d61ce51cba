-- Lists that begin with the same bytes follow each other in the order of keys.
use Rattle.std.proofs.Common.{◌≡◌, inl, inr, ℕ, ◌<◌, Bool, true, false, nat_eq, List, [], ◌∷◌, ◌++◌, length, take, drop, Ordering, refl, sym, ◌∙◌, ap}
use Rattle.std.proofs.lemmas.Bool.{cases_order, false≢true}
use Rattle.std.proofs.lemmas.List.{take-append-drop}
use Rattle.std.proofs.lemmas.Slice.Eq.{bytes_eq-Decides}
use Rattle.std.proofs.Math.Seq.{take-append_seam}
use Rattle.std.specs.Cmp.{nat_cmp_is}
use Rattle.std.specs.Cmp.Lexicographic.{slice_cmp}
use Rattle.std.specs.List.{starts_with}
use Rattle.std.specs.Ordering.{is_gt, nat_cmp, ordering_then}
use Rattle.std.specs.declared.cmp.Ordering.TheVariants.{Equal, Greater}

-- the answer of the comparison, by that of the first bytes
abbrev is_after : List ℕ → List ℕ → Ordering → Bool
is_after xs ys first = is_gt (ordering_then first (slice_cmp nat_cmp xs ys))

pub not_after_longer : (front rest : List ℕ) → is_gt (slice_cmp nat_cmp front (front ++ rest)) ≡ false
not_after_longer [] [] = refl
not_after_longer [] (r ∷ rs) = refl
not_after_longer (f ∷ fs) rest = ap (is_after fs (fs ++ rest)) (sym (nat_cmp_is f f Equal refl)) ∙ not_after_longer fs rest

-- what lies between a list and one that begins with it begins with it too
pub begins_between : (front x rest : List ℕ) → is_gt (slice_cmp nat_cmp front x) ≡ false → is_gt (slice_cmp nat_cmp x (front ++ rest)) ≡ false
    → (more : List ℕ) × (x ≡ front ++ more)
begins_between [] x rest low high = (x, refl)
begins_between (f ∷ fs) [] rest low high = absurd (false≢true (sym low))
begins_between (f ∷ fs) (c ∷ cs) rest low high = elim (cases_order f c) [
  | inl same ↦
      let tail = begins_between fs cs rest (ap (is_after fs cs) (nat_cmp_is f c Equal same) ∙ low) (ap (is_after cs (fs ++ rest)) (nat_cmp_is c f Equal (sym same)) ∙ high) in
      (tail.0, λ i. (sym same) i ∷ tail.1 i)
  | inr (inl less) ↦ absurd (false≢true (sym (ap (is_after cs (fs ++ rest)) (nat_cmp_is c f Greater less) ∙ high)))
  | inr (inr more) ↦ absurd (false≢true (sym (ap (is_after fs cs) (nat_cmp_is f c Greater more) ∙ low)))
]

-- ---- the test

pub begins_split : (xs front : List ℕ) → starts_with nat_eq xs front ≡ true → (rest : List ℕ) × (xs ≡ front ++ rest)
begins_split xs front is =
    let same : front ≡ take (length front) xs = (bytes_eq-Decides front (take (length front) xs)).0 is in
    (drop (length front) xs, sym (take-append-drop (length front) xs) ∙ ap (λ (l : List ℕ). l ++ drop (length front) xs) (sym same))

pub begins_with : (xs front rest : List ℕ) → xs ≡ front ++ rest → starts_with nat_eq xs front ≡ true
begins_with xs front rest is = (bytes_eq-Decides front (take (length front) xs)).1 (sym (ap (take (length front)) is ∙ take-append_seam front rest))
