-- Earliest-ready lists: how they grow, and that of two one is the front of the other.
use Rattle.std.proofs.Common.{◌≡◌, ◌⊎◌, inl, inr, ℕ, ◌+◌, ◌<◌, ◌≤◌, List, [], ◌∷◌, ◌++◌, All, drop, get_or, length, take, refl, sym, ◌∙◌, ap, subst, arith, length-append, append_assoc, append-nil}
use Rattle.std.proofs.lemmas.Bool.{eqb-true, eq-eqb}
use Rattle.std.proofs.lemmas.List.{length-take, get_or-take, get_or_default}
use Rattle.std.proofs.lemmas.List.Elements.{Contains-append_left}
use Rattle.std.proofs.lemmas.Map.Made.{IsDistinct-from_AllPairs}
use Rattle.std.proofs.lemmas.Map.Steps.{length-le_from_distinct_below}
use Rattle.std.proofs.lemmas.Map.Views.{Contains-from_any}
use Rattle.dsc_terms.proofs.Splits.{split_at}
use Rattle.std.specs.Prelude.{Contains}
use Rattle.dsc_terms.specs.Lists.{IsOnce}
use Rattle.depend_order.specs.Order.{IsReady, IsNext, IsEarliestReady, IsOrder}
use Rattle.depend_order.proofs.Splits.{split_push}

module _ (count : ℕ) (depends : ℕ → ℕ → Type 0) where
  pub earliest_none : IsEarliestReady count depends []
  earliest_none a r b p = absurd (omega (arith, ap length p, length-append a (r ∷ b)))

  pub earliest_push : (list : List ℕ) (r : ℕ) → IsEarliestReady count depends list → IsNext count depends list r → IsEarliestReady count depends (list ++ r ∷ [])
  earliest_push list r earliest next a s b p = elim (split_push list r a s b p) [
    | inl last ↦ subst (λ (t : ℕ). IsNext count depends a t) last.1 (subst (λ (l : List ℕ). IsNext count depends l r) last.0 next)
    | inr more ↦ earliest a s more.0 more.1
  ]

  pub once_earliest : (list : List ℕ) → IsEarliestReady count depends list → IsOnce list
  once_earliest list earliest a r b p = (earliest a r b p).ready.absent

  -- there is one next place
  pub next_same : (list : List ℕ) (r s : ℕ) → IsNext count depends list r → IsNext count depends list s → r ≡ s
  next_same list r s one other = omega (arith, one.least s other.ready, other.least r one.ready)

  -- of two earliest-ready lists with a common front one goes on from the other
  pub fronts : (front xs ys : List ℕ) → IsEarliestReady count depends (front ++ xs) → IsEarliestReady count depends (front ++ ys)
      → ((more : List ℕ) × (xs ≡ ys ++ more)) ⊎ ((more : List ℕ) × (ys ≡ xs ++ more))
  fronts front [] ys ex ey = inr (ys, refl)
  fronts front (x ∷ xs) [] ex ey = inl (x ∷ xs, refl)
  fronts front (x ∷ xs) (y ∷ ys) ex ey =
      let same : x ≡ y = next_same front x y (ex front x xs refl) (ey front y ys refl) in
      let fx : IsEarliestReady count depends ((front ++ x ∷ []) ++ xs) = rw (append_assoc front (x ∷ []) xs) ex in
      let fy : IsEarliestReady count depends ((front ++ x ∷ []) ++ ys) = rw (append_assoc front (x ∷ []) ys, same) ey in
      elim (fronts (front ++ x ∷ []) xs ys fx fy) [
        | inl more ↦ inl (more.0, λ i. same i ∷ more.1 i)
        | inr more ↦ inr (more.0, λ i. sym same i ∷ more.1 i)
      ]

  -- where nothing is ready after a list, an earliest-ready list holds no other places
  pub stopped : (list : List ℕ) → IsEarliestReady count depends list → ((r : ℕ) → IsReady count depends list r → ⊥)
      → (other : List ℕ) → IsEarliestReady count depends other → (r : ℕ) → Contains other r → Contains list r
  stopped list earliest stuck other also r has = elim (fronts [] list other earliest also) [
    | inl more ↦ subst (λ (l : List ℕ). Contains l r) (sym more.1) (Contains-append_left other more.0 r has)
    | inr more ↦ go more.0 more.1
  ]
    where
      go : (rest : List ℕ) → other ≡ list ++ rest → Contains list r
      go [] p = subst (λ (l : List ℕ). Contains l r) (p ∙ append-nil list) has
      go (s ∷ rest) p = absurd (stuck s (also list s rest p).ready)

  -- there is at most one order
  pub order_same : (one other : List ℕ) → IsOrder count depends one → IsOrder count depends other → one ≡ other
  order_same one other first second = elim (fronts [] one other first.earliest second.earliest) [
    | inl more ↦ ends one other first second more.0 more.1
    | inr more ↦ sym (ends other one second first more.0 more.1)
  ]
    where
      ends : (long short : List ℕ) → IsOrder count depends long → IsOrder count depends short → (rest : List ℕ) → long ≡ short ++ rest → long ≡ short
      ends long short of also [] p = p ∙ append-nil short
      ends long short of also (s ∷ rest) p = absurd ((of.earliest short s rest p).ready.absent (also.all s (of.earliest short s rest p).ready.is_place))

-- places below the count of which none stands twice are no more than it
pub once_count : (count : ℕ) (list : List ℕ) → IsOnce list → ((q : ℕ) → Contains list q → q < count) → length list ≤ count
once_count count list once below =
    length-le_from_distinct_below list count
    (IsDistinct-from_AllPairs (λ a b. (eqb-true a b, eq-eqb a b)) list apart)
    (λ q found. below q (Contains-from_any eqb-true q list found))
  where
    apart : (i j d : ℕ) → i < j → j < length list → get_or list i d ≡ get_or list j d → ⊥
    apart i j d before within same =
        once (take j list) (get_or list j d) (drop (j + 1) list) (split_at list j d within)
        (i, omega (arith, length-take j list), get_or-take j list i (get_or list j d) before ∙ get_or_default list i _ d (omega arith) ∙ same)

-- the places of an earliest-ready list are below the count, and no more than it
module _ (count : ℕ) (depends : ℕ → ℕ → Type 0) (list : List ℕ) (earliest : IsEarliestReady count depends list) where
  pub earliest_below : All (λ r. r < count) list
  earliest_below k d lt = (earliest (take k list) (get_or list k d) (drop (k + 1) list) (split_at list k d lt)).ready.is_place

  pub earliest_count : length list ≤ count
  earliest_count =
      once_count count list (once_earliest count depends list earliest)
      (λ q has. subst (λ (r : ℕ). r < count) has.2 (earliest_below has.0 q has.1))
