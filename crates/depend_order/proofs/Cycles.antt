-- There is at most one cycle, no order beside it, and each of its places depends on the next.
use Rattle.std.proofs.Common.{◌≡◌, ◌⊎◌, inl, inr, ℕ, List, [], ◌∷◌, ◌++◌, length, refl, sym, ◌∙◌, ap, subst, arith, length-append, append_assoc, append-nil}
use Rattle.std.proofs.lemmas.Bool.{cases_eq, cases_lt}
use Rattle.std.proofs.lemmas.List.{same_from_push}
use Rattle.std.proofs.lemmas.List.Elements.{Contains-append_right}
use Rattle.std.specs.Prelude.{Contains}
use Rattle.dsc_terms.specs.Lists.{IsOnce}
use Rattle.depend_order.specs.Cycle.{DependsOn, IsLeft, IsFirstLeft, IsWalk, IsClosed}
use Rattle.depend_order.specs.Laws.{AtMostOneCycle, NeverBoth, CyclesAreClosed}
use Rattle.depend_order.proofs.Splits.{split_push, Contains-split}

-- after the first, nothing stands twice either
once_tail : (x : ℕ) (xs : List ℕ) → IsOnce (x ∷ xs) → IsOnce xs
once_tail x xs once a r b p has = once (x ∷ a) r b (ap (λ (l : List ℕ). x ∷ l) p) (Contains-append_right (x ∷ []) a r has)

-- a list in which nothing stands twice has one split at a place
split_once : (a b c d : List ℕ) (x : ℕ) → IsOnce (a ++ x ∷ b) → a ++ x ∷ b ≡ c ++ x ∷ d → b ≡ d
split_once [] b [] d x once p = cc
split_once [] b (y ∷ c) d x once p = absurd (once (y ∷ c) x d p (let same : x ≡ y = cc in subst (λ (t : ℕ). Contains (y ∷ c) t) (sym same) (Contains-split [] y c)))
split_once (y ∷ a) b [] d x once p = absurd (once (y ∷ a) x b refl (let same : y ≡ x = cc in subst (λ (t : ℕ). Contains (y ∷ a) t) same (Contains-split [] y a)))
split_once (y ∷ a) b (z ∷ c) d x once p = split_once a b c d x (once_tail y (a ++ x ∷ b) once) cc

-- where one walk goes on from the other, both close the same cycle
same_cycle : (lead : List ℕ) (first : ℕ) (rest : List ℕ) (lead' : List ℕ) (first' : ℕ) (rest' more : List ℕ) → IsOnce (lead ++ first ∷ rest)
    → lead ++ first ∷ rest ++ first ∷ [] ≡ lead' ++ first' ∷ rest' ++ first' ∷ [] ++ more → first ∷ rest ≡ first' ∷ rest'
same_cycle lead first rest lead' first' rest' [] once p =
    let ends = same_from_push (lead ++ first ∷ rest) (lead' ++ first' ∷ rest') first first' (p ∙ append-nil (lead' ++ first' ∷ rest' ++ first' ∷ [])) in
    let after = split_once lead rest lead' rest' first once (ends.0 ∙ ap (λ (n : ℕ). lead' ++ n ∷ rest') (sym ends.1)) in
    λ i. ends.1 i ∷ after i
same_cycle lead first rest lead' first' rest' (m ∷ more) once p =
    let q : lead ++ first ∷ rest ++ first ∷ [] ≡ lead' ++ first' ∷ rest' ++ first' ∷ m ∷ more = p ∙ append_assoc (lead' ++ first' ∷ rest') (first' ∷ []) (m ∷ more) in
    elim (split_push (lead ++ first ∷ rest) first (lead' ++ first' ∷ rest') first' (m ∷ more) q) [
      | inl last ↦ absurd (omega (arith, ap length q, ap length last.0, length-append (lead ++ first ∷ rest) (first ∷ []), length-append (lead' ++ first' ∷ rest') (first' ∷ m ∷ more)))
      | inr early ↦ absurd (once (lead' ++ first' ∷ rest') first' early.0 early.1 (Contains-split lead' first' rest'))
    ]

-- a walk that closes a cycle has a begin
headed : (lead : List ℕ) (first : ℕ) (after : List ℕ) → (r : ℕ) × (rest : List ℕ) × (lead ++ first ∷ after ≡ r ∷ rest)
headed [] first after = (first, after, refl)
headed (r ∷ lead) first after = (r, lead ++ first ∷ after, refl)

module _ (count : ℕ) (names : ℕ → ℕ → ℕ → Type 0) (one_each : (r k q s : ℕ) → names r k q → names r k s → q ≡ s) where
  first_same : (r s t : ℕ) → IsFirstLeft count names r s → IsFirstLeft count names r t → s ≡ t
  first_same r s t one other = elim (cases_eq one.at other.at) [
    | inl same ↦ one_each r other.at s t (subst (λ (k : ℕ). names r k s) same one.means) other.means
    | inr differ ↦ elim (cases_lt one.at other.at) [
      | inl before ↦ absurd (other.first one.at s before one.means one.left)
      | inr after ↦ absurd (one.first other.at t (omega arith) other.means other.left)
    ]
  ]

  -- of two walks with a common front one goes on from the other
  walks_agree : (front : List ℕ) (r : ℕ) (xs ys : List ℕ) → IsWalk count names (front ++ r ∷ xs) → IsWalk count names (front ++ r ∷ ys)
      → ((more : List ℕ) × (xs ≡ ys ++ more)) ⊎ ((more : List ℕ) × (ys ≡ xs ++ more))
  walks_agree front r [] ys wx wy = inr (ys, refl)
  walks_agree front r (x ∷ xs) [] wx wy = inl (x ∷ xs, refl)
  walks_agree front r (x ∷ xs) (y ∷ ys) wx wy =
      let same : x ≡ y = first_same r x y (wx.goes_on front r x xs refl) (wy.goes_on front r y ys refl) in
      let fx : IsWalk count names ((front ++ r ∷ []) ++ x ∷ xs) = rw (append_assoc front (r ∷ []) (x ∷ xs)) wx in
      let fy : IsWalk count names ((front ++ r ∷ []) ++ x ∷ ys) = rw (append_assoc front (r ∷ []) (x ∷ ys), same) wy in
      elim (walks_agree (front ++ r ∷ []) x xs ys fx fy) [
        | inl more ↦ inl (more.0, λ i. same i ∷ more.1 i)
        | inr more ↦ inr (more.0, λ i. sym same i ∷ more.1 i)
      ]

  pub one_cycle : AtMostOneCycle count names
  one_cycle one other is also =
      let begin = headed is.lead is.first (is.rest ++ is.first ∷ []) in
      let start = headed also.lead also.first (also.rest ++ also.first ∷ []) in
      let whole : is.lead ++ is.first ∷ is.rest ++ is.first ∷ [] ≡ begin.0 ∷ begin.1 = append_assoc is.lead (is.first ∷ is.rest) (is.first ∷ []) ∙ begin.2 in
      let entire : also.lead ++ also.first ∷ also.rest ++ also.first ∷ [] ≡ start.0 ∷ start.1 = append_assoc also.lead (also.first ∷ also.rest) (also.first ∷ []) ∙ start.2 in
      let here = is.walk.begins begin.0 begin.1 whole in
      let there = also.walk.begins start.0 start.1 entire in
      let same : begin.0 ≡ start.0 = omega (arith, here.least start.0 there.left, there.least begin.0 here.left) in
      let wx : IsWalk count names (begin.0 ∷ begin.1) = rw whole at is.walk in
      let wy : IsWalk count names (begin.0 ∷ start.1) = rw (entire, ← same) at also.walk in
      elim (walks_agree [] begin.0 begin.1 start.1 wx wy) [
        | inl more ↦ is.is ∙ same_cycle is.lead is.first is.rest also.lead also.first also.rest more.0 is.once
            (whole ∙ (λ i. same i ∷ more.1 i) ∙ ap (λ (l : List ℕ). l ++ more.0) (sym entire)) ∙ sym also.is
        | inr more ↦ is.is ∙ sym (same_cycle also.lead also.first also.rest is.lead is.first is.rest more.0 also.once
            (entire ∙ (λ i. sym same i ∷ more.1 i) ∙ ap (λ (l : List ℕ). l ++ more.0) (sym whole))) ∙ sym also.is
      ]

pub never_both : (count : ℕ) (names : ℕ → ℕ → ℕ → Type 0) → NeverBoth count names
never_both count names order cycle is goes = go goes.lead goes.walk
  where
    refuted : (r : ℕ) → IsLeft count names r → ⊥
    refuted r left = left.unplaced order is.earliest (is.all r left.is_place)

    go : (lead : List ℕ) → IsWalk count names (lead ++ goes.first ∷ goes.rest ++ goes.first ∷ []) → ⊥
    go [] walk = refuted goes.first (walk.begins goes.first (goes.rest ++ goes.first ∷ []) refl).left
    go (r ∷ lead) walk = refuted r (walk.begins r (lead ++ goes.first ∷ goes.rest ++ goes.first ∷ []) refl).left

pub closed : (count : ℕ) (names : ℕ → ℕ → ℕ → Type 0) → CyclesAreClosed count names
closed count names cycle is = subst (IsClosed (DependsOn names)) (sym is.is) (λ a r s b p.
    let step = is.walk.goes_on (is.lead ++ a) r s b (append_assoc is.lead (is.first ∷ is.rest) (is.first ∷ []) ∙ ap (λ (l : List ℕ). is.lead ++ l) p ∙ sym (append_assoc is.lead a (r ∷ s ∷ b))) in
    (step.at, step.means))
