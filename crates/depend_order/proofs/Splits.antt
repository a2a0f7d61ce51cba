-- Where an element stands in a list.
use Rattle.std.proofs.Common.{◌≡◌, ◌⊎◌, inl, inr, ℕ, zero, suc, ◌+◌, List, [], ◌∷◌, ◌++◌, length, take, drop, get_or, refl, sym, ◌∙◌, ap, arith, length-append, append_assoc}
use Rattle.std.proofs.lemmas.List.{take-append-drop, drop_more}
use Rattle.std.proofs.lemmas.List.Elements.{Contains-append_right, Contains-append_cases}
use Rattle.std.specs.Prelude.{Contains}

module _ {A : Type 0} where
  -- where a split of a list with one more at its end lies
  pub split_push : (t : List A) (e : A) (before : List A) (x : A) (after : List A) → t ++ e ∷ [] ≡ before ++ x ∷ after
      → ((t ≡ before) × (e ≡ x)) ⊎ ((rest : List A) × (t ≡ before ++ x ∷ rest))
  split_push [] e [] x after p = inl (refl, cc)
  split_push [] e (b ∷ bs) x after p = absurd (omega (arith, ap length p, length-append bs (x ∷ after)))
  split_push (a ∷ t) e [] x after p =
      let h : a ≡ x = cc in
      inr (t, ap (λ y. y ∷ t) h)
  split_push (a ∷ t) e (b ∷ bs) x after p =
      let h : a ≡ b = cc in
      let q : t ++ e ∷ [] ≡ bs ++ x ∷ after = cc in
      elim (split_push t e bs x after q) [
        | inl same ↦ inl (λ i. h i ∷ same.0 i, same.1)
        | inr more ↦ inr (more.0, λ i. h i ∷ more.1 i)
      ]

  -- the same of two that stand side by side
  pub pair_push : (t : List A) (e : A) (before : List A) (x y : A) (after : List A) → t ++ e ∷ [] ≡ before ++ x ∷ y ∷ after
      → ((t ≡ before ++ x ∷ []) × (e ≡ y)) ⊎ ((rest : List A) × (t ≡ before ++ x ∷ y ∷ rest))
  pair_push t e before x y after p = elim (split_push t e (before ++ x ∷ []) y after (p ∙ sym (append_assoc before (x ∷ []) (y ∷ after)))) [
    | inl last ↦ inl last
    | inr more ↦ inr (more.0, more.1 ∙ append_assoc before (x ∷ []) (y ∷ more.0))
  ]

  -- an element that a list holds splits it
  pub split_at : (t : List A) (x : A) → Contains t x → (a : List A) × (b : List A) × (t ≡ a ++ x ∷ b)
  split_at t x has =
      let k = has.0 in
      (take k t, drop (k + 1) t, sym (take-append-drop k t) ∙ ap (λ (l : List A). take k t ++ l) (drop_more t k x has.1 ∙ ap (λ (y : A). y ∷ drop (k + 1) t) has.2))

  pub Contains-split : (a : List A) (x : A) (b : List A) → Contains (a ++ x ∷ b) x
  Contains-split a x b = Contains-append_right a (x ∷ b) x (0, omega arith, refl)

-- after the first, which is not it, an element is still held
pub split_more : (walk lead rest : List ℕ) (x : ℕ) → walk ≡ lead ++ rest → Contains rest x → (get_or rest 0 0 ≡ x → ⊥)
    → ((longer : List ℕ) × (walk ≡ longer ++ drop 1 rest)) × Contains (drop 1 rest) x
split_more walk lead [] x p has ne = absurd (omega (arith, has.1))
split_more walk lead (y ∷ ys) x p has ne = (
  (lead ++ y ∷ [], p ∙ sym (append_assoc lead (y ∷ []) ys)),
  elim (Contains-append_cases (y ∷ []) ys x has) [
    | inl here ↦ absurd (ne (only here))
    | inr there ↦ there
  ],
)
  where
    only : Contains (y ∷ []) x → y ≡ x
    only (zero, lt, same) = same
    only (suc k, lt, same) = absurd (omega (arith, lt))
