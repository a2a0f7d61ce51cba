-- Of a list either two names are the same, and there is a first such pair, or all differ.
use Rattle.std.proofs.Common.{◌≡◌, ◌⊎◌, inl, inr, ℕ, zero, suc, ◌<◌, ◌≤◌, List, length, AllPairs, Option, Some, None, option_map, slice_get, refl, sym, ap, subst, ◌∙◌, ⊎_elim, arith}
use Rattle.std.proofs.lemmas.Bool.{cases_eq, cases_lt}
use Rattle.std.proofs.lemmas.Option.{none-some, same_Some, slice_get_past}
use Rattle.mof_values.specs.Fold.{SameName, fold_case}
use Rattle.dsc_document.specs.Names.{ShareName}
use Rattle.dsc_document.proofs.FoldKeys.{cases_same_name}
use Rattle.depend_order.specs.Repeats.{IsFirstRepeat}
use Rattle.depend_order.proofs.Repeated.{names_apart}

module _ (name_at : ℕ → Option (List ℕ)) where
  shares_or_not : (i j : ℕ) → i < j → ShareName name_at i j ⊎ (ShareName name_at i j → ⊥)
  shares_or_not i j before = go (name_at i) (name_at j) refl refl
    where
      go : (o p : Option (List ℕ)) → name_at i ≡ o → name_at j ≡ p → ShareName name_at i j ⊎ (ShareName name_at i j → ⊥)
      go None p at_i at_j = inr (λ s. none-some s.1 (sym at_i ∙ s.3))
      go (Some a) None at_i at_j = inr (λ s. none-some s.2 (sym at_j ∙ s.4))
      go (Some a) (Some b) at_i at_j = elim (cases_same_name a b) [
        | inl same ↦ inl (before, a, b, at_i, at_j, same)
        | inr differ ↦ inr (λ s.
            let here : a ≡ s.1 = same_Some a s.1 (sym at_i ∙ s.3) in
            let there : b ≡ s.2 = same_Some b s.2 (sym at_j ∙ s.4) in
            differ (ap fold_case here ∙ s.5 ∙ sym (ap fold_case there)))
      ]

  abbrev NoneShares : ℕ → ℕ → Type 0
  NoneShares j n = (k : ℕ) → k < n → ShareName name_at k j → ⊥

  -- the least place below n that shares its name with j
  least_sharing : (j n : ℕ) → n ≤ j → ((i : ℕ) × ShareName name_at i j × NoneShares j i) ⊎ NoneShares j n
  least_sharing j zero within = inr (λ k before s. absurd (omega (arith, before)))
  least_sharing j (suc n) within = elim (least_sharing j n (omega (arith, within))) [
    | inl found ↦ inl found
    | inr none ↦ elim (shares_or_not n j (omega (arith, within))) [
      | inl here ↦ inl (n, here, none)
      | inr apart ↦ inr (λ k before s.
          ⊎_elim (λ e. apart (subst (λ (m : ℕ). ShareName name_at m j) e s)) (λ ne. none k (omega arith) s) (cases_eq k n))
    ]
  ]

  abbrev Repeats : Type 0
  Repeats = (i : ℕ) × (j : ℕ) × IsFirstRepeat name_at i j

  abbrev NoneRepeats : ℕ → Type 0
  NoneRepeats n = (i j : ℕ) → j < n → ShareName name_at i j → ⊥

  repeats_below : (n : ℕ) → Repeats ⊎ NoneRepeats n
  repeats_below zero = inr (λ i j before s. absurd (omega (arith, before)))
  repeats_below (suc n) = elim (repeats_below n) [
    | inl found ↦ inl found
    | inr none ↦ elim (least_sharing n n (omega arith)) [
      | inl found ↦ inl (
        found.0,
        n,
        record {
          repeats = found.1;
          earliest = λ k l before s.
              ⊎_elim (λ less. none k l less s) (λ same. found.2 k same.1 (subst (λ (m : ℕ). ShareName name_at k m) same.0 s)) before;
        },
      )
      | inr apart ↦ inr (λ i j before s.
          ⊎_elim (λ e. let less : i < j = s.0 in apart i (omega arith) (subst (λ (m : ℕ). ShareName name_at i m) e s)) (λ ne. none i j (omega arith) s) (cases_eq j n))
    ]
  ]

pub repeats_or_apart : {A : Type 0} (name_of : A → List ℕ) (items : List A)
    → Repeats (λ k. option_map name_of (slice_get items k)) ⊎ AllPairs (λ a b. SameName (name_of a) (name_of b) → ⊥) items
repeats_or_apart {A} name_of items = elim (repeats_below name_at (length items)) [
  | inl found ↦ inl found
  | inr none ↦ inr (names_apart items name_of (λ i j s.
      ⊎_elim (λ less. none i j less s) (λ after. none-some s.2 (sym (ap (option_map name_of) (slice_get_past items j after)) ∙ s.4)) (cases_lt j (length items))))
]
  where
    name_at : ℕ → Option (List ℕ)
    name_at k = option_map name_of (slice_get items k)
