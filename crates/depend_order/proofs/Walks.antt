-- Walks from each place that is left to its first dependency that is left.
use Rattle.std.proofs.Common.{◌≡◌, inl, inr, ℕ, List, [], ◌∷◌, ◌++◌, length, sym, ap, subst, arith, length-append}
use Rattle.std.specs.Prelude.{Contains}
use Rattle.dsc_terms.specs.Lists.{IsOnce}
use Rattle.depend_order.specs.Cycle.{IsLeastLeft, IsFirstLeft, IsWalk}
use Rattle.depend_order.proofs.Splits.{split_push, pair_push}

module _ (count : ℕ) (names : ℕ → ℕ → ℕ → Type 0) where
  pub walk_start : (r : ℕ) → IsLeastLeft count names r → IsWalk count names (r ∷ [])
  walk_start r least = record {
    begins = λ s b p. let same : r ≡ s = cc in subst (IsLeastLeft count names) same least;
    goes_on = λ a s t b p. absurd (omega (arith, ap length p, length-append a (s ∷ t ∷ b)));
  }

  pub walk_push : (walk : List ℕ) (r s : ℕ) → IsWalk count names (walk ++ r ∷ []) → IsFirstLeft count names r s → IsWalk count names ((walk ++ r ∷ []) ++ s ∷ [])
  walk_push walk r s so_far step = record {
    begins = λ t b p. elim (split_push (walk ++ r ∷ []) s [] t b p) [
      | inl last ↦ absurd (omega (arith, ap length last.0, length-append walk (r ∷ [])))
      | inr more ↦ so_far.begins t more.0 more.1
    ];
    goes_on = λ a t u b p. elim (pair_push (walk ++ r ∷ []) s a t u b p) [
      | inl last ↦ elim (split_push walk r a t [] last.0) [
        | inl end ↦ subst (IsFirstLeft count names t) last.1 (subst (λ (v : ℕ). IsFirstLeft count names v s) end.1 step)
        | inr early ↦ absurd (omega (arith, ap length last.0, ap length early.1, length-append walk (r ∷ []), length-append a (t ∷ []), length-append a (t ∷ early.0)))
      ]
      | inr more ↦ so_far.goes_on a t u more.0 more.1
    ];
  }

pub once_push : (list : List ℕ) (r : ℕ) → IsOnce list → (Contains list r → ⊥) → IsOnce (list ++ r ∷ [])
once_push list r once absent a s b p has = elim (split_push list r a s b p) [
  | inl last ↦ absent (subst (λ (t : ℕ). Contains list t) (sym last.1) (subst (λ (l : List ℕ). Contains l s) (sym last.0) has))
  | inr more ↦ once a s more.0 more.1 has
]
