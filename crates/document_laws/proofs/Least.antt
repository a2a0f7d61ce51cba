-- Of a decided fact on places, all of which are below a bound, there is a least place where it holds, or there is none.
use Rattle.std.proofs.Common.{◌⊎◌, inl, inr, ℕ, zero, suc, ◌<◌, subst, arith}
use Rattle.std.proofs.lemmas.Bool.{cases_eq}
use Rattle.document_laws.proofs.Decided.{Decided}

-- the fact holds at the place, and at none before it
pub record IsLeast (P : ℕ → Type 0) (place : ℕ) : Type 0 where
  pub holds : P place
  pub least : (k : ℕ) → k < place → P k → ⊥

module _ (P : ℕ → Type 0) (decided : (k : ℕ) → Decided (P k)) where
  least_below : (n : ℕ) → ((place : ℕ) × IsLeast P place) ⊎ ((k : ℕ) → k < n → P k → ⊥)
  least_below zero = inr (λ k before p. absurd (omega (arith, before)))
  least_below (suc n) = elim (least_below n) [
    | inl found ↦ inl found
    | inr none ↦ elim (decided n) [
      | inl here ↦ inl (n, record { holds = here; least = none })
      | inr not ↦ inr (λ k before p. elim (cases_eq k n) [
        | inl same ↦ not (subst P same p)
        | inr differs ↦ none k (omega (arith, before, differs)) p
      ])
    ]
  ]

  pub least_or_none : (bound : ℕ) → ((k : ℕ) → P k → k < bound) → ((place : ℕ) × IsLeast P place) ⊎ ((k : ℕ) → P k → ⊥)
  least_or_none bound within = elim (least_below bound) [
    | inl found ↦ inl found
    | inr none ↦ inr (λ k p. none k (within k p) p)
  ]

  pub place_decided : (bound : ℕ) → ((k : ℕ) → P k → k < bound) → Decided ((k : ℕ) × P k)
  place_decided bound within = elim (least_or_none bound within) [
    | inl found ↦ inl (found.0, found.1.holds)
    | inr none ↦ inr (λ held. none held.0 held.1)
  ]
