-- Of a decided relation between places and later ones there is a first pair, or there is none.
use Rattle.std.proofs.Common.{◌⊎◌, inl, inr, ℕ, ◌<◌, subst, ⊎_elim}
use Rattle.dsc_document.specs.Rules.{StandsBefore}
use Rattle.document_laws.proofs.Decided.{Decided}
use Rattle.document_laws.proofs.Least.{IsLeast, least_or_none, place_decided}

-- of the related pairs the one with the least second place, and then with the least first
pub record IsFirstPair (Related : ℕ → ℕ → Type 0) (first second : ℕ) : Type 0 where
  pub related : Related first second
  pub earliest : (i j : ℕ) → StandsBefore (j, i) (second, first) → Related i j → ⊥

module _ (Related : ℕ → ℕ → Type 0) (decided : (i j : ℕ) → Decided (Related i j)) (ordered : (i j : ℕ) → Related i j → i < j) where
  abbrev HasEarlier : ℕ → Type 0
  HasEarlier second = (first : ℕ) × Related first second

  earlier_decided : (second : ℕ) → Decided (HasEarlier second)
  earlier_decided second = place_decided (λ first. Related first second) (λ first. decided first second) second (λ first r. ordered first second r)

  first_of : (second : ℕ) → IsLeast HasEarlier second → (first : ℕ) × IsFirstPair Related first second
  first_of second is =
      elim (least_or_none (λ first. Related first second) (λ first. decided first second) second (λ first r. ordered first second r)) [
        | inl found ↦ (
          found.0,
          record {
            related = found.1.holds;
            earliest = λ i j before r.
                ⊎_elim (λ less. is.least j less (i, r)) (λ same. found.1.least i same.1 (subst (λ (k : ℕ). Related i k) same.0 r)) before;
          },
        )
        | inr none ↦ absurd (none is.holds.0 is.holds.1)
      ]

  pub pair_or_none : (bound : ℕ) → ((i j : ℕ) → Related i j → j < bound)
      → ((first : ℕ) × (second : ℕ) × IsFirstPair Related first second) ⊎ ((i j : ℕ) → Related i j → ⊥)
  pair_or_none bound within = elim (least_or_none HasEarlier earlier_decided bound (λ second has. within has.0 second has.1)) [
    | inl second ↦ let first = first_of second.0 second.1 in inl (first.0, second.0, first.1)
    | inr none ↦ inr (λ i j r. none j (i, r))
  ]
