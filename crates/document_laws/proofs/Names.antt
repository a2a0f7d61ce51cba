-- Whether places share a name, and whether a name is that of a place, is decided. Names compare by fold.
use Rattle.std.proofs.Common.{◌≡◌, ◌⊎◌, inl, inr, ℕ, ◌<◌, List, Option, Some, None, refl, sym, ap, ◌∙◌}
use Rattle.std.proofs.lemmas.Option.{none-some, same_Some}
use Rattle.mof_values.specs.Fold.{SameName, fold_case}
use Rattle.dsc_document.specs.Names.{IsName, ShareName}
use Rattle.dsc_document.proofs.FoldKeys.{cases_same_name}
use Rattle.document_laws.proofs.Decided.{Decided, both_decided, decided_as, less_decided}
use Rattle.document_laws.proofs.Least.{place_decided}
use Rattle.document_laws.proofs.Pairs.{IsFirstPair, pair_or_none}

-- the first option has a name, and the second has the same one
abbrev HaveSameName : Option (List ℕ) → Option (List ℕ) → Type 0
HaveSameName one other = (a : List ℕ) × (b : List ℕ) × (one ≡ Some a) × (other ≡ Some b) × SameName a b

same_name_decided : (one other : Option (List ℕ)) → Decided (HaveSameName one other)
same_name_decided None other = inr (λ same. none-some same.0 same.2)
same_name_decided (Some a) None = inr (λ same. none-some same.1 same.3)
same_name_decided (Some a) (Some b) = elim (cases_same_name a b) [
  | inl same ↦ inl (a, b, refl, refl, same)
  | inr differ ↦ inr (λ same. differ (ap fold_case (same_Some a same.0 same.2) ∙ same.4 ∙ sym (ap fold_case (same_Some b same.1 same.3))))
]

-- the option has a name that is the same as the given one
abbrev IsNamed : Option (List ℕ) → List ℕ → Type 0
IsNamed one name = (other : List ℕ) × (one ≡ Some other) × SameName other name

named_decided : (one : Option (List ℕ)) (name : List ℕ) → Decided (IsNamed one name)
named_decided None name = inr (λ named. none-some named.0 named.1)
named_decided (Some other) name = elim (cases_same_name other name) [
  | inl same ↦ inl (other, refl, same)
  | inr differ ↦ inr (λ named. differ (ap fold_case (same_Some other named.0 named.1) ∙ named.2))
]

-- the places that have a name are below the bound
module _ (name_at : ℕ → Option (List ℕ)) (bound : ℕ) (within : (k : ℕ) (name : List ℕ) → name_at k ≡ Some name → k < bound) where
  shared_decided : (first second : ℕ) → Decided (ShareName name_at first second)
  shared_decided first second =
      decided_as (both_decided (less_decided first second) (same_name_decided (name_at first) (name_at second)))
      (λ found. (found.0, found.1.0, found.1.1, found.1.2, found.1.3, found.1.4))
      (λ shared. (shared.0, (shared.1, shared.2, shared.3, shared.4, shared.5)))

  pub shared_or_apart : ((first : ℕ) × (second : ℕ) × IsFirstPair (ShareName name_at) first second) ⊎ ((i j : ℕ) → ShareName name_at i j → ⊥)
  shared_or_apart = pair_or_none (ShareName name_at) shared_decided (λ i j shared. shared.0) bound (λ i j shared. within j shared.2 shared.4)

  pub name_decided : (name : List ℕ) → Decided (IsName name_at name)
  name_decided name =
      decided_as (place_decided (λ k. IsNamed (name_at k) name) (λ k. named_decided (name_at k) name) bound (λ k named. within k named.0 named.1))
      (λ found. (found.0, found.1.0, found.1.1, found.1.2))
      (λ named. (named.0, (named.1, named.2, named.3)))
