-- Whether a list has an element of which a decided fact holds, or a first one of which it does not hold, is decided.
use Rattle.std.proofs.Common.{◌≡◌, ◌⊎◌, inl, inr, ℕ, ◌<◌, List, [], ◌∷◌, ◌++◌, All, Option, Some, None, length, refl, sym, ap, ◌∙◌, subst, append-nil, append_assoc}
use Rattle.std.specs.Prelude.{Contains, IsSomeAnd, slice_get}
use Rattle.std.proofs.lemmas.Bool.{cases_lt}
use Rattle.std.proofs.lemmas.List.Elements.{All-nil, All-push}
use Rattle.std.proofs.lemmas.Option.{get_or_from_slice_get, none-some, slice_get_past, slice_get_read, slice_get_within}
use Rattle.dsc_document.proofs.Firsts.{at_split}
use Rattle.depend_order.proofs.Options.{some_is, some_of}
use Rattle.document_laws.proofs.Decided.{Decided, decided_as, some_decided}
use Rattle.document_laws.proofs.Least.{IsLeast, least_or_none, place_decided}

module _ {A : Type 0} (P : A → Type 0) (decided : (x : A) → Decided (P x)) (xs : List A) where
  abbrev pub HoldsThere : ℕ → Type 0
  HoldsThere k = IsSomeAnd (slice_get xs k) P

  within : (k : ℕ) → HoldsThere k → k < length xs
  within k holds = let here = some_of (slice_get xs k) P holds in slice_get_within xs k here.0 here.1

  member_of : ((k : ℕ) × HoldsThere k) → (x : A) × Contains xs x × P x
  member_of place =
      let here = some_of (slice_get xs place.0) P place.1 in
      (here.0, (place.0, slice_get_within xs place.0 here.0 here.1, get_or_from_slice_get xs place.0 here.0 here.0 here.1), here.2)

  place_of : ((x : A) × Contains xs x × P x) → (k : ℕ) × HoldsThere k
  place_of member =
      let there = member.1 in
      (there.0, some_is (slice_get xs there.0) P member.0 (slice_get_read xs (length xs) there.0 member.0 refl there.1 (sym there.2)) member.2)

  pub member_decided : Decided ((x : A) × Contains xs x × P x)
  member_decided = decided_as (place_decided HoldsThere (λ k. some_decided P decided (slice_get xs k)) (length xs) within) member_of place_of

  pub first_place_or_none : ((place : ℕ) × IsLeast HoldsThere place) ⊎ ((k : ℕ) → HoldsThere k → ⊥)
  first_place_or_none = least_or_none HoldsThere (λ k. some_decided P decided (slice_get xs k)) (length xs) within

  -- the first element of which the fact does not hold
  abbrev pub IsFirstWithout : A → Type 0
  IsFirstWithout x = (front : List A) × (rest : List A) × (xs ≡ front ++ x ∷ rest) × All P front × (P x → ⊥)

  without_from : (front rest : List A) → xs ≡ front ++ rest → All P front → ((x : A) × IsFirstWithout x) ⊎ All P xs
  without_from front [] split passed = inr (subst (All P) (sym (split ∙ append-nil front)) passed)
  without_from front (x ∷ rest) split passed = elim (decided x) [
    | inl holds ↦ without_from (front ++ x ∷ []) rest (split ∙ sym (append_assoc front (x ∷ []) rest)) (All-push P front x passed holds)
    | inr not ↦ inl (x, (front, rest, split, passed, not))
  ]

  pub first_without_decided : Decided ((x : A) × IsFirstWithout x)
  first_without_decided = elim (without_from [] xs refl (All-nil P)) [
    | inl found ↦ inl found
    | inr all ↦ inr (λ found. found.1.4 (at_split P xs found.1.0 found.1.1 found.0 found.1.2 all))
  ]

-- a place at which an element has something is within the list
pub within_list : {A B : Type 0} (of : Option A → Option B) (xs : List A) → of None ≡ None → (k : ℕ) (b : B) → of (slice_get xs k) ≡ Some b → k < length xs
within_list of xs nothing k b is = elim (cases_lt k (length xs)) [
  | inl within ↦ within
  | inr past ↦ absurd (none-some b (sym (ap of (slice_get_past xs k past) ∙ nothing) ∙ is))
]
