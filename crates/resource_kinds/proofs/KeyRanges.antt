-- The first key that is not before a text says whether some key begins with it.
use Rattle.std.proofs.Common.{◌≡◌, ◌↔◌, inl, inr, ℕ, Bool, true, false, cond, IsTrue, nat_eq, List, [], ◌∷◌, ◌++◌, Option, Some, None, Vec, refl, sym, ◌∙◌, ap, subst}
use Rattle.std.proofs.lemmas.Bool.{cases_Bool}
use Rattle.std.proofs.lemmas.Map.Text.{is_eq-slice_cmp}
use Rattle.std.proofs.lemmas.Option.{none-some}
use Rattle.std.proofs.lemmas.Slice.Eq.{bytes_eq-Decides}
use Rattle.std.specs.BTreeMap.{BTreeMap, get_by, is_at}
use Rattle.std.specs.BTreeMap.Range.{IsEntryInRange, IsLeBy, IsRangeOf}
use Rattle.std.specs.Cmp.Lexicographic.{slice_cmp}
use Rattle.std.specs.List.{slice_get, starts_with}
use Rattle.std.specs.Map.{lookup}
use Rattle.std.specs.Option.{IfSome, IsSome}
use Rattle.std.specs.Ordering.{is_gt, nat_cmp}
use Rattle.std.specs.declared.ops.Bound.TheVariants.{Included, Unbounded}
use Rattle.resource_kinds.proofs.KeyFronts.{begins_between, begins_split, begins_with, not_after_longer}

-- a value that is found stands at a key that passes
found_key : {K X : Type 0} (test : K → Bool) (entries : List (K × X)) (value : X) → lookup test entries ≡ Some value → (key : K) × (test key ≡ true)
found_key test [] value is = absurd (none-some value is)
found_key test (entry ∷ entries) value is = elim (cases_Bool (test entry.0)) [
  | inl passes ↦ (entry.0, passes)
  | inr fails ↦ found_key test entries value (sym (ap (λ (b : Bool). cond b (Some entry.1) (lookup test entries)) fails) ∙ is)
]

module _ {Y : Type 0} (map : BTreeMap (Vec ℕ Y) ℕ) where
  -- what is kept at a text
  abbrev kept : List ℕ → Option ℕ
  kept bytes = get_by (λ (key : Vec ℕ Y). slice_cmp nat_cmp bytes key.items) map

  key_at : (bytes : List ℕ) (place : ℕ) → kept bytes ≡ Some place → (key : Vec ℕ Y) × (key.items ≡ bytes)
  key_at bytes place is =
      let found = found_key (is_at (λ (key : Vec ℕ Y). slice_cmp nat_cmp bytes key.items)) map.entries place is in
      (found.0, sym ((bytes_eq-Decides bytes found.0.items).0 (sym (is_eq-slice_cmp bytes found.0.items) ∙ found.1)))

  module _ (front : Vec ℕ Y) (range : List (Vec ℕ Y × ℕ))
      (is : IsRangeOf (λ (a b : Vec ℕ Y). slice_cmp nat_cmp a.items b.items) (Included front) Unbounded map range) where
    -- the key of a text that begins so is in the range
    in_range : (key : Vec ℕ Y) (rest : List ℕ) → key.items ≡ front.items ++ rest → is_gt (slice_cmp nat_cmp front.items key.items) ≡ false
    in_range key rest begins = ap (λ (l : List ℕ). is_gt (slice_cmp nat_cmp front.items l)) begins ∙ not_after_longer front.items rest

    at_key : (key : Vec ℕ Y) (rest : List ℕ) (place : ℕ) → key.items ≡ front.items ++ rest → kept (front.items ++ rest) ≡ Some place → kept key.items ≡ Some place
    at_key key rest place begins found = ap kept begins ∙ found

    pub none_begins : range ≡ [] → (rest : List ℕ) (place : ℕ) → kept (front.items ++ rest) ≡ Some place → ⊥
    none_begins empty rest place found =
        let (key, begins) = key_at (front.items ++ rest) place found in
        none-some place (sym (is.5 empty key (in_range key rest begins, tt)) ∙ at_key key rest place begins found)

    module _ (key : Vec ℕ Y) (place : ℕ) (others : List (Vec ℕ Y × ℕ)) (first : range ≡ (key, place) ∷ others) where
      -- it is in the range, and kept
      entry : IsEntryInRange (λ (a b : Vec ℕ Y). slice_cmp nat_cmp a.items b.items) (Included front) Unbounded map (key, place)
      entry =
          subst (λ (r : List (Vec ℕ Y × ℕ)). IfSome (slice_get r 0) (IsEntryInRange (λ (a b : Vec ℕ Y). slice_cmp nat_cmp a.items b.items) (Included front) Unbounded map))
          first is.1

      -- each other key of the range is after it
      is_least : (other : Vec ℕ Y) (rest : List ℕ) (at : ℕ) → other.items ≡ front.items ++ rest → kept (front.items ++ rest) ≡ Some at
          → is_gt (slice_cmp nat_cmp key.items other.items) ≡ false
      is_least other rest at spelled found =
          subst (λ (r : List (Vec ℕ Y × ℕ)). IfSome (slice_get r 0) (λ e. IsLeBy (λ (a b : Vec ℕ Y). slice_cmp nat_cmp a.items b.items) e.0 other)) first
          (is.2 other (in_range other rest spelled, tt) (subst IsSome (sym (at_key other rest at spelled found)) refl))

      begins : starts_with nat_eq key.items front.items ≡ true → (rest : List ℕ) × (at : ℕ) × (kept (front.items ++ rest) ≡ Some at)
      begins holds =
          let (rest, spelled) = begins_split key.items front.items holds in
          (rest, place, ap kept (sym spelled) ∙ entry.1)

      begins_back : (rest : List ℕ) (at : ℕ) → kept (front.items ++ rest) ≡ Some at → starts_with nat_eq key.items front.items ≡ true
      begins_back rest at found =
          let (other, spelled) = key_at (front.items ++ rest) at found in
          let high = ap (λ (l : List ℕ). is_gt (slice_cmp nat_cmp key.items l)) (sym spelled) ∙ is_least other rest at spelled found in
          let (more, begun) = begins_between front.items key.items rest entry.0.0 high in
          begins_with key.items front.items more begun

      pub first_tells : IsTrue (starts_with nat_eq key.items front.items) ↔ ((rest : List ℕ) × (at : ℕ) × (kept (front.items ++ rest) ≡ Some at))
      first_tells = (begins, λ (rest, at, found). begins_back rest at found)
