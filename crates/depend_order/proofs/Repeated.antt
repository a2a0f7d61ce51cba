-- Names of which no two are the same, and the first id that stands twice.
use Rattle.std.proofs.Common.{◌≡◌, ℕ, ◌+◌, ◌<◌, ◌≤◌, List, length, take, AllPairs, Option, Some, None, is_some, option_map, inl, inr, get_or, length-take-le, refl, sym, ap, ◌∙◌, ⊎_elim, arith}
use Rattle.std.proofs.lemmas.Bool.{cases_eq, false≢true}
use Rattle.std.proofs.lemmas.List.{get_or-take}
use Rattle.std.proofs.lemmas.Option.{none-some, same_Some, get_or_from_slice_get, slice_get-get_or, slice_get_within}
use Rattle.std.specs.Global.{Vec}
use Rattle.std.specs.Prelude.{slice_get, slice_index_or}
use Rattle.mof_values.specs.Fold.{SameName, fold_case}
use Rattle.dsc_document.specs.Names.{ShareName}
use Rattle.dsc_document.specs.declared.document.Resource.{Resource}
use Rattle.depend_order.specs.Index.{Index, IsIndex, place_at}
use Rattle.depend_order.specs.Repeats.{IsFirstRepeat, id_at}
use Rattle.depend_order.proofs.Options.{some_of, some_is}

-- where no two places share a name, the names differ
pub names_apart : {A : Type 0} (items : List A) (name_of : A → List ℕ) → ((i j : ℕ) → ShareName (λ k. option_map name_of (slice_get items k)) i j → ⊥)
    → AllPairs (λ a b. SameName (name_of a) (name_of b) → ⊥) items
names_apart items name_of none i j d before within same =
    none i j (
      before,
      name_of (slice_index_or items i d),
      name_of (slice_index_or items j d),
      ap (option_map name_of) (slice_get-get_or items i d (omega (arith, before, within))),
      ap (option_map name_of) (slice_get-get_or items j d within),
      same,
    )

module _ (resources : List Resource) where
  -- no two of the first n have the same id
  abbrev pub Apart : ℕ → Type 0
  Apart n = (a b : ℕ) → b < n → ShareName (id_at resources) a b → ⊥

  pub none_apart : Apart 0
  none_apart a b below shared = absurd (omega (arith, below))

  id_here : (k : ℕ) (resource : Resource) → slice_get resources k ≡ Some resource → id_at resources k ≡ Some resource.id
  id_here k resource at = ap (option_map (λ (r : Resource). r.id)) at

  resource_at : (k : ℕ) (id : List ℕ) → id_at resources k ≡ Some id → (resource : Resource) × (slice_get resources k ≡ Some resource) × (resource.id ≡ id)
  resource_at k id is = go (slice_get resources k) refl
    where
      go : (o : Option Resource) → slice_get resources k ≡ o → (resource : Resource) × (slice_get resources k ≡ Some resource) × (resource.id ≡ id)
      go None at = absurd (none-some id (sym (ap (option_map (λ (r : Resource). r.id)) at) ∙ is))
      go (Some resource) at = (resource, at, same_Some resource.id id (sym (id_here k resource at) ∙ is))

  module _ (n : ℕ) (within : n ≤ length resources) where
    short : length (take n resources) ≡ n
    short = length-take-le n resources within

    after_front : (k : ℕ) (r : Resource) → slice_get (take n resources) k ≡ Some r → (k < n) × (slice_get resources k ≡ Some r)
    after_front k r at =
        let below : k < length (take n resources) = slice_get_within (take n resources) k r at in
        let less : k < n = omega (arith, below, short) in
        (less, slice_get-get_or resources k r (omega (arith, less, within)) ∙ ap Some (sym (get_or-take n resources k r less) ∙ get_or_from_slice_get (take n resources) k r r at))

    in_front : (k : ℕ) (r : Resource) → k < n → slice_get resources k ≡ Some r → slice_get (take n resources) k ≡ Some r
    in_front k r less at =
        slice_get-get_or (take n resources) k r (omega (arith, less, short)) ∙ ap Some (get_or-take n resources k r less ∙ get_or_from_slice_get resources k r r at)

  -- the next resource, whose key is looked up in the index of those before it
  module _ (n : ℕ) (resource : Resource) (index : Index) (key : Vec ℕ) (lt : n < length resources) (read : resource ≡ get_or resources n resource)
      (is : key.items ≡ fold_case resource.id) (so_far : IsIndex (take n resources) index) (apart : Apart n) where
    id_is : id_at resources n ≡ Some resource.id
    id_is = id_here n resource (slice_get-get_or resources n resource lt ∙ ap Some (sym read))

    its_id : (k : ℕ) (id : List ℕ) → k ≡ n → id_at resources k ≡ Some id → id ≡ resource.id
    its_id k id at named = same_Some id resource.id (sym named ∙ ap (id_at resources) at ∙ id_is)

    module _ (first : ℕ) (kept : place_at index key ≡ Some first) where
      pub earlier : (other : Resource) × (first < n) × (id_at resources first ≡ Some other.id) × SameName other.id resource.id
      earlier =
          let found = some_of (slice_get (take n resources) first) (λ r. key.items ≡ fold_case r.id) (so_far.sound key first kept) in
          let at = after_front n (omega (arith, lt)) first found.0 found.1 in
          (found.0, at.0, id_here first found.0 at.1, sym found.2 ∙ is)

      pub first_repeat : IsFirstRepeat (id_at resources) first n
      first_repeat = record {
        repeats = (earlier.1, earlier.0.id, resource.id, earlier.2, id_is, earlier.3);
        earliest = λ a b before shared.
            ⊎_elim
            (λ less. apart a b less shared)
            (λ same. apart a first earlier.1 (same.1, shared.1, earlier.0.id, shared.3, earlier.2, shared.5 ∙ ap fold_case (its_id b shared.2 same.0 shared.4) ∙ sym earlier.3))
            before;
      }

    absent : (a : ℕ) (id : List ℕ) → place_at index key ≡ None → a < n → id_at resources a ≡ Some id → SameName id resource.id → ⊥
    absent a id free less named same =
        let other = resource_at a id named in
        let held = so_far.whole key a (some_is (slice_get (take n resources) a) (λ r. key.items ≡ fold_case r.id) other.0 (in_front n (omega (arith, lt)) a other.0 less other.1)
        (is ∙ sym (ap fold_case other.2 ∙ same))) in
        false≢true (sym (ap (λ (o : Option ℕ). is_some o) free) ∙ held)

    pub one_more : place_at index key ≡ None → Apart (n + 1)
    one_more free a b below shared = elim (cases_eq b n) [
      | inl here ↦ let less : a < b = shared.0 in absent a shared.1 free (omega (arith, less, here)) shared.3 (shared.5 ∙ ap fold_case (its_id b shared.2 here shared.4))
      | inr ne ↦ apart a b (omega (arith, below, ne)) shared
    ]

  -- all of them
  pub all_apart : Apart (length resources) → AllPairs (λ a b. SameName a.id b.id → ⊥) resources
  all_apart apart = names_apart resources (λ (r : Resource). r.id) (λ a b shared.
      let there = resource_at b shared.2 shared.4 in apart a b (slice_get_within resources b there.0 there.1) shared)

-- where the ids differ, no two places share one
pub never_shared : (resources : List Resource) → AllPairs (λ a b. SameName a.id b.id → ⊥) resources → (a b : ℕ) → ShareName (id_at resources) a b → ⊥
never_shared resources apart a b shared =
    let first = resource_at resources a shared.1 shared.3 in
    let second = resource_at resources b shared.2 shared.4 in
    let here = ap (λ (r : Resource). fold_case r.id) (get_or_from_slice_get resources a first.0 first.0 first.1) ∙ ap fold_case first.2 in
    let there = ap (λ (r : Resource). fold_case r.id) (get_or_from_slice_get resources b second.0 first.0 second.1) ∙ ap fold_case second.2 in
    apart a b first.0 shared.0 (slice_get_within resources b second.0 second.1) (here ∙ shared.5 ∙ sym there)
