-- The index of resources by the folds of their ids, and the places that names mean.
use Rattle.std.proofs.Common.{◌≡◌, inl, inr, ℕ, ◌+◌, ◌<◌, Bool, true, false, cond, List, [], ◌∷◌, ◌++◌, Some, None, is_some, length, take, get_or, length-take-le, refl, sym, ◌∙◌, ap, subst, arith}
use Rattle.std.proofs.lemmas.Bool.{cases_Bool, both_ways, false≢true}
use Rattle.std.proofs.lemmas.List.{take_more}
use Rattle.std.proofs.lemmas.Option.{same_Some, get_or_from_slice_get, slice_get-get_or}
use Rattle.std.proofs.lemmas.Slice.Zip.{all_zipped_more}
use Rattle.std.proofs.lemmas.Slice.Eq.{bytes_eq-Decides}
use Rattle.std.specs.Cmp.Lexicographic.{pointwise}
use Rattle.std.specs.Global.{Vec}
use Rattle.std.specs.HashMap.{Updates}
use Rattle.std.specs.List.{AllZip}
use Rattle.std.specs.Prelude.{IsSome, IsSomeAnd, nat_eq, slice_get}
use Rattle.std.specs.Str.{bytes_eq}
use Rattle.dsc_document.specs.declared.document.Resource.{Resource}
use Rattle.mof_values.specs.Fold.{fold_case, SameName}
use Rattle.dsc_document.specs.Dependencies.{IsId, Means}
use Rattle.depend_order.specs.Index.{Index, IsIndex, IsKnown, IsKept, AreResolved, place_at}
use Rattle.depend_order.proofs.Options.{some_of, some_is, get_push, get-push_left, get-push_last}

module _ {A B : Type 0} (R : A → B → Type 0) where
  pub all_zip_weaker : (S : A → B → Type 0) → ((x : A) (y : B) → R x y → S x y) → (xs : List A) (ys : List B) → AllZip R xs ys → AllZip S xs ys
  all_zip_weaker S f [] [] all = all
  all_zip_weaker S f [] (w ∷ ys) all = absurd all
  all_zip_weaker S f (v ∷ xs) [] all = absurd all
  all_zip_weaker S f (v ∷ xs) (w ∷ ys) all = (f v w all.0, all_zip_weaker S f xs ys all.1)

-- one resource more is kept
module _ (resources : List Resource) (index new : Index) (resource : Resource) (key : Vec ℕ) (is : key.items ≡ fold_case resource.id)
    (so_far : IsIndex resources index) (updates : Updates (λ (x y : Vec ℕ). pointwise nat_eq x.items y.items) index new key (Some (length resources))) where
  at_key : (fold : Vec ℕ) → bytes_eq key.items fold.items ≡ true → place_at new fold ≡ Some (length resources)
  at_key fold same = updates.0 fold ∙ ap (λ (b : Bool). cond b (Some (length resources)) (place_at index fold)) same

  elsewhere : (fold : Vec ℕ) → bytes_eq key.items fold.items ≡ false → place_at new fold ≡ place_at index fold
  elsewhere fold other = updates.0 fold ∙ ap (λ (b : Bool). cond b (Some (length resources)) (place_at index fold)) other

  sound : (fold : Vec ℕ) (q : ℕ) → place_at new fold ≡ Some q → IsSomeAnd (slice_get (resources ++ resource ∷ []) q) (λ r. fold.items ≡ fold_case r.id)
  sound fold q kept = elim (cases_Bool (bytes_eq key.items fold.items)) [
    | inl same ↦
        let place : length resources ≡ q = same_Some (length resources) q (sym (at_key fold same) ∙ kept) in
        let last : slice_get (resources ++ resource ∷ []) q ≡ Some resource = subst (λ (n : ℕ). slice_get (resources ++ resource ∷ []) n ≡ Some resource) place (get-push_last resources resource) in
        some_is (slice_get (resources ++ resource ∷ []) q) (λ r. fold.items ≡ fold_case r.id) resource last (sym ((bytes_eq-Decides key.items fold.items).0 same) ∙ is)
    | inr other ↦
        let before = some_of (slice_get resources q) (λ r. fold.items ≡ fold_case r.id) (so_far.sound fold q (sym (elsewhere fold other) ∙ kept)) in
        some_is (slice_get (resources ++ resource ∷ []) q) (λ r. fold.items ≡ fold_case r.id) before.0 (get-push_left resources resource q before.0 before.1) before.2
  ]

  whole : (fold : Vec ℕ) (q : ℕ) → IsSomeAnd (slice_get (resources ++ resource ∷ []) q) (λ r. fold.items ≡ fold_case r.id) → IsSome (place_at new fold)
  whole fold q named = elim (cases_Bool (bytes_eq key.items fold.items)) [
    | inl same ↦ rw (at_key fold same) refl
    | inr other ↦
        let here = some_of (slice_get (resources ++ resource ∷ []) q) (λ r. fold.items ≡ fold_case r.id) named in
        elim (get_push resources resource q here.0 here.1) [
          | inl before ↦ rw (elsewhere fold other) (so_far.whole fold q (some_is (slice_get resources q) (λ r. fold.items ≡ fold_case r.id) here.0 before here.2))
          | inr last ↦ absurd (both_ways (bytes_eq key.items fold.items) other ((bytes_eq-Decides key.items fold.items).1 (is ∙ ap (λ (r : Resource). fold_case r.id) last.1 ∙ sym here.2)))
        ]
  ]

  pub IsIndex-push : IsIndex (resources ++ resource ∷ []) new
  IsIndex-push = record { sound = sound; whole = whole }

-- the next resource of a list is kept
pub IsIndex-more : (resources : List Resource) (index new : Index) (i : ℕ) (resource : Resource) (key : Vec ℕ) → i < length resources → resource ≡ get_or resources i resource
    → key.items ≡ fold_case resource.id → IsIndex (take i resources) index → Updates (λ (x y : Vec ℕ). pointwise nat_eq x.items y.items) index new key (Some i) → IsIndex (take (i + 1) resources) new
IsIndex-more resources index new i resource key lt read is so_far updates =
    let front : length (take i resources) ≡ i = length-take-le i resources (omega arith) in
    rw (take_more resources i resource lt, ← read) (IsIndex-push (take i resources) index new resource key is so_far (rw front updates))

-- what the index says of the next name of a list
module _ (index : Index) (names : List (List ℕ)) where
  pub none_known : (i : ℕ) (item : List ℕ) (fold : Vec ℕ) → item ≡ get_or names i item → fold.items ≡ fold_case item → None ≡ place_at index fold
      → (name : List ℕ) → slice_get names i ≡ Some name → IsKnown index name → ⊥
  none_known i item fold read is none name at known =
      let same : name ≡ item = sym (get_or_from_slice_get names i name item at) ∙ sym read in
      let some = known fold (is ∙ ap fold_case (sym same)) in
      let h : is_some {T = ℕ} None ≡ true = rw (← none) at some in
      false≢true h

  pub kept_more : (places : List ℕ) (i : ℕ) (name : List ℕ) (q : ℕ) (fold : Vec ℕ) → i < length names → name ≡ get_or names i name → fold.items ≡ fold_case name → Some q ≡ place_at index fold
      → AllZip (IsKept index) (take i names) places → AllZip (IsKept index) (take (i + 1) names) (places ++ q ∷ [])
  kept_more places i name q fold lt read is kept so_far =
      rw (take_more names i name lt, ← read) (all_zipped_more (IsKept index) (take i names) places name q so_far (fold, is, sym kept))

module _ (resources : List Resource) (index : Index) (all : IsIndex resources index) where
  pub kept_means : (name : List ℕ) (q : ℕ) → IsKept index name q → Means resources name q
  kept_means name q kept =
      let found = some_of (slice_get resources q) (λ r. kept.0.items ≡ fold_case r.id) (all.sound kept.0 q kept.2) in
      some_is (slice_get resources q) (λ r. SameName name r.id) found.0 found.1 (sym kept.1 ∙ found.2)

  -- a name that is an id is known to the index
  pub known_name : (name : List ℕ) → IsId resources name → IsKnown index name
  known_name name named fold is =
      let there : slice_get resources named.0 ≡ Some named.1 = slice_get-get_or resources named.0 named.1 named.2 ∙ ap Some named.3 in
      all.whole fold named.0 (some_is (slice_get resources named.0) (λ r. fold.items ≡ fold_case r.id) named.1 there (is ∙ named.4))

  -- the names of one resource more are resolved
  pub resolved_more : (depends : List (Vec ℕ)) (i : ℕ) (resource : Resource) (places : Vec ℕ) → i < length resources → resource ≡ get_or resources i resource
      → AllZip (IsKept index) resource.depends places.items → AreResolved resources (take i resources) depends → AreResolved resources (take (i + 1) resources) (depends ++ places ∷ [])
  resolved_more depends i resource places lt read kept so_far =
      rw (take_more resources i resource lt, ← read)
      (all_zipped_more (λ (r : Resource) (ps : Vec ℕ). AllZip (Means resources) r.depends ps.items) (take i resources) depends resource places so_far (all_zip_weaker (IsKept index) (Means resources) kept_means resource.depends places.items kept))
