-- Names that mean places, and the first that means none.
use Rattle.std.proofs.Common.{◌≡◌, ℕ, ◌+◌, ◌<◌, List, ◌∷◌, ◌++◌, All, Some, length, take, drop, get_or, refl, sym, subst}
use Rattle.std.proofs.lemmas.Option.{MatchOption-at_some, get_or_from_slice_get, slice_get-get_or, slice_get_within}
use Rattle.std.proofs.lemmas.Slice.Zip.{AllZip-left}
use Rattle.std.specs.Global.{Vec}
use Rattle.std.specs.List.{AllZip}
use Rattle.std.specs.Prelude.{IsSomeAnd, slice_get}
use Rattle.dsc_terms.proofs.Splits.{split_at}
use Rattle.mof_values.specs.Fold.{SameName}
use Rattle.dsc_document.specs.declared.document.Document.{Document}
use Rattle.dsc_document.specs.declared.document.Resource.{Resource}
use Rattle.dsc_document.specs.Dependencies.{DependsOnUnknown, IsFirstUnknownId, IsId, Means, NamesResources}
use Rattle.depend_order.specs.Index.{AreResolved, Index, IsIndex, IsKept, IsKnown}
use Rattle.depend_order.specs.Repeats.{spot_of}
use Rattle.depend_order.proofs.Options.{some_of}
use Rattle.depend_order.proofs.Resolving.{kept_means, known_name}

-- what each element of a list has with one of another
all_zipped : {A B : Type 0} (R : A → B → Type 0) (P : A → Type 0) → ((x : A) (y : B) → R x y → P x) → (xs : List A) (ys : List B) → AllZip R xs ys → All P xs
all_zipped R P gives xs ys zipped k d within =
    let x = get_or xs k d in
    let found = some_of (slice_get ys k) (R x) (MatchOption-at_some (Unit {0}) (λ w. IsSomeAnd (slice_get ys k) (R w)) x (slice_get-get_or xs k d within) (AllZip-left R xs ys zipped k)) in
    gives x found.0 found.2

module _ (resources : List Resource) where
  means_id : (name : List ℕ) (q : ℕ) → Means resources name q → IsId resources name
  means_id name q means =
      let found = some_of (slice_get resources q) (λ r. SameName name r.id) means in
      (q, found.0, slice_get_within resources q found.0 found.1, get_or_from_slice_get resources q found.0 found.0 found.1, found.2)

  names_known : (resource : Resource) (places : Vec ℕ) → AllZip (Means resources) resource.depends places.items → All (IsId resources) resource.depends
  names_known resource places means = all_zipped (Means resources) (IsId resources) means_id resource.depends places.items means

  pub all_known : (some : List Resource) (depends : List (Vec ℕ)) → AreResolved resources some depends → All (λ (r : Resource). All (IsId resources) r.depends) some
  all_known some depends resolved =
      all_zipped (λ (r : Resource) (places : Vec ℕ). AllZip (Means resources) r.depends places.items) (λ (r : Resource). All (IsId resources) r.depends) names_known some depends resolved

  module _ (index : Index) (is_index : IsIndex resources index) (resource : Resource) (places : List ℕ) (name : List ℕ)
      (kept : AllZip (IsKept index) (take (length places) resource.depends) places) (at : slice_get resource.depends (length places) ≡ Some name)
      (unknown : IsKnown index name → ⊥) where
    depends_on : DependsOnUnknown resources resource name
    depends_on =
        let k = length places in
        record {
          known = take k resource.depends;
          rest = drop (k + 1) resource.depends;
          stands = subst (λ n. resource.depends ≡ take k resource.depends ++ n ∷ drop (k + 1) resource.depends) (get_or_from_slice_get resource.depends k name name at)
              (split_at resource.depends k name (slice_get_within resource.depends k name at));
          before = all_zipped (IsKept index) (IsId resources) (λ n q is. means_id n q (kept_means resources index is_index n q is)) (take k resource.depends) places kept;
          unknown = λ is. unknown (known_name resources index is_index name is);
        }

pub first_unknown : (document : Document) (index : Index) (is_index : IsIndex document.resources index) (r : ℕ) (resource : Resource) (depends : List (Vec ℕ)) (places : List ℕ) (name : List ℕ)
    → r < length document.resources → resource ≡ get_or document.resources r resource → AreResolved document.resources (take r document.resources) depends
    → AllZip (IsKept index) (take (length places) resource.depends) places → slice_get resource.depends (length places) ≡ Some name → (IsKnown index name → ⊥)
    → IsFirstUnknownId document (spot_of resource) name
first_unknown document index is_index r resource depends places name lt read resolved kept at unknown =
    let resources = document.resources in
    record {
      known = take r resources;
      resource = resource;
      rest = drop (r + 1) resources;
      stands = subst (λ x. resources ≡ take r resources ++ x ∷ drop (r + 1) resources) (sym read) (split_at resources r resource lt);
      before = all_known resources (take r resources) depends resolved;
      depends = depends_on resources index is_index resource places name kept at unknown;
      at = refl;
    }

pub names_resources : (document : Document) (depends : List (Vec ℕ)) → AreResolved document.resources document.resources depends → NamesResources document
names_resources document depends resolved = all_known document.resources document.resources depends resolved
