-- The places of resources by the folds of their ids.
use Rattle.std.specs.Prelude.{◌≡◌, ℕ, List, Option, Some, IsSome, IsSomeAnd, slice_get, nat_eq}
use Rattle.std.specs.List.{AllZip}
use Rattle.std.specs.Cmp.Lexicographic.{pointwise}
use Rattle.std.specs.Global.{Vec}
use Rattle.std.specs.HashMap.{HashMap, get}
use Rattle.std.specs.declared.hash.BuildHasherDefault.{BuildHasherDefault}
use Rattle.std.specs.declared.hash.FoldHasher.{FoldHasher}
use Rattle.dsc_document.specs.declared.document.Document.{Document}
use Rattle.dsc_document.specs.declared.document.Resource.{Resource}
use Rattle.mof_values.specs.Fold.{fold_case}
use Rattle.dsc_document.specs.Dependencies.{Means}

abbrev pub Index : Type 0
Index = HashMap (Vec ℕ) ℕ (BuildHasherDefault FoldHasher)

-- the place that is kept for a fold
abbrev pub place_at : Index → Vec ℕ → Option ℕ
place_at index fold = get (λ x y. pointwise nat_eq x.items y.items) index fold

-- the resource at q has this fold
abbrev pub HasFold : List Resource → Vec ℕ → ℕ → Type 0
HasFold resources fold q = IsSomeAnd (slice_get resources q) (λ resource. fold.items ≡ fold_case resource.id)

-- what is kept are places of resources with that fold, and something is kept for each resource
pub record IsIndex (resources : List Resource) (index : Index) : Type 0 where
  pub sound : (fold : Vec ℕ) (q : ℕ) → place_at index fold ≡ Some q → HasFold resources fold q
  pub whole : (fold : Vec ℕ) (q : ℕ) → HasFold resources fold q → IsSome (place_at index fold)

-- something is kept for the fold of the name
abbrev pub IsKnown : Index → List ℕ → Type 0
IsKnown index name = (fold : Vec ℕ) → fold.items ≡ fold_case name → IsSome (place_at index fold)

-- q is kept for the fold of the name
abbrev pub IsKept : Index → List ℕ → ℕ → Type 0
IsKept index name q = (fold : Vec ℕ) × (fold.items ≡ fold_case name) × (place_at index fold ≡ Some q)

-- the k-th number for a resource is the place that the k-th name in its DependsOn means
abbrev pub AreResolved : List Resource → List Resource → List (Vec ℕ) → Type 0
AreResolved all resources depends =
    AllZip (λ resource places. AllZip (Means all) resource.depends places.items) resources depends

-- the same of all resources of the document
abbrev pub AreResolvedIn : Document → List (Vec ℕ) → Type 0
AreResolvedIn document depends = AreResolved document.resources document.resources depends
