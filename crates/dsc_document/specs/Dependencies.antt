-- What the resources of a document depend on. Names compare by fold.
use Rattle.std.specs.Prelude.{◌≡◌, ℕ, List, ◌∷◌, ◌++◌, All, AllPairs, Any, IsSomeAnd, slice_get}
use Rattle.mof_values.specs.Fold.{SameName}
use Rattle.dsc_document.specs.declared.document.Document.{Document}
use Rattle.dsc_document.specs.declared.document.Resource.{Resource}
use Rattle.dsc_document.specs.declared.spot.Spot.{Spot}

-- the name is by fold the id of the resource at place q
abbrev pub Means : List Resource → List ℕ → ℕ → Type 0
Means resources name q = IsSomeAnd (slice_get resources q) (λ resource. SameName name resource.id)

-- the k-th name in the DependsOn of the resource at place r means q
abbrev pub Names : Document → ℕ → ℕ → ℕ → Type 0
Names document r k q =
    IsSomeAnd (slice_get document.resources r) (λ resource.
    IsSomeAnd (slice_get resource.depends k) (λ name. Means document.resources name q))

-- the id of q is by fold a name in the DependsOn of r
abbrev pub IsDependency : Document → ℕ → ℕ → Type 0
IsDependency document r q = (k : ℕ) × Names document r k q

-- the name is by fold the id of a resource
abbrev pub IsId : List Resource → List ℕ → Type 0
IsId resources name = Any (λ other. SameName name other.id) resources

-- each name in a DependsOn is by fold the id of a resource
abbrev pub NamesResources : Document → Type 0
NamesResources document = All (λ resource. All (IsId document.resources) resource.depends) document.resources

-- no two resources have ids with equal folds
abbrev pub HasDistinctIds : Document → Type 0
HasDistinctIds document = AllPairs (λ a b. SameName a.id b.id → ⊥) document.resources

-- the name is the first in the DependsOn of the resource that is no resource's id
pub record DependsOnUnknown (resources : List Resource) (resource : Resource) (name : List ℕ) : Type 0 where
  pub known : List (List ℕ)
  pub rest : List (List ℕ)
  pub stands : resource.depends ≡ known ++ name ∷ rest
  pub before : All (IsId resources) known
  pub unknown : IsId resources name → ⊥

-- the first resource that depends on what is no resource's id was declared at the spot, and the name is its first such
pub record IsFirstUnknownId (document : Document) (spot : Spot) (name : List ℕ) : Type 0 where
  pub known : List Resource
  pub resource : Resource
  pub rest : List Resource
  pub stands : document.resources ≡ known ++ resource ∷ rest
  pub before : All (λ earlier. All (IsId document.resources) earlier.depends) known
  pub depends : DependsOnUnknown document.resources resource name
  pub at : spot ≡ record { part = resource.part; index = resource.index }
