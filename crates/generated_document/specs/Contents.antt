-- What stands in a generated document.
use Rattle.std.specs.Prelude.{◌≡◌, ℕ, zero, suc, ◌+◌, ◌/◌, List, [], ◌∷◌, length, IsSomeAnd, slice_get, codes}
use Rattle.dsc_document.specs.declared.document.Document.{Document}
use Rattle.dsc_document.specs.declared.document.Resource.{Resource}
use Rattle.generated_document.specs.Generated.{generated_resource, id_of_number}

-- the names on which the resource of this number depends
abbrev pub depends_of_number : ℕ → List (List ℕ)
depends_of_number zero = []
depends_of_number (suc i) = id_of_number (i / 2) ∷ []

pub record IsResourceOf (i : ℕ) (resource : Resource) : Type 0 where
  pub id : resource.id ≡ id_of_number i
  pub instance : resource.instance ≡ generated_resource i
  pub depends : resource.depends ≡ depends_of_number i

-- the document has that many resources, that of number i at the place that leaves i of them after it, and no other instances are kept
pub record HasContents (count : ℕ) (document : Document) : Type 0 where
  pub version : document.version ≡ codes "2.0.0"
  pub resources : length document.resources ≡ count
  pub each : (k i : ℕ) → k + i + 1 ≡ count → IsSomeAnd (slice_get document.resources k) (IsResourceOf i)
  pub others : document.others ≡ []
