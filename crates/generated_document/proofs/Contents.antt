-- What stands in the document of the part that spells generated instances.
use Rattle.std.proofs.Common.{◌≡◌, ℕ, zero, suc, ◌+◌, List, [], ◌∷◌, ◌++◌, Some, IsSomeAnd, filter, find, length, slice_get, refl, sym, ap, subst, arith}
use Rattle.std.specs.Option.{option_map_or}
use Rattle.mof_values.specs.declared.instance.Instance.{Instance}
use Rattle.mof_syntax.specs.Refusals.{Reads}
use Rattle.dsc_document.specs.declared.document.Document.{Document}
use Rattle.dsc_document.specs.Declarations.{depends_of, is_header, is_other, version_of}
use Rattle.partial_merge.specs.declared.part.Part.{Part}
use Rattle.partial_merge.specs.Parts.{AreParts}
use Rattle.generated_document.specs.Contents.{HasContents, IsResourceOf, depends_of_number}
use Rattle.generated_document.specs.Generated.{generated_header, generated_instances, generated_resource}
use Rattle.generated_document.proofs.Resources.{document_is, resource, resources}

header_found : (n : ℕ) → find is_header (generated_instances n) ≡ Some generated_header
header_found zero = refl
header_found (suc i) = header_found i

no_others : (n : ℕ) → filter is_other (generated_instances n) ≡ []
no_others zero = refl
no_others (suc i) = no_others i

resources_count : (from n : ℕ) → length (resources from n) ≡ n
resources_count from zero = refl
resources_count from (suc i) = omega (arith, resources_count (from + 1) i)

depends_are : (i : ℕ) → depends_of (generated_resource i) ≡ depends_of_number i
depends_are zero = refl
depends_are (suc i) = refl

resource_of : (from i : ℕ) → IsResourceOf i (resource from i)
resource_of from i = record { id = refl; instance = refl; depends = depends_are i }

resource_stands : (from n k i : ℕ) → k + i + 1 ≡ n → IsSomeAnd (slice_get (resources from n) k) (IsResourceOf i)
resource_stands from zero k i place = absurd (omega (arith, place))
resource_stands from (suc l) zero i place =
    let same : l ≡ i = omega (arith, place) in
    subst (λ (j : ℕ). IsResourceOf j (resource from l)) same (resource_of from l)
resource_stands from (suc l) (suc k) i place = resource_stands (from + 1) l k i (omega (arith, place))

-- the document of the part that spells the instances has these contents
pub has_contents : (part : Part) (n : ℕ) → Reads part.bytes (generated_instances n) → (document : Document) → AreParts (part ∷ []) document → HasContents n document
has_contents part n reads document are = subst (HasContents n) (sym (document_is part n reads document are)) (record {
  version = ap (λ found. option_map_or version_of found []) (header_found n);
  resources = resources_count 0 n;
  each = resource_stands 0 n;
  others = ap (λ (is : List Instance). is ++ []) (no_others n);
})
