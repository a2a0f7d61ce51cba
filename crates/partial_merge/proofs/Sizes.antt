-- What parts are joined to is in size, where its resources are not too many.
use Rattle.std.proofs.Common.{ℕ, ◌+◌, ◌≤◌, List, [], ◌∷◌, All, length, sym, subst, arith}
use Rattle.std.specs.List.{AllZip, enumerate_from, flat_map}
use Rattle.std.specs.Option.{option_map_or}
use Rattle.std.specs.Prelude.{slice_get}
use Rattle.std.proofs.lemmas.List.Elements.{All-append, All-map, All-nil}
use Rattle.dsc_document.specs.Sizes.{DocumentInSize, Fits}
use Rattle.dsc_document.specs.declared.document.Document.{Document}
use Rattle.dsc_document.specs.declared.document.Resource.{Resource}
use Rattle.dsc_document.specs.declared.limits.TheConstants.{MAX_ID, MAX_RESOURCES, MAX_VERSION}
use Rattle.dsc_document.proofs.InSize.{in_size}
use Rattle.partial_merge.specs.declared.part.Part.{Part}
use Rattle.partial_merge.specs.Parts.{AreJoined, IsWhole, in_part, resources_in}

abbrev IdFits : Resource → Type 0
IdFits resource = Fits MAX_ID resource.id

part_in_size : (part : Part) (document : Document) → IsWhole part document → DocumentInSize document
part_in_size part document whole =
    in_size whole.instances document whole.rules.made (λ refusal condition. whole.rules.kept refusal (omega (arith, condition)))
    (omega (arith, whole.spelled.spelled.limits.count))

ids_fit : (n : ℕ) (parts : List Part) (documents : List Document) → AllZip IsWhole parts documents
    → All IdFits (flat_map resources_in (enumerate_from n documents))
ids_fit n [] [] whole = All-nil IdFits
ids_fit n [] (d ∷ ds) whole = absurd whole
ids_fit n (p ∷ ps) [] whole = absurd whole
ids_fit n (p ∷ ps) (d ∷ ds) whole =
    All-append IdFits (resources_in (n, d)) (flat_map resources_in (enumerate_from (n + 1) ds))
    (All-map IdFits (in_part n) d.resources (part_in_size p d whole.0).ids)
    (ids_fit (n + 1) ps ds whole.1)

version_fits : (parts : List Part) (documents : List Document) → AllZip IsWhole parts documents
    → length (option_map_or (λ (document : Document). document.version) (slice_get documents 0) []) ≤ MAX_VERSION
version_fits parts [] whole = omega arith
version_fits [] (d ∷ ds) whole = absurd whole
version_fits (p ∷ ps) (d ∷ ds) whole = (part_in_size p d whole.0).version

pub joined_in_size : (parts : List Part) (document : Document) → AreJoined parts document → length document.resources ≤ MAX_RESOURCES → DocumentInSize document
joined_in_size parts document are few = record {
  resources = few;
  ids = subst (λ (d : Document). All IdFits d.resources) (sym are.joined) (ids_fit 0 parts are.documents are.whole);
  version = subst (λ (d : Document). length d.version ≤ MAX_VERSION) (sym are.joined) (version_fits parts are.documents are.whole);
}
