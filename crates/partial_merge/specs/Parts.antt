-- Parts, and the document that several of them are together.
use Rattle.std.specs.Prelude.{◌≡◌, ℕ, ◌≤◌, List, [], ◌∷◌, ◌++◌, AllPairs, Option, length, map, flat_map, option_map, slice_get}
use Rattle.std.specs.List.{AllZip, enumerate_from}
use Rattle.std.specs.Option.{option_map_or}
use Rattle.std.proofs.Common.{refl}
use Rattle.sha2.specs.Sha256.{sha256}
use Rattle.mof_values.specs.Fold.{SameName}
use Rattle.mof_values.specs.declared.instance.Instance.{Instance}
use Rattle.mof_syntax.specs.Refusals.{Reads}
use Rattle.dsc_document.specs.declared.document.Document.{Document}
use Rattle.dsc_document.specs.declared.document.Resource.{Resource}
use Rattle.dsc_document.specs.Dependencies.{HasDistinctIds}
use Rattle.dsc_document.specs.Rules.{PartRules}
use Rattle.dsc_document.specs.declared.limits.TheConstants.{MAX_RESOURCES}
use Rattle.partial_merge.specs.declared.part.Part.{Part}

-- the part that a text is under a name
abbrev pub text_part : List ℕ → List ℕ → Part
text_part name bytes = record { name = name; digest = sha256 bytes; bytes = bytes; whole = refl }

-- the part that a text is, which has no name
abbrev pub unnamed_part : List ℕ → Part
unnamed_part bytes = text_part [] bytes

-- the bytes spell instances that keep the rules of a part, and these declare the document
pub record Declares (bytes : List ℕ) (document : Document) : Type 0 where
  pub instances : List Instance
  pub spelled : Reads bytes instances
  pub rules : PartRules instances document

-- the bytes declare some document
abbrev pub DeclaresDocument : List ℕ → Type 0
DeclaresDocument bytes = (document : Document) × Declares bytes document

-- the part's bytes declare the document. That its digest is the digest of its bytes is a fact of every part
abbrev pub IsWhole : Part → Document → Type 0
IsWhole part document = Declares part.bytes document

-- the resource as one of the part at a place
abbrev pub in_part : ℕ → Resource → Resource
in_part place resource = record {
  id = resource.id;
  part = place;
  index = resource.index;
  instance = resource.instance;
  depends = resource.depends;
}

abbrev pub resources_in : ℕ × Document → List Resource
resources_in (place, document) = map (in_part place) document.resources

-- the documents of the parts as one: all their resources and other instances in the parts' order, the version of the
-- first, and the parts' names
abbrev pub joined : List Part → List Document → Document
joined parts documents = record {
  version = option_map_or (λ document. document.version) (slice_get documents 0) [];
  resources = flat_map resources_in (enumerate_from 0 documents);
  others = flat_map (λ document. document.others) documents;
  parts = map (λ part. part.name) parts;
}

-- the document with the resources, the other instances and the name of one more part
abbrev pub with_part : Document → ℕ → List ℕ → Document → Document
with_part document place name part = record {
  version = document.version;
  resources = document.resources ++ resources_in (place, part);
  others = document.others ++ part.others;
  parts = document.parts ++ name ∷ [];
}

-- the document with these names of parts
abbrev pub named : Document → List (List ℕ) → Document
named document names = record { version = document.version; resources = document.resources; others = document.others; parts = names }

abbrev pub part_name_at : List Part → ℕ → Option (List ℕ)
part_name_at parts place = option_map (λ part. part.name) (slice_get parts place)

-- no two parts have the same name
abbrev pub NamesDiffer : List Part → Type 0
NamesDiffer parts = AllPairs (λ a b. SameName a.name b.name → ⊥) parts

-- names differ, each part is whole, and the document is all that they declare
pub record AreJoined (parts : List Part) (document : Document) : Type 0 where
  pub names : NamesDiffer parts
  pub documents : List Document
  pub whole : AllZip IsWhole parts documents
  pub joined : document ≡ joined parts documents

-- the parts are joined to the document, which has not too many resources, and whose ids differ
pub record AreParts (parts : List Part) (document : Document) : Type 0 where
  pub are_joined : AreJoined parts document
  pub few : length document.resources ≤ MAX_RESOURCES
  pub ids : HasDistinctIds document
