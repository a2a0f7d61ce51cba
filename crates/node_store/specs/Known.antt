-- Lists that bodies named by digests.
use Rattle.std.specs.Prelude.{◌≡◌, ◌⊎◌, ℕ, List, [], ◌∷◌, ◌++◌}
use Rattle.std.specs.List.{AllByRecursion}
use Rattle.partial_merge.specs.declared.part.Part.{Part}
use Rattle.node_store.specs.declared.known_list.KnownList.{KnownList}
use Rattle.node_store.specs.Digests.{Blobs}
use Rattle.node_store.specs.Parts.{AreParts}
use Rattle.node_store.specs.Resolving.{AreAmong}

-- the bytes of their parts are those of Blobs
abbrev pub AreKnown : Blobs → List KnownList → Type 0
AreKnown blobs lists = AllByRecursion (λ list. AreParts list.parts × AreAmong blobs list.parts) lists

abbrev pub IsListed : List KnownList → KnownList → Type 0
IsListed [] list = ⊥
IsListed (first ∷ others) list = (list ≡ first) ⊎ IsListed others list

-- these are the parts of one of the lists, which the body names
pub record IsKnownAs (lists : List KnownList) (body : List ℕ) (parts : List Part) : Type 0 where
  pub list : KnownList
  pub listed : IsListed lists list
  pub named : body ≡ list.stage.items
  pub is : parts ≡ list.parts

-- these parts are one list more
pub record AddsKnown (old : List KnownList) (parts : List Part) (new : List KnownList) : Type 0 where
  pub list : KnownList
  pub is : list.parts ≡ parts
  pub adds : new ≡ old ++ list ∷ []
