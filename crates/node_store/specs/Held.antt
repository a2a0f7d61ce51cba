-- Lists of parts that a node holds already, and bytes that are theirs.
use Rattle.std.specs.Prelude.{◌≡◌, ◌⊎◌, ℕ, List, ◌∷◌, Some}
use Rattle.std.specs.List.{flat_map, AllByRecursion}
use Rattle.partial_merge.specs.declared.part.Part.{Part}
use Rattle.node_state.specs.declared.node.Node.{Node}
use Rattle.node_store.specs.Bodies.{IsWhole}
use Rattle.node_store.specs.Parts.{bytes_of_part, bytes_of_parts, AreParts, IsPart}

-- the bytes are those of the parts, one after the other, each in its range
abbrev pub AreBytesOf : List Part → List ℕ → Type 0
AreBytesOf parts bytes = AllByRecursion IsPart parts × (bytes ≡ flat_map bytes_of_part parts)

-- the list is Pending, Current or Previous
abbrev pub Holds : Node → List Part → Type 0
Holds node parts = (node.pending ≡ Some parts) ⊎ (node.current ≡ Some parts) ⊎ (node.previous ≡ Some parts)

-- the node holds a list, and these are all its bytes
pub record IsHeld (node : Node) (bytes : List ℕ) (parts : List Part) : Type 0 where
  pub holds : Holds node parts
  pub whole : IsWhole bytes_of_parts AreParts bytes parts

-- the body stages a list that the node holds
pub record StagesHeld (node : Node) (body : List ℕ) (parts : List Part) : Type 0 where
  pub bytes : List ℕ
  pub is : body ≡ 4 ∷ bytes
  pub held : IsHeld node bytes parts
