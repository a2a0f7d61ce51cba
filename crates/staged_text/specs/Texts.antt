-- The text of a stage of a node's store.
use Rattle.std.specs.Prelude.{◌≡◌, ℕ, List, [], ◌∷◌, ◌++◌, Option, Some, None, codes, ⊤}
use Rattle.mof_values.specs.declared.instance.Instance.{Instance}
use Rattle.mof_syntax.specs.Canonical.{canonical_bytes}
use Rattle.mof_syntax.specs.Refusals.{Reads, ReadsNothing}
use Rattle.partial_merge.specs.declared.part.Part.{Part}
use Rattle.node_state.specs.declared.event.Stage.{Stage}
use Rattle.node_state.specs.declared.event.Stage.TheVariants.{Pending, Current, Previous}
use Rattle.node_state.specs.declared.node.Node.{Node}
use Rattle.node_store.specs.Stands.{FailsAt, Stands}
use Rattle.node_store.specs.declared.error.StoreError.{StoreError}
use Rattle.node_store.specs.declared.error.StoreError.TheVariants as errors
use Rattle.staged_text.specs.declared.ending.Unshown.{Unshown}
use Rattle.staged_text.specs.declared.ending.Unshown.TheVariants.{DiskFault, NotAStore, Empty, Memory}

-- the parts that a node has at a stage
abbrev pub parts_at : Stage → Node → Option (List Part)
parts_at Pending node = node.pending
parts_at Current node = node.current
parts_at Previous node = node.previous

-- the canonical text of the instances that the part spells
pub record IsTextOf (part : Part) (text : List ℕ) : Type 0 where
  pub instances : List Instance
  pub spelled : Reads part.bytes instances
  pub is : text ≡ canonical_bytes instances

-- an empty line before the text of each of these parts
abbrev pub AreFurther : List Part → List ℕ → Type 0
AreFurther [] text = text ≡ []
AreFurther (part ∷ rest) text =
    (first : List ℕ) × (others : List ℕ) × IsTextOf part first × AreFurther rest others × (text ≡ codes "\n" ++ first ++ others)

-- the texts of the parts, an empty line between two
abbrev pub AreTextsOf : List Part → List ℕ → Type 0
AreTextsOf [] text = text ≡ []
AreTextsOf (part ∷ rest) text =
    (first : List ℕ) × (others : List ℕ) × IsTextOf part first × AreFurther rest others × (text ≡ first ++ others)

-- the part spells some instances
abbrev pub Spells : Part → Type 0
Spells part = ReadsNothing part.bytes → ⊥

-- ---- of a node

-- the node has parts at the stage, and this is their text
abbrev pub HasText : Stage → Node → List ℕ → Type 0
HasText stage node text = (parts : List Part) × (parts_at stage node ≡ Some parts) × AreTextsOf parts text

-- why the node has none
abbrev pub HasNoText : Stage → Node → Unshown → Type 0
HasNoText stage node Empty = parts_at stage node ≡ None
HasNoText stage node Memory = ⊤
HasNoText stage node DiskFault = ⊥
HasNoText stage node (NotAStore at) = ⊥

-- ---- of the bytes of a store

-- the bytes stand for a node that has this text at the stage
abbrev pub Shows : Stage → List ℕ → List ℕ → Type 0
Shows stage image text = (node : Node) × Stands image node × HasText stage node text

-- why the bytes show none: they stand for a node that has nothing at the stage, or for no node
abbrev pub ShowsNothing : Stage → List ℕ → Unshown → Type 0
ShowsNothing stage image Empty = (node : Node) × Stands image node × (parts_at stage node ≡ None)
ShowsNothing stage image (NotAStore at) = FailsAt image at
ShowsNothing stage image Memory = ⊤
ShowsNothing stage image DiskFault = ⊥

-- why a store that does not open has no text
abbrev pub unopened : StoreError → Unshown
unopened errors.Disk = DiskFault
unopened (errors.NotAStore at) = NotAStore at
unopened errors.Memory = Memory
unopened errors.Spent = DiskFault
unopened (errors.NotAllowed why) = DiskFault
