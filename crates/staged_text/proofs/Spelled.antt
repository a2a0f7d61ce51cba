-- The parts that a sound node has at a stage spell instances.
use Rattle.std.proofs.Common.{◌≡◌, List, [], ◌∷◌, sym, subst}
use Rattle.std.proofs.lemmas.Grind.{not_there}
use Rattle.std.specs.Prelude.{Option, Some, None, IfSome}
use Rattle.std.specs.List.{AllByRecursion, AllZip}
use Rattle.dsc_document.specs.declared.document.Document.{Document}
use Rattle.partial_merge.specs.declared.part.Part.{Part}
use Rattle.partial_merge.specs.Parts.{IsWhole}
use Rattle.node_state.specs.Lists.{IsMerged, IsStaged}
use Rattle.node_state.specs.Sound.{Sound}
use Rattle.node_state.specs.declared.event.Stage.{Stage}
use Rattle.node_state.specs.declared.event.Stage.TheVariants.{Pending, Current, Previous}
use Rattle.node_state.specs.declared.node.Node.{Node}
use Rattle.staged_text.specs.Texts.{Spells, parts_at}

-- what spells nothing is not merged; so each part of a list that is merged spells something
whole_first : (part : Part) (parts : List Part) (documents : List Document) → AllZip IsWhole (part ∷ parts) documents → Spells part
whole_first part parts [] whole = absurd whole
whole_first part parts (document ∷ documents) whole = λ nothing. nothing whole.0.instances whole.0.spelled

whole_rest : (part : Part) (parts : List Part) (documents : List Document) → AllZip IsWhole (part ∷ parts) documents → (others : List Document) × AllZip IsWhole parts others
whole_rest part parts [] whole = absurd whole
whole_rest part parts (document ∷ documents) whole = (documents, whole.1)

-- the parts are whole, as far as a contradiction may use it
abbrev AreWhole : List Part → Type 0
AreWhole parts = ((documents : List Document) × AllZip IsWhole parts documents → ⊥) → ⊥

all_spell : (parts : List Part) → AreWhole parts → AllByRecursion Spells parts
all_spell [] whole = tt
all_spell (part ∷ parts) whole = (
  λ nothing. whole (λ are. whole_first part parts are.0 are.1 nothing),
  all_spell parts (λ none. whole (λ are. none (whole_rest part parts are.0 are.1))),
)

staged_spell : (parts : List Part) → IsStaged parts → AllByRecursion Spells parts
staged_spell parts staged =
    all_spell parts (λ none. not_there staged.merged (λ found. none (found.1.parts_are.are_joined.documents, found.1.parts_are.are_joined.whole)))

slot_spells : (slot : Option (List Part)) (parts : List Part) → IfSome slot IsStaged → slot ≡ Some parts → AllByRecursion Spells parts
slot_spells slot parts staged is = staged_spell parts (subst (λ (o : Option (List Part)). IfSome o IsStaged) is staged)

pub parts_spell : (stage : Stage) (node : Node) (parts : List Part) → Sound node → parts_at stage node ≡ Some parts → AllByRecursion Spells parts
parts_spell Pending node parts sound is = slot_spells node.pending parts sound.pending is
parts_spell Current node parts sound is = slot_spells node.current parts sound.current is
parts_spell Previous node parts sound is = slot_spells node.previous parts sound.previous is
