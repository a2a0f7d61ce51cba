-- The document that comes with an event is that of the parts which the node holds once the event is committed, and that of its run.
use Rattle.std.proofs.Common.{◌≡◌, List, Option, Some, None, Ok, refl, ap, subst, sym, ◌∙◌}
use Rattle.std.specs.Prelude.{Bool, true, false, IfSome, option_map}
use Rattle.depend_order.specs.declared.ordered.OrderedDocument.{OrderedDocument}
use Rattle.meta_config.specs.declared.modes.ConfigMode.{ConfigMode}
use Rattle.meta_config.specs.declared.modes.ConfigMode.TheVariants.{ApplyOnly, ApplyAndMonitor, ApplyAndAutoCorrect}
use Rattle.partial_merge.specs.declared.part.Part.{Part}
use Rattle.partial_merge.specs.Merged.{IsDocumentOf}
use Rattle.node_state.specs.declared.list.Staged.{Staged}
use Rattle.node_state.specs.declared.node.Node.{Node}
use Rattle.node_state.specs.declared.event.Event.{Event}
use Rattle.node_state.specs.declared.event.Event.TheVariants.{Stage}
use Rattle.node_state.specs.StagedParts.{parts_of}
use Rattle.node_state.specs.Table.{Steps}
use Rattle.node_pull.specs.Pulling.{parts_after}
use Rattle.dsc_node.specs.Bringing.{events_of, held_among, held_of, staged_by}
use Rattle.dsc_node.specs.Documents.{IsOfHeld, IsOfHeldAfter}
use Rattle.dsc_node.specs.Runs.{Choice, chosen_among, chosen_current, chosen_of}
use Rattle.dsc_node.proofs.HeadlineRuns.{no_choice, some_choice}

of_held : (node mid : Node) (event : Option Event) (document : OrderedDocument) → IsOfHeldAfter node event document → Steps node (events_of event) mid → IsOfHeld mid document
of_held node mid (Some (Stage staged)) document is steps =
    let pending : mid.pending ≡ Some (parts_of staged) = ap (λ (n : Node). n.pending) (steps.2 ∙ steps.1.is) in
    subst (λ (p : Option (List Part)). IsDocumentOf (held_among p mid.current) document) (sym pending) is
of_held node mid (Some _) document is steps = absurd is
of_held node mid None document is steps = subst (λ (n : Node). IsOfHeld n document) (sym steps) is

-- the document that comes with the event is that of the parts which the node holds after it
pub known_held : (node mid : Node) (event : Option Event) (document : Option OrderedDocument) → IfSome document (IsOfHeldAfter node event) → Steps node (events_of event) mid
    → IfSome document (IsOfHeld mid)
known_held node mid event None is steps = is
known_held node mid event (Some document) is steps = of_held node mid event document is steps

-- that of a pull's list, or of the parts that are held without one
pub pulled_held : (node : Node) (held : List Part) → held ≡ held_of node → (list : Option Staged) (document : Option OrderedDocument) → IfSome document (IsDocumentOf (parts_after held list))
    → IfSome document (IsOfHeldAfter node (option_map Stage list))
pulled_held node held same list None is = is
pulled_held node held same (Some staged) (Some document) is = is
pulled_held node held same None (Some document) is = subst (λ (parts : List Part). IsDocumentOf parts document) same is

-- a list that is brought is staged
pub staged_event : (list : Option Staged) → Ok (option_map Stage list) ≡ staged_by (Ok list)
staged_event None = refl
staged_event (Some staged) = refl

held_current : (mode : ConfigMode) (parts : List Part) (choice : Choice) → chosen_current mode parts ≡ Some choice → parts ≡ choice.parts
held_current ApplyOnly parts choice is = no_choice choice is
held_current ApplyAndMonitor parts choice is = ap (λ (c : Choice). c.parts) (some_choice _ choice is)
held_current ApplyAndAutoCorrect parts choice is = ap (λ (c : Choice). c.parts) (some_choice _ choice is)

held_chosen : (mode : ConfigMode) (pending current : Option (List Part)) (choice : Choice) → chosen_among mode pending current ≡ Some choice → held_among pending current ≡ choice.parts
held_chosen mode (Some parts) current choice is = ap (λ (c : Choice). c.parts) (some_choice _ choice is)
held_chosen mode None (Some parts) choice is = held_current mode parts choice is
held_chosen mode None None choice is = no_choice choice is

chosen_held : (stopped : Bool) (node : Node) (choice : Choice) → chosen_of stopped node ≡ Some choice → held_of node ≡ choice.parts
chosen_held true node choice is = no_choice choice is
chosen_held false node choice is = held_chosen node.meta.mode node.pending node.current choice is

-- the document of the parts that are held, where it is known, is that of the run that was chosen
pub known_chosen : (stopped : Bool) (node : Node) (choice : Choice) → chosen_of stopped node ≡ Some choice → (document : Option OrderedDocument) → IfSome document (IsOfHeld node)
    → IfSome document (IsDocumentOf choice.parts)
known_chosen stopped node choice chosen None is = is
known_chosen stopped node choice chosen (Some document) is = subst (λ (parts : List Part). IsDocumentOf parts document) (chosen_held stopped node choice chosen) is
