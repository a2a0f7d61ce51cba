-- The document that parts are merged to, where a start knows it before it runs it.
use Rattle.std.specs.Prelude.{Option, Some, None}
use Rattle.depend_order.specs.declared.ordered.OrderedDocument.{OrderedDocument}
use Rattle.partial_merge.specs.Merged.{IsDocumentOf}
use Rattle.node_state.specs.declared.node.Node.{Node}
use Rattle.node_state.specs.declared.event.Event.{Event}
use Rattle.node_state.specs.declared.event.Event.TheVariants.{Stage}
use Rattle.node_state.specs.StagedParts.{parts_of}
use Rattle.dsc_node.specs.Bringing.{held_of}

-- the document of the parts that a node holds, of Pending or else of Current
abbrev pub IsOfHeld : Node → OrderedDocument → Type 0
IsOfHeld node document = IsDocumentOf (held_of node) document

-- the document of the parts that the node holds after the event, where it stages some or there is none
abbrev pub IsOfHeldAfter : Node → Option Event → OrderedDocument → Type 0
IsOfHeldAfter node (Some (Stage staged)) document = IsDocumentOf (parts_of staged) document
IsOfHeldAfter node (Some _) document = ⊥
IsOfHeldAfter node None document = IsOfHeld node document
