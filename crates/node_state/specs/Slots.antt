-- Where the parts of a node come from.
use Rattle.std.specs.Prelude.{◌⊎◌, List, [], ◌∷◌, Option, Contains, IsSomeAnd}
use Rattle.partial_merge.specs.declared.part.Part.{Part}
use Rattle.node_state.specs.declared.node.Node.{Node}
use Rattle.node_state.specs.declared.event.Event.{Event}
use Rattle.node_state.specs.declared.event.Event.TheVariants as events
use Rattle.node_state.specs.StagedParts.{parts_of}
use Rattle.node_state.specs.Table.{Steps}

-- the part is among those of the stage
abbrev pub IsIn : Option (List Part) → Part → Type 0
IsIn slot part = IsSomeAnd slot (λ parts. Contains parts part)

-- the part is in a stage of the node
abbrev pub IsSlot : Node → Part → Type 0
IsSlot node part = IsIn node.pending part ⊎ IsIn node.current part ⊎ IsIn node.previous part

abbrev pub StagesPart : Event → Part → Type 0
StagesPart (events.Stage staged) part = Contains (parts_of staged) part
StagesPart _ part = ⊥

-- one of the events stages the part
abbrev pub Stages : List Event → Part → Type 0
Stages [] part = ⊥
Stages (event ∷ events) part = StagesPart event part ⊎ Stages events part

-- a part that a node has was in a stage before, or was staged
abbrev pub PartsComeFromStages : Type 0
PartsComeFromStages =
    (old new : Node) (events : List Event) (part : Part) → Steps old events new → IsSlot new part → IsSlot old part ⊎ Stages events part
