-- The memory that events need.
use Rattle.std.specs.Prelude.{◌≡◌, List, Option, Some, ⊤}
use Rattle.partial_merge.specs.declared.part.Part.{Part}
use Rattle.node_state.specs.declared.node.Node.{Node}
use Rattle.node_state.specs.declared.event.Event.{Event}
use Rattle.node_state.specs.declared.event.Event.TheVariants as events
use Rattle.node_state.specs.declared.supply.Supply.{Supply}
use Rattle.node_state.specs.declared.supply.Supply.TheVariants as supplies

abbrev pub IsRoom : Supply → Type 0
IsRoom (supplies.Room room) = ⊤
IsRoom _ = ⊥

-- these parts
abbrev pub IsShared : Option (List Part) → Supply → Type 0
IsShared slot (supplies.Shared parts) = slot ≡ Some parts
IsShared slot _ = ⊥

-- enough for the event: room for a report that is kept, Previous once more for Restore, and nothing for any other
abbrev pub Supplies : Node → Event → Supply → Type 0
Supplies node (events.Promote report) supply = IsRoom supply
Supplies node (events.Note report) supply = IsRoom supply
Supplies node (events.AskReboot report) supply = IsRoom supply
Supplies node events.Restore supply = IsShared node.previous supply
Supplies node _ supply = ⊤
