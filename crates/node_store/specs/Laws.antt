-- What holds of the bodies of events and pieces.
use Rattle.std.specs.Prelude.{◌≡◌, ℕ, ◌≤◌, ◌<◌, All, List, length, map}
use Rattle.gate_log.specs.Kept.{FailingStandForNone as NoneWhereFailing, StandForOne, StandForSound}
use Rattle.gate_log.specs.Text.{AllFit, cells}
use Rattle.node_state.specs.declared.event.Event.{Event}
use Rattle.node_state.specs.declared.node.Node.{Node}
use Rattle.node_state.specs.Pieces.{front}
use Rattle.node_state.specs.Sound.{Sound}
use Rattle.node_store.specs.declared.body.Body.{Body}
use Rattle.node_store.specs.Bodies.{body_of_event, body_of_piece, HasDigests, IsBody, IsEventInRange}
use Rattle.node_store.specs.Stands.{Leads, node_shape}

-- a body is of one event or piece at most
abbrev pub BodiesAreOfOne : Type 0
BodiesAreOfOne = (bytes : List ℕ) (a b : Body) → IsBody bytes a → IsBody bytes b → a ≡ b

-- the body of an event is not too long for a store
abbrev pub EventsFit : Type 0
EventsFit = (event : Event) → IsEventInRange event → length (body_of_event event) ≤ node_shape.largest

-- a bank has capacity for the pieces of a node and one gate, and none of them is too long
pub record IsRoomFor (pieces : List (List ℕ)) : Type 0 where
  pub capacity : length (cells pieces) < node_shape.bank
  pub fit : AllFit node_shape.largest pieces

-- so it is with each sound node
abbrev pub FrontsFit : Type 0
FrontsFit = (agent : ℕ) (node : Node) → Sound node → All (λ kept. HasDigests kept.report) node.reports → IsRoomFor (map body_of_piece (front agent node))

-- an image stands for one node at most
abbrev pub NodesAreOne : Type 0
NodesAreOne = StandForOne node_shape Leads

-- the node that an image stands for is sound
abbrev pub NodesAreSound : Type 0
NodesAreSound = StandForSound node_shape Leads Sound

-- an image that fails stands for no node
abbrev pub FailingStandForNone : Type 0
FailingStandForNone = NoneWhereFailing node_shape Leads
