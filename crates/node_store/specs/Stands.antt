-- What an image of a node's store stands for.
use Rattle.std.specs.Prelude.{◌≡◌, ◌⊎◌, ℕ, List, ◌∷◌, ◌++◌, map, Option, Some, None}
use Rattle.std.specs.List.{AllByRecursion}
use Rattle.gate_log.specs.declared.shape.Shape.{Shape}
use Rattle.gate_log.specs.Kept.{EndsBy, FailsBy, StandsBy}
use Rattle.node_state.specs.declared.node.Node.{Node}
use Rattle.node_state.specs.declared.event.Event.{Event}
use Rattle.node_state.specs.declared.piece.Piece.{Piece}
use Rattle.node_state.specs.Table.{new_node, Step, Steps}
use Rattle.node_state.specs.Pieces.{Builds}
use Rattle.node_store.specs.Bodies.{IsEventInRange, IsPieceInRange, body_of_event, body_of_piece}
use Rattle.node_store.specs.Digests.{Blobs, Unfolds, format_body, nothing_told}
use Rattle.node_store.specs.declared.limits.TheConstants.{BANK, MAX_BODY}

-- the sizes of a node's store
abbrev pub node_shape : Shape
node_shape = record { bank = BANK; largest = MAX_BODY }

-- Format 1. Pieces in front make a node of the new one, and events lead on from there. The bodies are theirs; each field is in its
-- range.
pub record LeadsInFull (bodies : List (List ℕ)) (node : Node) : Type 0 where
  pub front : List Piece
  pub events : List Event
  pub first : Node
  pub is : bodies ≡ map body_of_piece front ++ map body_of_event events
  pub builds : Builds new_node front first
  pub steps : Steps first events node
  pub pieces : AllByRecursion IsPieceInRange front
  pub ranges : AllByRecursion IsEventInRange events

-- Format 2, with these Blobs. After the Format the bodies say others in full, which lead to the node.
pub record LeadsByDigests (blobs : Blobs) (bodies : List (List ℕ)) (node : Node) : Type 0 where
  pub rest : List (List ℕ)
  pub said : List (List ℕ)
  pub is : bodies ≡ format_body ∷ rest
  pub unfolds : Unfolds nothing_told rest (record { blobs = blobs; said = said })
  pub leads : LeadsInFull said node

-- in format 2 with these Blobs, or in format 1
abbrev pub LeadsIn : Option Blobs → List (List ℕ) → Node → Type 0
LeadsIn (Some blobs) = LeadsByDigests blobs
LeadsIn None = LeadsInFull

-- in either format
abbrev pub Leads : List (List ℕ) → Node → Type 0
Leads bodies node = LeadsInFull bodies node ⊎ ((blobs : Blobs) × LeadsByDigests blobs bodies node)

-- the node, and the Blobs where the bodies are of format 2
abbrev pub LeadTo : List (List ℕ) → Node × Option Blobs → Type 0
LeadTo bodies kept = LeadsIn kept.1 bodies kept.0

-- the image gives bodies that lead to the node
abbrev pub Stands : List ℕ → Node → Type 0
Stands = StandsBy node_shape Leads

-- these bodies lead to a node, and with this one after them to none
abbrev pub EndsAt : List (List ℕ) → List ℕ → Type 0
EndsAt = EndsBy Leads

-- An image of more than nine bytes stands for no node. The place is the byte at which the text of a store fails, or the first
-- byte of the first body with which the bodies lead to no node, whichever comes first.
abbrev pub FailsAt : List ℕ → ℕ → Type 0
FailsAt = FailsBy node_shape Leads

-- the node before the event, or the one after it
abbrev pub BeforeOrAfter : Node → Event → Node → Type 0
BeforeOrAfter old event node = (node ≡ old) ⊎ Step old event node
