-- Events that were committed, and one that was refused.
use Rattle.std.specs.Prelude.{◌≡◌, ℕ, List, ◌∷◌, [], ◌++◌, Option, Some, None, false}
use Rattle.dsc_terms.specs.Counts.{Rose}
use Rattle.node_state.specs.declared.node.Node.{Node}
use Rattle.node_state.specs.declared.event.Event.{Event}
use Rattle.node_state.specs.Table.{Steps, refusal}
use Rattle.node_store.specs.declared.error.StoreError.{StoreError}
use Rattle.node_store.specs.declared.error.StoreError.TheVariants as errors
use Rattle.node_store.specs.Store.{TakesMemory}

-- an event whose commit answered Disk may be there after a crash, or not
abbrev pub broken_by : Event → StoreError → Option Event
broken_by event errors.Disk = Some event
broken_by event _ = None

-- the events that were committed, and the one, if any, whose commit answered Disk
abbrev pub all_of : List Event → Option Event → List Event
all_of committed None = committed
all_of committed (Some event) = committed ++ event ∷ []

-- the cause of each refusal; memory runs out only for an event that may take some
abbrev pub IsCause : Node → Event → ℕ × ℕ → StoreError → Type 0
IsCause node event counts errors.Disk = (refusal node event ≡ None) × Rose counts.0 counts.1
IsCause node event counts (errors.NotAllowed why) = refusal node event ≡ Some why
IsCause node event counts errors.Memory = (refusal node event ≡ None) × TakesMemory false event
IsCause node event counts (errors.NotAStore at) = ⊥
IsCause node event counts errors.Spent = ⊥

-- after this work, which was committed, the event was refused
pub record RefusedAfter (from : Node) (counts : ℕ × ℕ) (work : List Event) (event : Event) (error : StoreError) (committed : List Event) (broken : Option Event) : Type 0 where
  pub committed_is : committed ≡ work
  pub broken_is : broken ≡ broken_by event error
  pub node : Node
  pub steps : Steps from work node
  pub cause : IsCause node event counts error
