-- What a command brings, before anything follows: at most one event, and what was asked of the server for it.
use Rattle.std.specs.Prelude.{◌≡◌, Bool, cond, ℕ, List, [], ◌∷◌, Option, Some, None, Result, Ok, Err}
use Rattle.depend_order.specs.declared.ordered.OrderedDocument.{OrderedDocument}
use Rattle.meta_config.specs.declared.meta.Partial.{Partial}
use Rattle.meta_config.specs.declared.server.Server.{Server}
use Rattle.meta_config.specs.Parts.{partial_named}
use Rattle.partial_merge.specs.declared.part.Part.{Part}
use Rattle.partial_merge.specs.Parts.{text_part}
use Rattle.resource_kinds.specs.declared.machine.Machine as machines
use Rattle.resource_kinds.specs.declared.resources.Resources as resources
use Rattle.node_state.specs.declared.error.StageError.{StageError}
use Rattle.node_state.specs.declared.list.Staged.{Staged}
use Rattle.node_state.specs.declared.node.Node.{Node}
use Rattle.node_state.specs.declared.event.Event.{Event}
use Rattle.node_state.specs.declared.event.Event.TheVariants as events
use Rattle.node_state.specs.StagedParts.{parts_of}
use Rattle.node_state.specs.Staging.{AreFitting}
use Rattle.node_pull.specs.declared.error.PullFault.{PullFault}
use Rattle.node_pull.specs.declared.error.PullFault.TheVariants as pulls
use Rattle.node_pull.specs.Laying.{AreLaid, AreLaidRefused}
use Rattle.node_pull.specs.Pulling.{Pulled}
use Rattle.node_pull.specs.Registering.{Registers}
use Rattle.dsc_outside.specs.Link.{LinkView}
use Rattle.dsc_node.specs.declared.bringing.First.{First}
use Rattle.dsc_node.specs.declared.bringing.Unbrought.{Unbrought}
use Rattle.dsc_node.specs.declared.bringing.Unbrought.TheVariants.{Pull, Staging}
use Rattle.dsc_node.specs.declared.plan.Bring.{Bring}
use Rattle.dsc_node.specs.declared.plan.Bring.TheVariants as bring
use Rattle.dsc_node.specs.declared.status.Status.{Status}
use Rattle.dsc_node.specs.declared.status.Status.TheVariants as statuses
use Rattle.dsc_node.specs.Endings.{status_of_staging}

-- the event that comes first
abbrev pub event_by : Result First Unbrought → Result (Option Event) Unbrought
event_by (Ok first) = Ok first.event
event_by (Err error) = Err error

abbrev pub events_of : Option Event → List Event
events_of None = []
events_of (Some event) = event ∷ []

-- the server did not give what it was asked for
abbrev pub status_of_pull : PullFault → Status
status_of_pull pulls.Link = statuses.LinkFault
status_of_pull pulls.Host = statuses.HostFault
status_of_pull (pulls.Refused fault) = statuses.PeerRefused fault
status_of_pull pulls.Memory = statuses.Memory

-- nothing was brought
abbrev pub status_of_unbrought : Unbrought → Status
status_of_unbrought (Pull error) = status_of_pull error
status_of_unbrought (Staging error) = status_of_staging error

-- ---- a registration

-- an accepted one is an event
abbrev pub registered_by : Result (Unit {0}) PullFault → Result (Option Event) Unbrought
registered_by (Ok done) = Ok (Some events.Registered)
registered_by (Err error) = Err (Pull error)

-- the node's agent was to be registered at its server
pub record IsRegistration (node : Node) (name : List ℕ) (start : ℕ) (asked heard : LinkView) (result : Result (Option Event) Unbrought) : Type 0 where
  pub server : Server
  pub is_server : node.meta.server ≡ Some server
  pub agent : ℕ
  pub is_agent : node.agent ≡ Some agent
  pub answer : Result (Unit {0}) PullFault
  pub registers : Registers node.meta server agent name start asked heard answer
  pub is : result ≡ registered_by answer

-- ---- parts

-- the parts that a node holds: those of Pending, or else of Current
abbrev pub held_among : Option (List Part) → Option (List Part) → List Part
held_among (Some parts) current = parts
held_among None (Some parts) = parts
held_among None None = []

abbrev pub held_of : Node → List Part
held_of node = held_among node.pending node.current

-- ---- a push under a name

-- the list that comes of the part with, for each other partial configuration, the part that the node holds, where there is one; or why that is
-- not staged
abbrev pub Lays : Node → Part → Result Staged StageError → Type 0
Lays node part (Ok staged) = AreLaid node.meta (part ∷ []) (held_of node) (parts_of staged) × AreFitting node.meta (parts_of staged)
Lays node part (Err error) = AreLaidRefused node.meta (part ∷ []) (held_of node) error

-- that list is staged
abbrev pub pushed_by : Result Staged StageError → Result (Option Event) Unbrought
pushed_by (Ok staged) = Ok (Some (events.Stage staged))
pushed_by (Err error) = Err (Staging error)

-- the bytes are the part of the partial configuration that has the name, under the name as that is declared
pub record IsPushedPart (node : Node) (name bytes : List ℕ) (result : Result (Option Event) Unbrought) : Type 0 where
  pub partial : Partial
  pub is_partial : partial_named node.meta.partials name ≡ Some partial
  pub answer : Result Staged StageError
  pub lays : Lays node (text_part partial.name bytes) answer
  pub is : result ≡ pushed_by answer

-- ---- a pull

-- parts that are brought are staged
abbrev pub staged_by : Result (Option Staged) PullFault → Result (Option Event) Unbrought
staged_by (Ok None) = Ok None
staged_by (Ok (Some staged)) = Ok (Some (events.Stage staged))
staged_by (Err error) = Err (Pull error)

-- the node's server was asked for the parts of its configurations, and for the packages that they name
pub record IsPull {S : Type 0} (machine : machines.Ghosts S) (faults : S → ℕ) (node : Node) (asked heard : LinkView) (before after : S) (result : Result (Option Event) Unbrought) : Type 0 where
  pub server : Server
  pub is_server : node.meta.server ≡ Some server
  pub agent : ℕ
  pub is_agent : node.agent ≡ Some agent
  pub answer : Result (Option Staged) PullFault
  pub pulled : Pulled machine.packages faults node.meta server agent (held_of node) asked heard before after answer
  pub is : result ≡ staged_by answer

-- ---- any of them

-- the event that is known without asking anybody
pub record IsGiven {S : Type 0} (event : Option Event) (asked heard : LinkView) (before after : S) (result : Result (Option Event) Unbrought) : Type 0 where
  pub machine : after ≡ before
  pub unasked : heard ≡ asked
  pub is : result ≡ Ok event

-- a boot that was asked for clears the mark
abbrev pub boot_of : Bool → Option Event
boot_of marked = cond marked (Some events.Boot) None

-- what the link and the machine were before, and what they are after it; a start that reads the clock is its first reading
abbrev pub Brought : {S : Type 0} → resources.Ghosts S → machines.Ghosts S → Node → Bring → ℕ → LinkView → LinkView → S → S → Result (Option Event) Unbrought → Type 0
Brought resources machine node bring.Nothing start asked heard before after result = IsGiven None asked heard before after result
Brought resources machine node (bring.Event event) start asked heard before after result = IsGiven (Some event) asked heard before after result
Brought resources machine node (bring.Push staged document) start asked heard before after result = IsGiven (Some (events.Stage staged)) asked heard before after result
Brought resources machine node (bring.PushPart name bytes) start asked heard before after result = (after ≡ before) × (heard ≡ asked) × IsPushedPart node name bytes result
Brought resources machine node bring.Boot start asked heard before after result = IsGiven (boot_of node.reboot) asked heard before after result
Brought resources machine node bring.Pull start asked heard before after result = IsPull machine resources.faults node asked heard before after result
Brought resources machine node (bring.Registration name) start asked heard before after result = (after ≡ before) × IsRegistration node name start asked heard result

-- ---- for private clauses

-- the list, without its document
abbrev pub list_by : Result (Staged × OrderedDocument) StageError → Result Staged StageError
list_by (Ok pair) = Ok pair.0
list_by (Err error) = Err error
