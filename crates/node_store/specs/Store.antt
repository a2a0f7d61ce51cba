-- A store, its disk, and what its calls answer.
use Rattle.std.specs.Prelude.{◌≡◌, ◌⊎◌, ℕ, ◌<◌, ◌≤◌, Bool, true, false, not, List, [], ◌∷◌, ◌++◌, length, OnOk, Some, None, Option, Result, Ok, Err, ⊤}
use Rattle.dsc_outside.specs.Disk.{Each}
use Rattle.dsc_outside.specs.declared.disk.Disk.{Ghosts}
use Rattle.dsc_terms.specs.Counts.{Rose}
use Rattle.gate_log.specs.Log.{IsLogOf, LogTerm, capacity_in}
use Rattle.gate_log.specs.Text.{Gives, cells}
use Rattle.gate_log.specs.Kept.{IsKeptBy, IsReadyBy, NotOpenedBy}
use Rattle.node_state.specs.declared.node.Node.{Node}
use Rattle.node_state.specs.declared.event.Event.{Event}
use Rattle.node_state.specs.declared.event.Event.TheVariants as events
use Rattle.node_state.specs.Table.{Step, refusal}
use Rattle.node_store.specs.declared.error.StoreError.{StoreError}
use Rattle.node_store.specs.declared.error.StoreError.TheVariants.{Spent, NotAllowed, Disk, NotAStore, Memory}
use Rattle.mof_values.specs.declared.memory.Memory.{Memory as NoMemory}
use Rattle.meta_config.specs.Writing.{text_of_meta}
use Rattle.node_state.specs.declared.list.Staged.{Staged}
use Rattle.node_state.specs.StagedParts.{parts_of}
use Rattle.node_store.specs.Bodies.{body_of_event}
use Rattle.node_store.specs.Digests.{Blobs, Lack, format_body, staged_bodies, texts_of}
use Rattle.node_store.specs.Stands.{Leads, LeadsIn, node_shape}
use Rattle.node_store.specs.Whole.{AreBlobsOf, whole_bodies}

-- what contracts see of a store
pub record StoreTerm : Type 0 where
  pub log : LogTerm
  pub node : Node
  -- there is capacity for one more report
  pub reserved : Bool
  -- the Blobs of the live bank, where it is of format 2
  pub blobs : Option Blobs

abbrev pub is_spent : StoreTerm → Bool
is_spent store = store.log.spent

-- the store is of the disk: its log is, and the log's bodies lead to its node
abbrev pub IsKept : {D : Type 0} → Ghosts D → D → StoreTerm → Type 0
IsKept d disk store = IsKeptBy d disk node_shape (LeadsIn store.blobs) store.log store.node

-- it is, or a commit of it answered Disk
abbrev pub IsReady : {D : Type 0} → Ghosts D → D → StoreTerm → Type 0
IsReady d disk store = IsReadyBy d disk node_shape (LeadsIn store.blobs) store.log store.node

-- the store could commit, and its node allowed the event
pub record WasTried (old : StoreTerm) (event : Event) : Type 0 where
  pub unspent : is_spent old ≡ false
  pub allowed : refusal old.node event ≡ None

-- nothing was touched
pub record Untouched {D : Type 0} (old new : StoreTerm) (before now : D) : Type 0 where
  pub store : new ≡ old
  pub disk : now ≡ before

-- committing the event takes memory: for the text of a meta-configuration, for the texts of a Stage, for the list of Previous once more,
-- which takes none but may be refused, and for a report that no capacity was reserved for
abbrev pub TakesMemory : Bool → Event → Type 0
TakesMemory reserved (events.Stage staged) = ⊤
TakesMemory reserved (events.SetMeta meta) = ⊤
TakesMemory reserved events.Restore = ⊤
TakesMemory reserved (events.Promote report) = reserved ≡ false
TakesMemory reserved (events.Note report) = reserved ≡ false
TakesMemory reserved (events.AskReboot report) = reserved ≡ false
TakesMemory reserved _ = ⊥

-- the live bank has no bodies: one of format 1 has none exactly where its node has no agent
pub record IsEmptyBank (blobs : Option Blobs) (node : Node) : Type 0 where
  pub format : blobs ≡ None
  pub agent : node.agent ≡ None

-- the bodies of an event other than a Stage: to an empty bank a Format first
abbrev pub AddsEvent : Option Blobs → Option ℕ → Event → List (List ℕ) → Type 0
AddsEvent None None event added = added ≡ format_body ∷ body_of_event event ∷ []
AddsEvent _ _ event added = added ≡ body_of_event event ∷ []

-- The bodies that are added to the live bank, where it has room for them. Those of a Stage are the Blobs that the bank lacks, and the Stage
-- by digests; none are in a bank of format 1, and where its list collides with the bank.
abbrev pub AreAdded : Option Blobs → Node → Event → List (List ℕ) → Type 0
AreAdded (Some blobs) node (events.Stage staged) added =
    (lacking : Blobs) × Lack blobs (texts_of (parts_of staged)) lacking × (added ≡ staged_bodies lacking (parts_of staged))
AreAdded None node (events.Stage staged) added = ⊥
AreAdded blobs node event added = AddsEvent blobs node.agent event added

abbrev pub IsStage : Event → Type 0
IsStage event = (staged : Staged) × (event ≡ events.Stage staged)

-- the live bank has no room for what is added
pub record HasNoRoom (blobs : Option Blobs) (log : LogTerm) (node : Node) (event : Event) : Type 0 where
  pub added : List (List ℕ)
  pub are : AreAdded blobs node event added
  pub above : capacity_in log < length (cells added)

-- what the commit leaves is of format 2: after a Stage, one on an empty bank, and one that the live bank has no room for
abbrev pub NeedsFormat : Option Blobs → LogTerm → Node → Event → Type 0
NeedsFormat blobs log node event = IsStage event ⊎ IsEmptyBank blobs node ⊎ HasNoRoom blobs log node event

-- the whole node after the event takes the place of all bodies: none are added for it, or the live bank has no room for them
abbrev pub MustRewrite : Option Blobs → LogTerm → Node → Event → Type 0
MustRewrite blobs log node event = (added : List (List ℕ)) → AreAdded blobs node event added → length (cells added) ≤ capacity_in log → ⊥

-- the other bank is live, and has the bodies of the whole node alone: in format 2 with the texts of its parts as Blobs, each once
pub record IsRewritten {D : Type 0} (d : Ghosts D) (disk : D) (old new : LogTerm) (blobs : Option Blobs) (node : Node) : Type 0 where
  pub agent : ℕ
  pub is : node.agent ≡ Some agent
  pub texts : AreBlobsOf blobs node
  pub second : new.second ≡ not old.second
  pub bodies : IsLogOf d disk new (whole_bodies blobs agent node)

-- the image gives bodies of which the first is a Format
abbrev pub BeginsWithFormat : List ℕ → Type 0
BeginsWithFormat image = (rest : List (List ℕ)) × Gives node_shape image (format_body ∷ rest)

-- the live bank is of format 2, and so it is in every image that a crash now may leave
pub record IsByDigests {D : Type 0} (d : Ghosts D) (disk : D) (store : StoreTerm) : Type 0 where
  pub blobs : Blobs
  pub is : store.blobs ≡ Some blobs
  pub images : Each (d.images disk) BeginsWithFormat

-- what the live bank has room for is added, and nothing else
abbrev pub AddsBodies : {T E D : Type 0} → Ghosts D → D → D → StoreTerm → Event → Result T E → StoreTerm → Type 0
AddsBodies d before now old event result new =
    (added bodies : List (List ℕ)) → AreAdded old.blobs old.node event added → length (cells added) ≤ capacity_in old.log → IsLogOf d before old.log bodies → OnOk result (IsLogOf d now new.log (bodies ++ added))

-- whether there is capacity for one more report after the event: a report takes it, every other event leaves it
abbrev pub reserved_after : Event → Bool → Bool
reserved_after (events.Promote report) reserved = false
reserved_after (events.Note report) reserved = false
reserved_after (events.AskReboot report) reserved = false
reserved_after _ reserved = reserved

-- what an answer of commit says, of the store and of the disk with its count
abbrev pub Committed : {T D : Type 0} → Ghosts D → StoreTerm → Event → D → D → Result T StoreError → StoreTerm → Type 0
Committed d old event before now (Ok v) new =
    WasTried old event × Step old.node event new.node × (is_spent new ≡ false) × (new.reserved ≡ reserved_after event old.reserved)
Committed d old event before now (Err Spent) new = (is_spent old ≡ true) × Untouched old new before now
Committed d old event before now (Err (NotAllowed why)) new = (is_spent old ≡ false) × (refusal old.node event ≡ Some why) × Untouched old new before now
Committed d old event before now (Err Disk) new =
    WasTried old event × Rose (d.faults before) (d.faults now) × (new.node ≡ old.node) × (is_spent new ≡ true)
Committed d old event before now (Err Memory) new = WasTried old event × TakesMemory old.reserved event × Untouched old new before now
Committed d old event before now (Err (NotAStore at)) new = ⊥

-- the file fails at that byte, and it is as it was
abbrev pub IsNoStore : {D : Type 0} → Ghosts D → D → D → ℕ → Type 0
IsNoStore d old new at = NotOpenedBy d old new node_shape Leads at

-- the cause of an opening's error
abbrev pub Unopened : {D : Type 0} → Ghosts D → D → D → StoreError → Type 0
Unopened d old new Disk = Rose (d.faults old) (d.faults new)
Unopened d old new (NotAStore at) = IsNoStore d old new at
Unopened d old new Memory = ⊤
Unopened d old new (NotAllowed why) = ⊥
Unopened d old new Spent = ⊥

-- the canonical text of the meta-configuration that the event brings, if it brings one
abbrev pub IsTextOf : Event → Option (List ℕ) → Type 0
IsTextOf (events.SetMeta meta) text = text ≡ Some (text_of_meta meta)
IsTextOf _ text = text ≡ None

-- it, or the text before
abbrev pub text_or : Option (List ℕ) → List ℕ → List ℕ
text_or (Some text) before = text
text_or None before = before

-- a report takes the capacity that was reserved for it; nothing else of the store changes, and out of memory nothing does
abbrev pub Supplied : {T : Type 0} → StoreTerm → Event → Result T NoMemory → StoreTerm → Type 0
Supplied old event (Ok supply) new = (new ≡ record old { reserved = reserved_after event old.reserved })
Supplied old event (Err error) new = TakesMemory old.reserved event × (new ≡ old)
