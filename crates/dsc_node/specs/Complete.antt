-- What a command asks of its input, and how a start of valid input ends in which nothing failed.
use Rattle.std.specs.Prelude.{◌≡◌, ◌≢◌, ◌⊎◌, ℕ, ◌<◌, ◌-◌, ◌^◌, true, false, List, [], ◌∷◌, Some, None, IsSome, ⊤}
use Rattle.dsc_terms.specs.Counts.{Rose}
use Rattle.dsc_outside.specs.Link.{LinkView}
use Rattle.dsc_document.specs.declared.document.Document.{Document}
use Rattle.meta_config.specs.declared.meta.Partial.{Partial}
use Rattle.meta_config.specs.declared.modes.RefreshMode.TheVariants as refreshes
use Rattle.meta_config.specs.declared.server.Server.{Server}
use Rattle.meta_config.specs.Parts.{mode_in, partial_named}
use Rattle.partial_merge.specs.declared.part.Part.{Part}
use Rattle.partial_merge.specs.Merged.{Merged}
use Rattle.partial_merge.specs.Parts.{DeclaresDocument, text_part, unnamed_part}
use Rattle.node_state.specs.declared.node.Node.{Node}
use Rattle.node_store.specs.Stands.{Stands}
use Rattle.node_pull.specs.Laying.{AreLaid}
use Rattle.node_pull.specs.Names.{CanAsk}
use Rattle.node_pull.specs.Serving.{AcceptsRegistration, MayBeStaged, Serves}
use Rattle.dsc_node.specs.declared.command.Command.{Command}
use Rattle.dsc_node.specs.declared.command.Command.TheVariants as commands
use Rattle.dsc_node.specs.declared.status.Status.{Status}
use Rattle.dsc_node.specs.declared.status.Status.TheVariants as statuses
use Rattle.dsc_node.specs.Bringing.{held_of}
use Rattle.dsc_node.specs.Start.{Outside, Start}
use Rattle.dsc_node.specs.Work.{Known}

-- ---- what a command asks of the node

-- the node has an agent, its refresh mode is not Disabled, and the report of a run can have the next number, which another can follow
pub record MayRun (node : Node) : Type 0 where
  pub agent : IsSome node.agent
  pub enabled : node.meta.refresh ≢ refreshes.Disabled
  pub job : node.next_job < 2 ^ 64 - 1

-- and it waits for no reboot
pub record MayRunNow (node : Node) : Type 0 where
  pub runs : MayRun node
  pub ready : node.reboot ≡ false

-- the bytes are merged to a document, and the node declares no partial configurations
pub record MayPush (node : Node) (bytes : List ℕ) : Type 0 where
  pub runs : MayRunNow node
  pub whole : node.meta.partials ≡ []
  pub document : Document
  pub merged : Merged (unnamed_part bytes ∷ []) document

-- the name is that of a partial configuration whose mode is Push, the bytes are a document by the rules of parts, and each list that this part
-- is laid to over the parts that the node holds may be staged
pub record MayPushPart (node : Node) (name bytes : List ℕ) : Type 0 where
  pub runs : MayRunNow node
  pub partial : Partial
  pub is_partial : partial_named node.meta.partials name ≡ Some partial
  pub mode : mode_in node.meta partial ≡ refreshes.Push
  pub declares : DeclaresDocument bytes
  pub staged : (parts : List Part) → AreLaid node.meta (text_part partial.name bytes ∷ []) (held_of node) parts → MayBeStaged node.meta parts

-- there is a Previous
pub record MayRestore (node : Node) : Type 0 where
  pub runs : MayRunNow node
  pub kept : IsSome node.previous

-- ---- what a command asks of the server

-- the node's server accepts the registration
pub record MayRegister (node : Node) (name : List ℕ) (before after : LinkView) : Type 0 where
  pub agent : ℕ
  pub is_agent : node.agent ≡ Some agent
  pub server : Server
  pub is_server : node.meta.server ≡ Some server
  pub accepts : AcceptsRegistration node.meta server agent name before after

-- the node has something to pull and names to ask for, and is registered, and its server gives it what it asks for
pub record MayPull (node : Node) (before after : LinkView) : Type 0 where
  pub runs : MayRunNow node
  pub mode : node.meta.partials ≡ [] → node.meta.refresh ≡ refreshes.Pull
  pub pulls : node.meta.pulls ≡ true
  pub registered : node.registered ≡ true
  pub names : CanAsk node.meta
  pub agent : ℕ
  pub is_agent : node.agent ≡ Some agent
  pub server : Server
  pub is_server : node.meta.server ≡ Some server
  pub serves : Serves node.meta server agent (held_of node) before after

-- ---- the table

-- What each command asks of the node, of its own input, and of what the link shows before the start and after it. That a
-- meta-configuration is one that a node may have is asked of each start.
abbrev pub IsValidFor : Command → Node → LinkView → LinkView → Type 0
IsValidFor (commands.Init agent) node before after = node.agent ≡ None
IsValidFor (commands.Meta meta) node before after = IsSome node.agent
IsValidFor (commands.Register name) node before after = MayRegister node name before after
IsValidFor commands.Pull node before after = MayPull node before after
IsValidFor (commands.Push None bytes) node before after = MayPush node bytes
IsValidFor (commands.Push (Some name) bytes) node before after = MayPushPart node name bytes
IsValidFor commands.Consistency node before after = MayRunNow node
IsValidFor commands.Boot node before after = MayRun node
IsValidFor commands.Get node before after = IsSome node.agent
IsValidFor commands.Restore node before after = MayRestore node
IsValidFor (commands.Remove stage) node before after = IsSome node.agent
IsValidFor commands.Reports node before after = IsSome node.agent

-- the disk holds a store of such a node
pub record IsValid {D S C : Type 0} (o : Known D S C) (command : Command) (before after : Outside D S C) : Type 0 where
  pub held : List ℕ
  pub shown : o.disk.shown before.disk ≡ Some held
  pub node : Node
  pub stands : Stands held node
  pub valid : IsValidFor command node before.beside.link after.beside.link

-- No count of faults rose: not that of the disk or the clock, and in a pull, which looks for packages and adds them, not that of the machine.
-- In a run the machine's may rise, and that of the link where a report is not sent: neither refuses a start.
pub record NothingFailed {D S C : Type 0} (o : Known D S C) (command : Command) (before after : Outside D S C) : Type 0 where
  pub disk : Rose (o.disk.faults before.disk) (o.disk.faults after.disk) → ⊥
  pub clock : Rose (o.clock.faults before.beside.clock) (o.clock.faults after.beside.clock) → ⊥
  pub machine : command ≡ commands.Pull → Rose (o.resources.faults before.beside.machine) (o.resources.faults after.beside.machine) → ⊥

-- ---- how such a start ends

-- what a run comes to; nothing is run where there is nothing to run
abbrev pub IsEndOfRun : Status → Type 0
IsEndOfRun statuses.Done = ⊤
IsEndOfRun (statuses.NotCompliant count) = ⊤
IsEndOfRun (statuses.RebootAsked place now) = ⊤
IsEndOfRun _ = ⊥

-- how a start of the command ends that was not refused
abbrev pub IsEndOf : Command → Status → Type 0
IsEndOf commands.Pull status = IsEndOfRun status
IsEndOf (commands.Push name bytes) status = IsEndOfRun status
IsEndOf commands.Consistency status = IsEndOfRun status
IsEndOf commands.Boot status = IsEndOfRun status
IsEndOf commands.Restore status = IsEndOfRun status
IsEndOf _ status = status ≡ statuses.Done

-- a start of valid input in which nothing failed ends so, or memory ran out
abbrev pub ValidStartsComplete : {D S C : Type 0} → Known D S C → Type 0
ValidStartsComplete {D} {S} {C} o =
    (command : Command) (before after : Outside D S C) (status : Status) (lines : List ℕ) → Start o command before after status lines
    → IsValid o command before after → NothingFailed o command before after → IsEndOf command status ⊎ (status ≡ statuses.Memory)
