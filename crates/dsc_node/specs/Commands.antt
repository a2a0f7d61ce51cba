-- What a command asks of a start: a plan for each, and where the node allows it.
use Rattle.std.specs.Prelude.{◌≡◌, Bool, true, false, not, ◌&&◌, ◌||◌, ℕ, List, [], ◌∷◌, Option, Some, None, is_some, is_none, ⊤}
use Rattle.std.specs.List.{list_any}
use Rattle.depend_order.specs.declared.ordered.OrderedDocument.{OrderedDocument}
use Rattle.meta_config.specs.declared.modes.AfterReboot.{AfterReboot}
use Rattle.meta_config.specs.declared.modes.AfterReboot.TheVariants.{ContinueConfiguration, StopConfiguration}
use Rattle.meta_config.specs.declared.modes.RefreshMode.{RefreshMode}
use Rattle.meta_config.specs.declared.modes.RefreshMode.TheVariants as refreshes
use Rattle.meta_config.specs.declared.meta.Meta.{Meta}
use Rattle.meta_config.specs.declared.meta.Partial.{Partial}
use Rattle.meta_config.specs.Parts.{is_pull, is_pulled, mode_in, partial_named}
use Rattle.node_state.specs.declared.list.Staged.{Staged}
use Rattle.node_state.specs.declared.node.Node.{Node}
use Rattle.node_state.specs.declared.event.Event.TheVariants as events
use Rattle.node_state.specs.declared.event.Why.{Why}
use Rattle.node_state.specs.declared.event.Why.TheVariants.{NoAgent, HasAgent, Disabled, NotPull, NoServer, NotRegistered, NoName, NoPartial, NoPrevious, PartNotPush, PartsDeclared}
use Rattle.node_state.specs.Metas.{IsNodeMeta}
use Rattle.node_state.specs.StagedParts.{parts_of}
use Rattle.node_state.specs.Table.{check}
use Rattle.partial_merge.specs.declared.error.MergeError.{MergeError}
use Rattle.partial_merge.specs.Merged.{IsDocumentOf}
use Rattle.partial_merge.specs.Parts.{DeclaresDocument, unnamed_part}
use Rattle.partial_merge.specs.Refused.{IsFaultAt, Refused}
use Rattle.dsc_node.specs.declared.command.Command.{Command}
use Rattle.dsc_node.specs.declared.command.Command.TheVariants as commands
use Rattle.dsc_node.specs.declared.plan.Bring.{Bring}
use Rattle.dsc_node.specs.declared.plan.Bring.TheVariants as bring
use Rattle.dsc_node.specs.declared.plan.Follows.TheVariants as follows
use Rattle.dsc_node.specs.declared.plan.Needs.{Needs}
use Rattle.dsc_node.specs.declared.plan.Needs.TheVariants as need
use Rattle.dsc_node.specs.declared.plan.Plan.{Plan}
use Rattle.dsc_node.specs.declared.plan.Printed.{Printed}
use Rattle.dsc_node.specs.declared.plan.Printed.TheVariants as print

-- ---- the table of commands

-- brings this, and prints a text
abbrev pub prints : Needs → Bring → Printed → Plan
prints needs brings text = record { needs = needs; waits = false; reads_clock = false; brings = brings; stops = false; follows = follows.Text text }

-- brings this, and comes to a run, if there is something to run
abbrev pub runs : Needs → Bring → Plan
runs needs brings = record { needs = needs; waits = true; reads_clock = true; brings = brings; stops = false; follows = follows.Run }

-- a push without a name: its bytes are one part, merged to this document
pub record IsPush (bytes : List ℕ) (plan : Plan) : Type 0 where
  pub staged : Staged
  pub document : OrderedDocument
  pub parts : parts_of staged ≡ unnamed_part bytes ∷ []
  pub merged : IsDocumentOf (parts_of staged) document
  pub is : plan ≡ runs need.NoPartials (bring.Push staged document)

-- a push under a name: its bytes are a document by the rules of parts, whatever they depend on elsewhere
pub record IsPushOfPart (name bytes : List ℕ) (plan : Plan) : Type 0 where
  pub declares : DeclaresDocument bytes
  pub is : plan ≡ runs (need.PushedPartial name) (bring.PushPart name bytes)

-- What a command asks of a start. A run waits where a reboot was asked for; that of a boot does not, but the node may be told to stop there. A
-- registration reads the clock, though nothing runs.
abbrev pub IsPlanOf : Command → Plan → Type 0
IsPlanOf (commands.Init agent) plan = plan ≡ prints need.NoAgent (bring.Event (events.Init agent)) print.Done
IsPlanOf (commands.Meta meta) plan = plan ≡ prints need.Agent (bring.Event (events.SetMeta meta)) print.Done
IsPlanOf (commands.Register name) plan = plan ≡ record (prints need.Server (bring.Registration name) print.Done) { reads_clock = true }
IsPlanOf commands.Pull plan = plan ≡ runs need.Pull bring.Pull
IsPlanOf (commands.Push None bytes) plan = IsPush bytes plan
IsPlanOf (commands.Push (Some name) bytes) plan = IsPushOfPart name bytes plan
IsPlanOf commands.Consistency plan = plan ≡ runs need.Run bring.Nothing
IsPlanOf commands.Boot plan = plan ≡ record (runs need.Run bring.Boot) { waits = false; stops = true }
IsPlanOf commands.Get plan = plan ≡ prints need.Agent bring.Nothing print.Node
IsPlanOf commands.Restore plan = plan ≡ runs need.Previous (bring.Event events.Restore)
IsPlanOf (commands.Remove stage) plan = plan ≡ prints need.Agent (bring.Event (events.Remove stage)) print.Done
IsPlanOf commands.Reports plan = plan ≡ prints need.Agent bring.Nothing print.Reports

-- its meta-configuration, where it has one, is one that a node may have
abbrev pub IsTaken : Command → Type 0
IsTaken (commands.Meta meta) = IsNodeMeta meta
IsTaken _ = ⊤

-- the pushed document is refused so
abbrev pub IsUnmerged : Command → MergeError → Type 0
IsUnmerged (commands.Push None bytes) error = Refused (unnamed_part bytes ∷ []) error
IsUnmerged (commands.Push (Some name) bytes) error = IsFaultAt 0 bytes error
IsUnmerged _ error = ⊥

-- ---- where it is allowed

abbrev pub is_disabled : RefreshMode → Bool
is_disabled refreshes.Push = false
is_disabled refreshes.Pull = false
is_disabled refreshes.Disabled = true

abbrev pub is_push : RefreshMode → Bool
is_push refreshes.Push = true
is_push refreshes.Pull = false
is_push refreshes.Disabled = false

abbrev pub is_any : List Partial → Bool
is_any [] = false
is_any (partial ∷ partials) = true

abbrev pub declares_partials : Node → Bool
declares_partials node = is_any node.meta.partials

abbrev pub is_one : List (List ℕ) → Bool
is_one [] = false
is_one (name ∷ []) = true
is_one (name ∷ second ∷ names) = false

-- there is something to pull: the mode of a partial configuration is Pull, or, where none is declared, the refresh mode
abbrev pub pulls_of : Meta → List Partial → Bool
pulls_of meta [] = is_pull meta.refresh
pulls_of meta (partial ∷ partials) = list_any (is_pulled meta) (partial ∷ partials)

abbrev pub pulls_some : Meta → Bool
pulls_some meta = pulls_of meta meta.partials

-- partial configurations are declared, or there is exactly one name to ask the server for
abbrev pub has_names : Node → Bool
has_names node = declares_partials node || is_one node.meta.names

-- there is a server to pull from
abbrev pub has_source : Node → Bool
has_source node = is_some node.meta.server && node.meta.pulls

-- what every command but `init` asks first
abbrev pub why_no_agent : Node → Option Why → Option Why
why_no_agent node rest = check (is_some node.agent) NoAgent rest

-- and every one that may run next
abbrev pub why_no_run : Node → Option Why → Option Why
why_no_run node rest = why_no_agent node (check (not (is_disabled node.meta.refresh)) Disabled rest)

-- what a pull asks after these
abbrev pub why_no_pull : Node → Option Why
why_no_pull node =
    check (pulls_some node.meta) NotPull
    (check (has_source node) NoServer
    (check node.registered NotRegistered
    (check (has_names node) NoName None)))

-- and what a push under a name, of the partial configuration that has the name, where one is declared
abbrev pub why_no_push : Meta → Option Partial → Option Why
why_no_push meta None = Some NoPartial
why_no_push meta (Some partial) = check (is_push (mode_in meta partial)) PartNotPush None

-- why the node does not have what is needed: the first condition that fails
abbrev pub why_not : Node → Needs → Option Why
why_not node need.NoAgent = check (is_none node.agent) HasAgent None
why_not node need.Agent = why_no_agent node None
why_not node need.Server = why_no_agent node (check (is_some node.meta.server) NoServer None)
why_not node need.Run = why_no_run node None
why_not node need.NoPartials = why_no_run node (check (not (declares_partials node)) PartsDeclared None)
why_not node (need.PushedPartial name) = why_no_run node (why_no_push node.meta (partial_named node.meta.partials name))
why_not node need.Pull = why_no_run node (why_no_pull node)
why_not node need.Previous = why_no_run node (check (is_some node.previous) NoPrevious None)

-- a reboot was asked for, and the plan is one that waits for the boot
abbrev pub waits : Node → Plan → Bool
waits node plan = plan.waits && node.reboot

-- the node has what is needed, and the plan waits for nothing
pub record IsAllowed (node : Node) (plan : Plan) : Type 0 where
  pub allowed : why_not node plan.needs ≡ None
  pub ready : waits node plan ≡ false

-- ---- where it stops

abbrev pub is_stop : AfterReboot → Bool → Bool
is_stop ContinueConfiguration marked = false
is_stop StopConfiguration marked = marked

-- after a boot that was asked for the node is to stop, and nothing runs
abbrev pub stops : Node → Plan → Bool
stops node plan = plan.stops && is_stop node.meta.after node.reboot
