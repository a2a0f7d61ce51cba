-- What a start promises of its store, its machine and its report, over any machine: the headline, fact by fact.
use Rattle.std.specs.Prelude.{◌≡◌, ◌⊎◌, ℕ, ◌<◌, ◌≤◌, ◌-◌, ◌^◌, true, List, [], ◌∷◌, ◌++◌, length, Option, Some, None, Ok, ⊤}
use Rattle.dsc_terms.specs.Counts.{Rose}
use Rattle.dsc_outside.specs.declared.disk.Disk as disks
use Rattle.dsc_outside.specs.declared.entries.Package.{Package}
use Rattle.dsc_document.specs.declared.document.Document.{Document}
use Rattle.gate_log.specs.Standing.{AllStand, StoodFor}
use Rattle.meta_config.specs.declared.meta.Partial.{Partial}
use Rattle.meta_config.specs.declared.server.Server.{Server}
use Rattle.meta_config.specs.Parts.{partial_named}
use Rattle.partial_merge.specs.declared.part.Part.{Part}
use Rattle.partial_merge.specs.Merged.{Merged}
use Rattle.partial_merge.specs.Parts.{text_part, unnamed_part}
use Rattle.resource_kinds.specs.declared.entry.Entry.{Entry}
use Rattle.resource_kinds.specs.declared.resources.Resources as resources
use Rattle.resource_kinds.specs.Trace.{Compliant, EndsInReboot, Succeeded, missed_count}
use Rattle.lcm_core.specs.declared.modes.RunEnd.TheVariants as ends
use Rattle.report_log.specs.declared.report.Outcome.TheVariants.{Success}
use Rattle.report_log.specs.declared.report.Report.{Report}
use Rattle.report_log.specs.Report.{IsReport}
use Rattle.node_state.specs.declared.node.Node.{Node}
use Rattle.node_state.specs.declared.event.Event.{Event}
use Rattle.node_state.specs.declared.event.Event.TheVariants as events
use Rattle.node_state.specs.declared.list.Staged.{Staged}
use Rattle.node_state.specs.Slots.{IsSlot}
use Rattle.node_state.specs.StagedParts.{parts_of}
use Rattle.node_state.specs.Staging.{AreFitting}
use Rattle.node_state.specs.Sound.{Sound}
use Rattle.node_state.specs.Table.{Steps}
use Rattle.node_store.specs.Stands.{Stands}
use Rattle.dsc_node.specs.declared.command.Command.{Command}
use Rattle.dsc_node.specs.declared.command.Command.TheVariants.{Pull, Push}
use Rattle.dsc_node.specs.declared.plan.Bring.TheVariants as bring
use Rattle.dsc_node.specs.declared.plan.Needs.TheVariants as need
use Rattle.dsc_node.specs.declared.status.Status.{Status}
use Rattle.dsc_node.specs.declared.status.Status.TheVariants as statuses
use Rattle.node_pull.specs.Contents.{WasAccepted}
use Rattle.node_pull.specs.Listing.{Listed}
use Rattle.node_pull.specs.Packages.{AddsAccepted, HasAll, modules_of}
use Rattle.dsc_outside.specs.Link.{GoesOn, LinkView}
use Rattle.dsc_node.specs.Bringing.{held_of}
use Rattle.dsc_node.specs.Commands.{IsAllowed, runs}
use Rattle.dsc_node.specs.Commits.{all_of}
use Rattle.dsc_node.specs.Lines.{IsRunText}
use Rattle.dsc_node.specs.Path.{IsOnTheWay, Passes}
use Rattle.dsc_node.specs.Runs.{Ran, Run, end_line, frame_of}
use Rattle.dsc_node.specs.Sending.{Tried, tried_text}
use Rattle.dsc_node.specs.Start.{Opened, Outside}
use Rattle.dsc_node.specs.Work.{Known}

-- ---- 1: a state after a prefix of the steps

-- Every image at any moment stands for a node for which an image at the beginning stood, or for the node after a prefix of the work; and
-- every image at the end for the node after what was committed, or, where a commit answered Disk, after that event too.
abbrev pub EndsBroken : Status → Type 0
EndsBroken status = (status ≡ statuses.DiskFault) ⊎ (status ≡ statuses.Memory)

pub record IsAfterPrefix {D : Type 0} (d : disks.Ghosts D) (begin now : D) (from : Node) (status : Status) (committed : List Event) (broken : Option Event) : Type 0 where
  pub moments : Passes d begin now from (all_of committed broken)
  pub left : AllStand d now Stands (λ end. Steps from committed end ⊎ Steps from (all_of committed broken) end)
  -- a commit answered Disk only where the disk's count rose, and then the start ends with a fault of the disk, or for memory
  pub unbroken : (broken ≡ None) ⊎ (Rose (d.faults begin) (d.faults now) × EndsBroken status)

-- ---- 2: whole

-- each such node is sound: its documents are whole, and its reports in size
abbrev pub AreSound : {D : Type 0} → disks.Ghosts D → D → Node → List Event → Type 0
AreSound d begin from work = (node : Node) → IsOnTheWay d begin from work node → Sound node

-- ---- 3: as announced or pushed

-- an image at the beginning stood for the node, or, where the disk does not show what it holds, it is the one that was opened
abbrev pub WasFound : {D : Type 0} → disks.Ghosts D → D → Node → Node → Type 0
WasFound d begin from node = StoodFor d begin Stands node ⊎ ((d.shown begin ≡ None) × (node ≡ from))

-- the part stood in such a node
abbrev pub WasThere : {D : Type 0} → disks.Ghosts D → D → Node → Part → Type 0
WasThere d begin from part = (node : Node) × WasFound d begin from node × IsSlot node part

-- the node's server was asked for the part in this start, and gave it under the digest that was announced for it
pub record WasPulled (node : Node) (asked heard : LinkView) (part : Part) : Type 0 where
  pub server : Server
  pub is_server : node.meta.server ≡ Some server
  pub agent : ℕ
  pub is_agent : node.agent ≡ Some agent
  pub accepted : WasAccepted server agent asked heard part

-- the part is the input as that of the partial configuration that has the name, under the name as that is declared
pub record WasPushed (node : Node) (name bytes : List ℕ) (part : Part) : Type 0 where
  pub partial : Partial
  pub is_partial : partial_named node.meta.partials name ≡ Some partial
  pub is : part ≡ text_part partial.name bytes

-- the part is the pushed one, or was pulled
abbrev pub IsBrought : Command → Node → LinkView → LinkView → Part → Type 0
IsBrought (Push None bytes) node asked heard part = part ≡ unnamed_part bytes
IsBrought (Push (Some name) bytes) node asked heard part = WasPushed node name bytes part
IsBrought Pull node asked heard part = WasPulled node asked heard part
IsBrought _ node asked heard part = ⊥

-- each part of such a node was there, or was brought
abbrev pub AreAsBrought : {D : Type 0} → disks.Ghosts D → D → Command → LinkView → LinkView → Node → List Event → Type 0
AreAsBrought d begin command asked heard from work =
    (node : Node) (part : Part) → IsOnTheWay d begin from work node → IsSlot node part → WasThere d begin from part ⊎ IsBrought command from asked heard part

-- ---- 4: each Set

-- The trace is that of a run over the merged parts: each Set follows a Test of that resource that answered no, and Tests of its
-- dependencies that answered yes; nothing is left out. Where nothing was run, the machine is as it was.
abbrev pub IsRun : {S : Type 0} → resources.Ghosts S → Option Run → S → S → Type 0
IsRun machine None before after = after ≡ before
IsRun machine (Some run) before after = Ran machine run before after

-- the statuses of a pull that came to nothing: the clock, the link or the host failed, an answer of the server was refused, or memory was
-- refused. The start may end with the last of these also for a step after the pull.
abbrev pub IsPullFault : Status → Type 0
IsPullFault statuses.ClockFault = ⊤
IsPullFault statuses.LinkFault = ⊤
IsPullFault statuses.HostFault = ⊤
IsPullFault (statuses.PeerRefused fault) = ⊤
IsPullFault statuses.Memory = ⊤
IsPullFault _ = ⊥

-- the node allows a pull
abbrev pub AllowsPull : Node → Type 0
AllowsPull node = IsAllowed node (runs need.Pull bring.Pull)

-- the node did not allow the pull, or it ended so
abbrev pub IsPullRefused : Node → Status → Type 0
IsPullRefused node status = (AllowsPull node → ⊥) ⊎ IsPullFault status

-- The node's server listed these parts, which fit its meta-configuration, and then for the modules that their document names it gave the
-- packages that the machine lacked. Unless the pull failed, the machine then has the package of each of these modules.
pub record PulledPackages (node : Node) (asked heard : LinkView) (status : Status) (before ready : Option (List Package)) : Type 0 where
  pub allowed : AllowsPull node
  pub server : Server
  pub is_server : node.meta.server ≡ Some server
  pub agent : ℕ
  pub is_agent : node.agent ≡ Some agent
  pub staged : Staged
  pub listing : LinkView
  pub listed : Listed node.meta server agent (held_of node) asked listing (Ok (parts_of staged))
  pub fitting : AreFitting node.meta (parts_of staged)
  pub document : Document
  pub merged : Merged (parts_of staged) document
  pub on : GoesOn listing heard
  pub added : AddsAccepted server (modules_of document) listing heard before ready
  pub there : (IsPullFault status → ⊥) → HasAll (modules_of document) ready

-- what a command adds to the machine's packages before its run: nothing, or those of a pull
abbrev pub AddsPackages : Command → Node → LinkView → LinkView → Status → Option (List Package) → Option (List Package) → Type 0
AddsPackages Pull node asked heard status before ready = (IsPullRefused node status × (ready ≡ before)) ⊎ PulledPackages node asked heard status before ready
AddsPackages _ node asked heard status before ready = ready ≡ before

-- before the run nothing but the machine's packages changed; no resource was tested or set, and the machine's count did not fall
pub record RunsAfterPackages {D S C : Type 0} (o : Known D S C) (command : Command) (node : Node) (asked heard : LinkView) (status : Status) (run : Option Run) (before ready after : S) : Type 0 where
  pub packages : o.machine.packages_changed before ready
  pub added : AddsPackages command node asked heard status (o.machine.packages before) (o.machine.packages ready)
  pub untested : o.resources.trace ready ≡ o.resources.trace before
  pub later : o.resources.faults before ≤ o.resources.faults ready
  pub runs : IsRun o.resources run ready after

-- ---- 5: a compliant report

abbrev pub KeepsReport : Event → Report → Type 0
KeepsReport (events.Promote kept) report = report ≡ kept
KeepsReport (events.Note kept) report = report ≡ kept
KeepsReport (events.AskReboot kept) report = report ≡ kept
KeepsReport _ report = ⊥

-- one of the events keeps the report
abbrev pub Keeps : List Event → Report → Type 0
Keeps [] report = ⊥
Keeps (event ∷ events) report = KeepsReport event report ⊎ Keeps events report

-- the text of the trace, alone or with the line of the event that keeps its report and those of the reports that were tried; nothing where
-- memory ran out
abbrev pub IsPrinted : Run → List Entry → Status → List ℕ → Type 0
IsPrinted run trace status lines =
    ((status ≡ statuses.Memory) × (lines ≡ []))
    ⊎ ((text : List ℕ) × IsRunText run.document trace text
    × ((lines ≡ text) ⊎ ((tried : List Tried) × (lines ≡ text ++ end_line run.end run.choice.pending (missed_count run.document trace) ++ tried_text tried))))

-- A report that is kept is that of the trace. It says success exactly where the trace does not end with a reboot and each resource's last
-- Test answered yes.
pub record IsTold (from : Node) (run : Run) (trace : List Entry) (work : List Event) (status : Status) (lines : List ℕ) : Type 0 where
  pub report : (report : Report) → Keeps work report → (start end : ℕ) × IsReport run.document trace (frame_of from run.choice start end) report
  pub success : (report : Report) → Keeps work report → report.outcome ≡ Success → (r : ℕ) → r < length run.document.resources → Succeeded trace r
  pub compliant : (report : Report) → Keeps work report → (EndsInReboot trace → ⊥) → Compliant run.document trace → report.outcome ≡ Success
  pub printed : IsPrinted run trace status lines

abbrev pub AreTold : Node → Option Run → List Entry → List Event → Status → List ℕ → Type 0
AreTold from None trace work status lines = (report : Report) → Keeps work report → ⊥
AreTold from (Some run) trace work status lines = IsTold from run trace work status lines

-- ---- 6: completes

-- a run of Pending to its last resource, in which none was missed, without a fault of the disk
pub record IsPromotable {D : Type 0} (d : disks.Ghosts D) (begin now : D) (from : Node) (run : Run) (trace : List Entry) : Type 0 where
  pub pending : run.choice.pending ≡ true
  pub finished : run.end ≡ ends.Finished
  pub compliant : Compliant run.document trace
  pub disk : Rose (d.faults begin) (d.faults now) → ⊥
  pub job : from.next_job < 2 ^ 64 - 1

-- the parts of the run are Current, and nothing is Pending
pub record IsCurrent (run : Run) (node : Node) : Type 0 where
  pub current : node.current ≡ Some run.choice.parts
  pub pending : node.pending ≡ None

-- such a run makes Pending Current
abbrev pub IsPromoted : {D : Type 0} → disks.Ghosts D → D → D → Node → Option Run → List Entry → List Event → Type 0
IsPromoted d begin now from None trace committed = ⊤
IsPromoted d begin now from (Some run) trace committed = IsPromotable d begin now from run trace → (node : Node) → Steps from committed node → IsCurrent run node

-- ---- the headline

pub record Headline {D S C : Type 0} (o : Known D S C) (command : Command) (before after : Outside D S C)
    (status : Status) (lines : List ℕ) (from : Node) (ready : S) (run : Option Run) (committed : List Event) (broken : Option Event) : Type 0 where
  pub a_prefix_of_the_steps : IsAfterPrefix o.disk before.disk after.disk from status committed broken
  pub documents_are_whole : AreSound o.disk before.disk from (all_of committed broken)
  pub parts_are_as_brought : AreAsBrought o.disk before.disk command before.beside.link after.beside.link from (all_of committed broken)
  pub sets_follow_tests : RunsAfterPackages o command from before.beside.link after.beside.link status run before.beside.machine ready after.beside.machine
  pub reports_are_true : AreTold from run (o.resources.trace after.beside.machine) (all_of committed broken) status lines
  pub compliant_runs_are_promoted : IsPromoted o.disk before.disk after.disk from run (o.resources.trace after.beside.machine) committed

-- of each start that opened its store
abbrev pub HasHeadline : {D S C : Type 0} → Known D S C → Command → Outside D S C → Outside D S C → Status → List ℕ → Type 0
HasHeadline o command before after status lines =
    (opened : Opened o command before after status lines)
    → Headline o command before after status lines opened.from opened.ready opened.run opened.ended.committed opened.ended.broken
