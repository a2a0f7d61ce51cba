-- What each start of a rehearsal comes to: where no stop came in it nothing failed, and the node goes to the one after all the work of its table, and
-- else to one after a prefix of that; and its trace is true of the machine that the start before it left.
use Rattle.std.specs.Prelude.{◌≡◌, ◌⊎◌, ℕ, List, [], Option, Some, None, Ok, IfSome}
use Rattle.dsc_terms.specs.Counts.{Rose}
use Rattle.dsc_outside.specs.Host.{HostState}
use Rattle.dsc_outside.specs.LinkView.{view_of}
use Rattle.dsc_document.specs.declared.document.Document.{Document}
use Rattle.memory_outside.specs.MemoryDisk.{DiskInMemory}
use Rattle.memory_outside.specs.StoppedDisk.{DiskToStop}
use Rattle.memory_outside.specs.StoppedHost.{HostToStop}
use Rattle.memory_outside.specs.declared.contents.HostContents.{HostContents}
use Rattle.rehearsal.specs.Objects as rehearsals
use Rattle.rehearsal.specs.Objects.{disk_ghosts}
use Rattle.rehearsal.specs.Playing.{Ends, EndsOrStops}
use Rattle.rehearsal.specs.World.{World}
use Rattle.rehearsal.specs.declared.row.Ending.TheVariants.{Named, Stopped}
use Rattle.rehearsal.specs.declared.row.StartRow.{StartRow}
use Rattle.rehearsal.specs.declared.starter.Starter as starters
use Rattle.rehearsal.specs.declared.step.StopPart.{StopPart}
use Rattle.resource_kinds.specs.declared.entry.Entry.{Entry}
use Rattle.resource_kinds.specs.declared.kinds.Kinds.{Kinds}
use Rattle.resource_kinds.specs.Trace.{host_failures}
use Rattle.resource_kinds.specs.True.{True}
use Rattle.node_state.specs.declared.event.Event.{Event}
use Rattle.node_state.specs.declared.node.Node.{Node}
use Rattle.node_state.specs.Table.{Steps}
use Rattle.node_store.specs.Stands.{Stands}
use Rattle.dsc_node.specs.declared.command.Command as starting
use Rattle.dsc_node.specs.Headline.{AddsPackages}
use Rattle.dsc_node.specs.Path.{AfterPrefix}
use Rattle.dsc_node.specs.Runs.{Run}
use Rattle.dsc_node.specs.Start.{Opened}
use Rattle.dsc_node.specs.Status.{name_of}
use Rattle.dsc_node.specs.WorkDone.{work_of}
use Rattle.dsc_node.specs.declared.status.Status.{Status}
use Rattle.lcm_program.specs.declared.words.Command.{Command}
use Rattle.lcm_program.specs.declared.words.Command.TheVariants.{Test}
use Rattle.lcm_program.specs.Complete.{StartsBy}
use Rattle.lcm_program.specs.DidWords.{DidWords}
use Rattle.lcm_program.specs.Further.{Further}
use Rattle.lcm_program.specs.Input.{IsInput, ReadsDocument}
use Rattle.lcm_program.specs.Objects.{Known, Objects}
use Rattle.lcm_program.specs.Rehearse.{with_output}
use Rattle.lcm_program.specs.Started.{outside_of}
use Rattle.lcm_program.specs.StartsOrRests.{IsStartBy}
use Rattle.lcm_program.specs.Words.{IsForm}

-- ---- what arguments do to the node, over any objects

-- they ask for a command that started the node, and the work of that start leads so from the one node to the other
abbrev pub StartLeads : {S K D M L C : Type 0} → Known S K D M L C → (Node → List Event → Node → Type 0) → List (List ℕ) → Status → Objects S K D M L C → Objects S K D M L C → Node → Node → Type 0
StartLeads o By arguments status before after node later =
    (command : Command) × IsForm command arguments × (is : IsStartBy o command status before after) × By node (work_of o.outside is.start.one) later

-- they started nothing: the disk and the node are as they were
pub record Rests {S K D M L C : Type 0} (before after : Objects S K D M L C) (node later : Node) : Type 0 where
  pub disk : after.disk ≡ before.disk
  pub same : later ≡ node

-- no count of faults rose
pub record NoneRose {S K D M L C : Type 0} (o : Known S K D M L C) (before after : Objects S K D M L C) : Type 0 where
  pub input : Rose (o.source.faults before.input) (o.source.faults after.input) → ⊥
  pub output : Rose (o.sink.faults before.output) (o.sink.faults after.output) → ⊥
  pub disk : Rose (o.outside.disk.faults before.disk) (o.outside.disk.faults after.disk) → ⊥
  pub machine : Rose (o.outside.resources.faults before.machine) (o.outside.resources.faults after.machine) → ⊥
  pub link : Rose (o.link.faults before.link) (o.link.faults after.link) → ⊥
  pub clock : Rose (o.outside.clock.faults before.clock) (o.outside.clock.faults after.clock) → ⊥

-- ---- the machine of a start

-- nothing ran, and the host is as it was
pub record RestsTrue (held : HostState) (trace : List Entry) (holds : HostState) : Type 0 where
  pub nothing : trace ≡ []
  pub same : holds ≡ held

-- `test` ran the document of its input: the trace is true of that and of the host, which is as it was
pub record TestsTrue {S K D H L C : Type 0} (o : Known S K D (Kinds H) L C) (arguments : List (List ℕ)) (before : Objects S K D (Kinds H) L C)
    (held : HostState) (trace : List Entry) (holds : HostState) : Type 0 where
  pub form : IsForm Test arguments
  pub document : Document
  pub input : IsInput ReadsDocument (o.source.left before.input) (Ok document)
  pub run : True document held trace holds
  pub same : holds ≡ held

-- a run's trace is true of its own document, from this host to that one; where nothing was run, it is empty, and the host is the same
abbrev pub RunsTrue : Option Run → HostState → List Entry → HostState → Type 0
RunsTrue None ready trace holds = (trace ≡ []) × (holds ≡ ready)
RunsTrue (Some run) ready trace holds = True run.document ready trace holds

-- A command that started the node, and that opened its store: before the run the host changed in its packages alone, by nothing or by those that
-- the node's server gave for a pull; and the trace is true of the run's own document from there on.
pub record StartsTrue {S K D H L C : Type 0} (o : Known S K D (Kinds H) L C) (arguments : List (List ℕ)) (before after : Objects S K D (Kinds H) L C)
    (held : HostState) (trace : List Entry) (holds : HostState) : Type 0 where
  pub command : Command
  pub form : IsForm command arguments
  pub start : starting.Command
  pub by : IfSome (o.source.left before.input) (λ all. StartsBy (Some all) command start)
  pub status : Status
  pub lines : List ℕ
  pub opened : Opened o.outside start (outside_of o before) (outside_of o after) status lines
  pub ready : HostState
  pub packages : ready ≡ record held { packages = ready.packages }
  pub added : AddsPackages start opened.from (view_of o.link before.link) (view_of o.link after.link) status (Some held.packages) (Some ready.packages)
  pub run : RunsTrue opened.run ready trace holds

-- the trace of what the arguments did is true, from this host to that one
abbrev pub IsTrueTrace : {S K D H L C : Type 0} → Known S K D (Kinds H) L C → List (List ℕ) → Objects S K D (Kinds H) L C → Objects S K D (Kinds H) L C → HostState → List Entry → HostState → Type 0
IsTrueTrace o arguments before after held trace holds =
    RestsTrue held trace holds ⊎ TestsTrue o arguments before held trace holds ⊎ StartsTrue o arguments before after held trace holds

-- ---- a start of a rehearsal

-- It did with its words what the tables say, and ended with this status. From the node of its world the work of its start leads so to that of the
-- next one, and its trace is true from the one's host to the other's.
pub record Goes {K D H : Type 0} (o : Known (List ℕ) K D (Kinds H) rehearsals.Link ℕ) (further : Further D (Kinds H) ℕ) (By : Node → List Event → Node → Type 0)
    (words : List (List ℕ)) (before after : rehearsals.Objects D H) (world next : World) : Type 0 where
  pub old : K
  pub new : K
  pub status : Status
  pub did : DidWords o further words status (with_output old before) (with_output new after)
  pub leads : (node later : Node) → Stands world.image node → Stands next.image later
      → StartLeads o By words status (with_output old before) (with_output new after) node later ⊎ Rests (with_output old before) (with_output new after) node later
  pub is_true : IsTrueTrace o words (with_output old before) (with_output new after) world.host (o.outside.resources.trace after.machine) next.host

-- The same, to the node after all the work. Its row says the name of that status, no count of faults rose, nor that of the server's disk, and no entry says
-- that the host failed.
pub record GoesUnfailed {K D H : Type 0} (o : Known (List ℕ) K D (Kinds H) rehearsals.Link ℕ) (further : Further D (Kinds H) ℕ)
    (words : List (List ℕ)) (before after : rehearsals.Objects D H) (world next : World) (row : StartRow) : Type 0 where
  pub goes : Goes o further Steps words before after world next
  pub says : row.ending ≡ Named (name_of goes.status)
  pub counts : NoneRose o (with_output goes.old before) (with_output goes.new after)
  pub server : Rose (disk_ghosts.faults before.link.disk) (disk_ghosts.faults after.link.disk) → ⊥
  pub entries : host_failures (o.outside.resources.trace after.machine) ≡ 0

-- a start without a stop goes so
abbrev pub EndsGo : {P K : Type 0} → starters.Ghosts P → Known (List ℕ) K DiskInMemory (Kinds HostContents) rehearsals.Link ℕ → Further DiskInMemory (Kinds HostContents) ℕ → Type 0
EndsGo program o further =
    (words : List (List ℕ)) (input : List ℕ) (world : World) (row : StartRow) (next : World) (start : Ends program words input world row next)
    → GoesUnfailed o further words start.before start.after world next row

-- and one with a stop, unless its row says Stopped; whatever it says, the node goes to one after a prefix of the work
abbrev pub StopsGo : {P K : Type 0} → starters.Ghosts P → Known (List ℕ) K DiskToStop (Kinds HostToStop) rehearsals.Link ℕ → Further DiskToStop (Kinds HostToStop) ℕ → Type 0
StopsGo program o further =
    (part : StopPart) (words : List (List ℕ)) (input : List ℕ) (world : World) (row : StartRow) (next : World) (start : EndsOrStops program part words input world row next)
    → Goes o further AfterPrefix words start.before start.after world next
    × ((row.ending ≡ Stopped → ⊥) → GoesUnfailed o further words start.before start.after world next row)
