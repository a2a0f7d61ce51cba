-- What a start promises further over the kinds of resources of a host.
use Rattle.std.specs.Prelude.{◌≡◌, ℕ, ◌<◌, ◌-◌, ◌^◌, true, List, length, Option, Some, None, ⊤}
use Rattle.dsc_terms.specs.Counts.{Rose}
use Rattle.dsc_outside.specs.declared.disk.Disk as disks
use Rattle.dsc_outside.specs.declared.host.Host as hosts
use Rattle.dsc_outside.specs.declared.clock.Clock as clocks
use Rattle.dsc_outside.specs.Host.{HostState}
use Rattle.resource_kinds.specs.declared.kinds.Kinds.{Kinds}
use Rattle.resource_kinds.specs.declared.machine.Machine as machines
use Rattle.resource_kinds.specs.declared.resources.Resources as resources
use Rattle.resource_kinds.specs.Apart.{Apart}
use Rattle.resource_kinds.specs.Documents.{AllHold}
use Rattle.resource_kinds.specs.Kinds.{calls_of, host_of, spare_of}
use Rattle.resource_kinds.specs.Packages.{ChangesPackages, packages_of}
use Rattle.resource_kinds.specs.Trace.{Compliant, Succeeded}
use Rattle.resource_kinds.specs.True.{TellsEntry, TellsTrue}
use Rattle.lcm_core.specs.declared.modes.RunEnd.TheVariants as ends
use Rattle.lcm_core.specs.declared.modes.RunMode.TheVariants.{Repair}
use Rattle.lcm_core.specs.RepairLaws.{BlamesNothing, ComesTo, IsSound, IsSpared}
use Rattle.node_state.specs.declared.node.Node.{Node}
use Rattle.node_state.specs.declared.event.Event.{Event}
use Rattle.node_state.specs.Table.{Steps}
use Rattle.dsc_node.specs.declared.command.Command.{Command}
use Rattle.dsc_node.specs.declared.status.Status.{Status}
use Rattle.dsc_node.specs.Headline.{Headline, IsCurrent}
use Rattle.dsc_node.specs.Runs.{Run}
use Rattle.dsc_node.specs.Start.{Opened, Outside}
use Rattle.dsc_node.specs.Work.{Known, known}

-- the kinds of resources over a host, as what is run, and as a machine that keeps packages
abbrev pub kinds_of : {H : Type 0} → hosts.Ghosts H → resources.Ghosts (Kinds H)
kinds_of host = record {
  trace = calls_of;
  spare = spare_of;
  faults = λ kinds. host.faults (host_of kinds);
  does = λ before document entry after. TellsEntry (host.shown (host_of before)) document entry (host.shown (host_of after));
  still = λ before after. host.shown (host_of before) ≡ host.shown (host_of after);
}

abbrev pub machine_of : {H : Type 0} → hosts.Ghosts H → machines.Ghosts (Kinds H)
machine_of host = record {
  packages = λ kinds. packages_of (host.shown (host_of kinds));
  packages_changed = λ before after. ChangesPackages (host.shown (host_of before)) (host.shown (host_of after));
}

-- what is known of a disk, such a machine and a clock
abbrev pub known_on_host : {D H C : Type 0} → disks.Ghosts D → hosts.Ghosts H → clocks.Ghosts C → Known D (Kinds H) C
known_on_host disk host clock = known disk (kinds_of host) (machine_of host) clock

-- ---- 4: each Set

-- the trace of a run is true of the host, where that shows what it holds
abbrev pub IsTrueRun : {H : Type 0} → hosts.Ghosts H → Option Run → Kinds H → Kinds H → Type 0
IsTrueRun host None before after = ⊤
IsTrueRun host (Some run) before after = TellsTrue run.document (host.shown (host_of before)) (calls_of after) (host.shown (host_of after))

-- ---- 6: completes

-- a repair that came to its last resource, on a host that shows what it holds
pub record IsFinished {H : Type 0} (host : hosts.Ghosts H) (run : Run) (before : Kinds H) : Type 0 where
  pub repairs : run.choice.mode ≡ Repair
  pub finished : run.end ≡ ends.Finished
  pub state : HostState
  pub tells : host.shown (host_of before) ≡ Some state

-- such a repair of Pending, without a fault of the host, of a resource or of the disk
pub record IsFaultless {H D : Type 0} (host : hosts.Ghosts H) (d : disks.Ghosts D) (begin now : D) (from : Node) (run : Run) (before after : Kinds H) : Type 0 where
  pub is_finished : IsFinished host run before
  pub pending : run.choice.pending ≡ true
  pub blames : BlamesNothing (calls_of after)
  pub sound : (r : ℕ) → r < length run.document.resources → IsSound run.document r
  pub disk : Rose (d.faults begin) (d.faults now) → ⊥
  pub job : from.next_job < 2 ^ 64 - 1

-- In a repair that came to its last resource each resource ends with a Test that answered yes, unless it or one of its dependencies,
-- followed down, has a fault of its own, or the trace blames the host for one of these; and a faultless repair of Pending makes it
-- Current.
pub record Completes {H D : Type 0} (host : hosts.Ghosts H) (d : disks.Ghosts D) (begin now : D) (from : Node) (run : Run) (before after : Kinds H) (committed : List Event) : Type 0 where
  pub repaired : IsFinished host run before → (r : ℕ) → r < length run.document.resources → IsSound run.document r
      → ((q : ℕ) → ComesTo run.document r q → IsSpared (calls_of after) q) → Succeeded (calls_of after) r
  pub promoted : IsFaultless host d begin now from run before after → (node : Node) → Steps from committed node → IsCurrent run node

abbrev pub IsComplete : {H D : Type 0} → hosts.Ghosts H → disks.Ghosts D → D → D → Node → Option Run → Kinds H → Kinds H → List Event → Type 0
IsComplete host d begin now from None before after committed = ⊤
IsComplete host d begin now from (Some run) before after committed = Completes host d begin now from run before after committed

-- ---- 7: together

-- where the resources are apart and each of them succeeded, all of them hold together in the host at the end
abbrev pub HoldTogether : {H : Type 0} → hosts.Ghosts H → Option Run → Kinds H → Kinds H → Type 0
HoldTogether host None before after = ⊤
HoldTogether host (Some run) before after =
    (begin end : HostState) → host.shown (host_of before) ≡ Some begin → host.shown (host_of after) ≡ Some end → Apart run.document → Compliant run.document (calls_of after)
    → AllHold end run.document

-- ---- the headline

-- the headline, and beside it that the trace is true, what completes, and what holds together
pub record HostHeadline {D H C : Type 0} (disk : disks.Ghosts D) (host : hosts.Ghosts H) (clock : clocks.Ghosts C) (command : Command) (before after : Outside D (Kinds H) C)
    (status : Status) (lines : List ℕ) (from : Node) (ready : Kinds H) (run : Option Run) (committed : List Event) (broken : Option Event) : Type 0 where
  pub any : Headline (known_on_host disk host clock) command before after status lines from ready run committed broken
  pub is_true : IsTrueRun host run ready after.beside.machine
  pub completes : IsComplete host disk before.disk after.disk from run ready after.beside.machine committed
  pub resources_hold_together : HoldTogether host run ready after.beside.machine

-- of each start that opened its store
abbrev pub HasHostHeadline : {D H C : Type 0} → disks.Ghosts D → hosts.Ghosts H → clocks.Ghosts C → Command → Outside D (Kinds H) C → Outside D (Kinds H) C → Status → List ℕ → Type 0
HasHostHeadline disk host clock command before after status lines =
    (opened : Opened (known_on_host disk host clock) command before after status lines)
    → HostHeadline disk host clock command before after status lines opened.from opened.ready opened.run opened.ended.committed opened.ended.broken
