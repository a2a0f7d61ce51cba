-- Facts that hold of starts and runs with commands beside the kinds of resources of a host.
use Rattle.std.specs.Prelude.{◌≡◌, ◌+◌, ℕ, ⊤, false, List, Option, Some, None, All}
use Rattle.dsc_outside.specs.declared.disk.Disk as disks
use Rattle.dsc_outside.specs.declared.host.Host as hosts
use Rattle.dsc_outside.specs.declared.clock.Clock as clocks
use Rattle.dsc_outside.specs.Host.{HostState}
use Rattle.dsc_document.specs.declared.document.Document.{Document}
use Rattle.dsc_document.specs.declared.document.Resource.{Resource}
use Rattle.resource_kinds.specs.declared.kinds.Kinds.{Kinds}
use Rattle.resource_kinds.specs.declared.machine.Machine as machines
use Rattle.resource_kinds.specs.declared.resources.Resources as resources
use Rattle.resource_kinds.specs.Kinds.{host_of, spare_of as spare_of_kinds}
use Rattle.resource_kinds.specs.Packages.{ChangesPackages, packages_of}
use Rattle.resource_kinds.specs.True.{TellsTrue}
use Rattle.node_state.specs.declared.event.Event.{Event}
use Rattle.node_state.specs.declared.node.Node.{Node}
use Rattle.dsc_node.specs.declared.command.Command.{Command}
use Rattle.dsc_node.specs.declared.status.Status.{Status}
use Rattle.dsc_node.specs.HostHeadline.{HoldTogether, IsComplete, kinds_of}
use Rattle.dsc_node.specs.Runs.{Run}
use Rattle.dsc_node.specs.Start.{Opened, Outside}
use Rattle.dsc_node.specs.Work.{Known, known}
use Rattle.command_kind.specs.declared.commands.Commands.{Commands}
use Rattle.command_kind.specs.declared.spawner.Spawner as spawners
use Rattle.command_kind.specs.Laws.{RunOfCommands, others}
use Rattle.command_kind.specs.Parts.{calls_of, machine_of, spare_of, spawner_of}
use Rattle.command_kind.specs.Steps.{ChangesMachine, Step, Still}
use Rattle.command_kind.specs.Tables.{is_command}
use Rattle.lcm_program.specs.Further.{Further}

-- ---- what is run

-- commands beside the kinds of resources of a host, as what is run, and as a machine that keeps packages
abbrev pub commands_of : {H P : Type 0} → hosts.Ghosts H → spawners.Ghosts P → resources.Ghosts (Commands (Kinds H) P)
commands_of host spawner = record {
  trace = calls_of;
  spare = spare_of spare_of_kinds;
  faults = λ commands. host.faults (host_of (machine_of commands)) + spawner.faults (spawner_of commands);
  does = Step (kinds_of host) spawner;
  still = Still (kinds_of host);
}

abbrev pub machine_with_commands : {H P : Type 0} → hosts.Ghosts H → machines.Ghosts (Commands (Kinds H) P)
machine_with_commands host = record {
  packages = λ commands. packages_of (host.shown (host_of (machine_of commands)));
  packages_changed = ChangesMachine (λ before after. ChangesPackages (host.shown (host_of before)) (host.shown (host_of after)));
}

-- what is known of a disk, such a machine and a clock
abbrev pub known_with_commands : {D H P C : Type 0} → disks.Ghosts D → hosts.Ghosts H → spawners.Ghosts P → clocks.Ghosts C → Known D (Commands (Kinds H) P) C
known_with_commands disk host spawner clock = known disk (commands_of host spawner) (machine_with_commands host) clock

-- what the host shows
abbrev pub shown_by : {H P : Type 0} → hosts.Ghosts H → Commands (Kinds H) P → Option HostState
shown_by host commands = host.shown (host_of (machine_of commands))

-- ---- a run

-- The runs of programs that were added are, in order, one for each entry of a command that has no fault of its own and did not run out of
-- memory. The entries of all other resources are true of the host; that it shows what it holds says that no program touches it.
pub record RanCommands {H P : Type 0} (host : hosts.Ghosts H) (spawner : spawners.Ghosts P) (document : Document) (before after : Commands (Kinds H) P) : Type 0 where
  pub runs : RunOfCommands spawner document (calls_of after) before after
  pub is_true : TellsTrue document (shown_by host before) (others document (calls_of after)) (shown_by host after)

-- a run of `test`, which leaves the host as it was
pub record TestedCommands {H P : Type 0} (host : hosts.Ghosts H) (spawner : spawners.Ghosts P) (document : Document) (before after : Commands (Kinds H) P) : Type 0 where
  pub ran : RanCommands host spawner document before after
  pub same : shown_by host after ≡ shown_by host before

-- ---- a start

-- the run of a start; where nothing was run, no program was
abbrev pub IsRunOfCommands : {H P : Type 0} → hosts.Ghosts H → spawners.Ghosts P → Option Run → Commands (Kinds H) P → Commands (Kinds H) P → Type 0
IsRunOfCommands host spawner None before after = after ≡ before
IsRunOfCommands host spawner (Some run) before after = RanCommands host spawner run.document before after

-- the kinds of resources with the entries of all calls, those of the commands too
abbrev pub with_all_calls : {H P : Type 0} → Commands (Kinds H) P → Kinds H
with_all_calls commands = record (machine_of commands) { calls = commands.calls }

-- no resource of the document is a command
abbrev pub HasNoCommand : Document → Type 0
HasNoCommand document = All (λ (resource : Resource). is_command resource.instance ≡ false) document.resources

-- where the run's document has no command, its resources hold together as on the host alone
abbrev pub HoldWithoutCommands : {H P : Type 0} → hosts.Ghosts H → Option Run → Commands (Kinds H) P → Commands (Kinds H) P → Type 0
HoldWithoutCommands host None before after = ⊤
HoldWithoutCommands host (Some run) before after = HasNoCommand run.document → HoldTogether host (Some run) (with_all_calls before) (with_all_calls after)

-- Beside the headline: no program is run before the run of the document; what its programs and its other resources did; what completes, as
-- on the host alone, where a command is a resource with a fault of its own; and what holds together.
pub record CommandsHeadline {D H P C : Type 0} (disk : disks.Ghosts D) (host : hosts.Ghosts H) (spawner : spawners.Ghosts P) (before after : Outside D (Commands (Kinds H) P) C)
    (from : Node) (ready : Commands (Kinds H) P) (run : Option Run) (committed : List Event) : Type 0 where
  pub not_before : spawner_of ready ≡ spawner_of before.beside.machine
  pub runs : IsRunOfCommands host spawner run ready after.beside.machine
  pub completes : IsComplete host disk before.disk after.disk from run (with_all_calls ready) (with_all_calls after.beside.machine) committed
  pub resources_hold_together : HoldWithoutCommands host run ready after.beside.machine

-- of each start that opened its store
abbrev pub HasCommandsHeadline : {D H P C : Type 0} → disks.Ghosts D → hosts.Ghosts H → spawners.Ghosts P → clocks.Ghosts C
    → Command → Outside D (Commands (Kinds H) P) C → Outside D (Commands (Kinds H) P) C → Status → List ℕ → Type 0
HasCommandsHeadline disk host spawner clock command before after status lines =
    (opened : Opened (known_with_commands disk host spawner clock) command before after status lines)
    → CommandsHeadline disk host spawner before after opened.from opened.ready opened.run opened.ended.committed

-- ---- both

abbrev pub further_of_commands : {D H P C : Type 0} → disks.Ghosts D → hosts.Ghosts H → spawners.Ghosts P → clocks.Ghosts C → Further D (Commands (Kinds H) P) C
further_of_commands disk host spawner clock = record {
  start = HasCommandsHeadline disk host spawner clock;
  run = λ document before after. TestedCommands host spawner document before after;
}
