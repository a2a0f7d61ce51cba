-- A trace over the kinds of resources of a host, with commands.
use Rattle.std.specs.Prelude.{◌≡◌, true, List, Err}
use Rattle.dsc_outside.specs.declared.host.Host as hosts
use Rattle.dsc_document.specs.declared.document.Document.{Document}
use Rattle.dsc_document.specs.declared.document.Resource.{Resource}
use Rattle.resource_kinds.specs.declared.entry.Entry.{Entry}
use Rattle.resource_kinds.specs.declared.entry.Failure.TheVariants.{NoSuchResource}
use Rattle.resource_kinds.specs.declared.kinds.Kinds.{Kinds}
use Rattle.resource_kinds.specs.declared.resources.Resources as resources
use Rattle.resource_kinds.specs.Kinds.{calls_of, host_of, spare_of}
use Rattle.resource_kinds.specs.Trace.{Chain}
use Rattle.resource_kinds.specs.True.{TellsEntry, TellsTrue}
use Rattle.resource_kinds.specs.Wanted.{wanted_of}
use Rattle.command_kind.specs.declared.commands.Commands.{Commands}
use Rattle.command_kind.specs.declared.spawner.Spawner as spawners
use Rattle.command_kind.specs.Laws.{others}
use Rattle.command_kind.specs.Steps.{Step, Still}
use Rattle.command_kind.specs.Tables.{is_command}

-- the kinds of resources over a host, as what is run
abbrev pub kinds_of : {H : Type 0} → hosts.Ghosts H → resources.Ghosts (Kinds H)
kinds_of host = record {
  trace = calls_of;
  spare = spare_of;
  faults = λ kinds. host.faults (host_of kinds);
  does = λ before document entry after. TellsEntry (host.shown (host_of before)) document entry (host.shown (host_of after));
  still = λ before after. host.shown (host_of before) ≡ host.shown (host_of after);
}

-- A command is of no kind of a host's resources: there its own fault is that there is no such resource. So what is said of resources without
-- a fault of their own says nothing of it, and nothing that is said of it goes against that.
abbrev pub CommandsAreOfNoKind : Type 0
CommandsAreOfNoKind = (resource : Resource) → is_command resource.instance ≡ true → wanted_of resource ≡ Err NoSuchResource

-- The entries that are of no command are true of the host, where that shows what it holds. A program may change the machine, and no value shows
-- it: that none changes what the host holds is a premise, of whoever says that this host shows it.
abbrev pub OthersAreTrue : {H P : Type 0} → hosts.Ghosts H → spawners.Ghosts P → Type 0
OthersAreTrue {H} {P} host spawner =
    (document : Document) (trace : List Entry) (before after : Commands (Kinds H) P)
    → Chain (Step (kinds_of host) spawner) (Still (kinds_of host)) document before trace after
    → TellsTrue document (host.shown (host_of before.machine)) (others document trace) (host.shown (host_of after.machine))
