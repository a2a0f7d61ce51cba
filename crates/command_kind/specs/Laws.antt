-- The runs of a trace, and what it did to the machine.
use Rattle.std.specs.Prelude.{List, filter, not}
use Rattle.dsc_document.specs.declared.document.Document.{Document}
use Rattle.resource_kinds.specs.declared.entry.Entry.{Entry}
use Rattle.resource_kinds.specs.declared.resources.Resources as resources
use Rattle.resource_kinds.specs.Trace.{Chain}
use Rattle.command_kind.specs.declared.commands.Commands.{Commands}
use Rattle.command_kind.specs.declared.spawner.Spawner as spawners
use Rattle.command_kind.specs.Runs.{AreRunsOf, is_of_command}
use Rattle.command_kind.specs.Steps.{AddsRuns, HandedStep, Step, Still}

-- ---- runs

-- The runs that were added are, in order, one for each entry of a command that has no fault of its own and did not run out of memory: the
-- program for the Test or that for the Set, with its arguments and the status that the answer means, or none where the host failed.
abbrev pub RunOfCommands : {M P : Type 0} → spawners.Ghosts P → Document → List Entry → Commands M P → Commands M P → Type 0
RunOfCommands spawner document trace before after = AddsRuns (spawner.runs before.spawner) (spawner.runs after.spawner) (AreRunsOf document trace)

-- so it is along each trace
abbrev pub RunsFollowEntries : {M P : Type 0} → resources.Ghosts M → spawners.Ghosts P → Type 0
RunsFollowEntries {M} {P} machine spawner =
    (document : Document) (trace : List Entry) (before after : Commands M P)
    → Chain (Step machine spawner) (Still machine) document before trace after → RunOfCommands spawner document trace before after

-- ---- the machine

-- the entries that are of no command
abbrev pub others : Document → List Entry → List Entry
others document trace = filter (λ e. not (is_of_command document e)) trace

-- these entries alone are steps of the machine
abbrev pub RunOfOthers : {M P : Type 0} → resources.Ghosts M → Document → List Entry → Commands M P → Commands M P → Type 0
RunOfOthers machine document trace before after =
    Chain (HandedStep machine) machine.still document before.machine (others document trace) after.machine

abbrev pub OthersAreOfMachine : {M P : Type 0} → resources.Ghosts M → spawners.Ghosts P → Type 0
OthersAreOfMachine {M} {P} machine spawner =
    (document : Document) (trace : List Entry) (before after : Commands M P)
    → Chain (Step machine spawner) (Still machine) document before trace after → RunOfOthers machine document trace before after
