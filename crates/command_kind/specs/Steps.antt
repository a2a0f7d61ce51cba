-- What one call does to a machine and to a spawner.
use Rattle.std.specs.Prelude.{◌≡◌, Bool, true, false, List, Option}
use Rattle.dsc_document.specs.declared.document.Document.{Document}
use Rattle.resource_kinds.specs.declared.entry.Entry.{Entry}
use Rattle.resource_kinds.specs.declared.entry.Entry.TheVariants.{Tested, Set}
use Rattle.resource_kinds.specs.declared.resources.Resources as resources
use Rattle.resource_kinds.specs.True.{IsKeptSet, IsKeptTest}
use Rattle.command_kind.specs.declared.commands.Commands.{Commands}
use Rattle.command_kind.specs.declared.spawner.Run.{Run}
use Rattle.command_kind.specs.declared.spawner.Spawner as spawners
use Rattle.command_kind.specs.Runs.{EntryRan, is_of_command}
use Rattle.command_kind.specs.Spawning.{with_runs}

-- runs of which this holds were added; where runs are shown, it is these
pub record AddsRuns (before after : Option (List Run)) (IsOf : List Run → Type 0) : Type 0 where
  pub runs : List Run
  pub is_of : IsOf runs
  pub shown : after ≡ with_runs before runs

-- an entry of the machine as it is kept beside it: itself, or one of the same call that answers `Memory`, where the answer names a
-- property, since the name is copied
abbrev pub IsKeptEntry : Entry → Entry → Type 0
IsKeptEntry (Tested place answer) (Tested other kept) = (other ≡ place) × IsKeptTest answer kept
IsKeptEntry (Set place answer) (Set other kept) = (other ≡ place) × IsKeptSet answer kept
IsKeptEntry _ _ = ⊥

-- one step of the machine's own, by an entry that is kept as this one
pub record HandedStep {M : Type 0} (machine : resources.Ghosts M) (before : M) (document : Document) (e : Entry) (after : M) : Type 0 where
  pub entry : Entry
  pub step : machine.does before document entry after
  pub kept : IsKeptEntry entry e

-- a call for a command leaves the machine as it was, and runs what its entry stands for
pub record OwnStep {M P : Type 0} (machine : resources.Ghosts M) (spawner : spawners.Ghosts P) (before : Commands M P) (document : Document) (e : Entry) (after : Commands M P) : Type 0 where
  pub still : machine.still before.machine after.machine
  pub runs : AddsRuns (spawner.runs before.spawner) (spawner.runs after.spawner) (EntryRan document e)

-- a call for any other resource is the machine's own, and leaves the spawner as it was
pub record OtherStep {M P : Type 0} (machine : resources.Ghosts M) (before : Commands M P) (document : Document) (e : Entry) (after : Commands M P) : Type 0 where
  pub handed : HandedStep machine before.machine document e after.machine
  pub spawner : after.spawner ≡ before.spawner

abbrev pub StepBy : {M P : Type 0} → Bool → resources.Ghosts M → spawners.Ghosts P → Commands M P → Document → Entry → Commands M P → Type 0
StepBy true machine spawner before document e after = OwnStep machine spawner before document e after
StepBy false machine spawner before document e after = OtherStep machine before document e after

abbrev pub Step : {M P : Type 0} → resources.Ghosts M → spawners.Ghosts P → Commands M P → Document → Entry → Commands M P → Type 0
Step machine spawner before document e after = StepBy (is_of_command document e) machine spawner before document e after

-- nothing has changed but reserved capacity
pub record Still {M P : Type 0} (machine : resources.Ghosts M) (before after : Commands M P) : Type 0 where
  pub still : machine.still before.machine after.machine
  pub spawner : after.spawner ≡ before.spawner

-- the machine has changed so, and the spawner is as it was
pub record ChangesMachine {M P : Type 0} (Changes : M → M → Type 0) (before after : Commands M P) : Type 0 where
  pub changed : Changes before.machine after.machine
  pub spawner : after.spawner ≡ before.spawner
