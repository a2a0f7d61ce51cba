-- Calls one after another.
use Rattle.std.proofs.Common.{Bool, true, false, ◌∙◌, ap}
use Rattle.dsc_document.specs.declared.document.Document.{Document}
use Rattle.resource_kinds.specs.declared.entry.Entry.{Entry}
use Rattle.resource_kinds.specs.declared.resources.Resources as resources
use Rattle.command_kind.specs.declared.commands.Commands.{Commands}
use Rattle.command_kind.specs.declared.spawner.Spawner as spawners
use Rattle.command_kind.specs.Runs.{is_of_command}
use Rattle.command_kind.specs.Spawning.{with_runs}
use Rattle.command_kind.specs.Steps.{Step, StepBy, Still}

-- what is still twice is still
pub still_again : {M P : Type 0} (machine : resources.Ghosts M) → ((a b c : M) → machine.still a b → machine.still b c → machine.still a c)
    → (a b c : Commands M P) → Still machine a b → Still machine b c → Still machine a c
still_again machine again a b c first second = record {
  still = again a.machine b.machine c.machine first.still second.still;
  spawner = second.spawner ∙ first.spawner;
}

-- a step may begin where nothing has changed yet
pub still_steps : {M P : Type 0} (machine : resources.Ghosts M) (spawner : spawners.Ghosts P)
    → ((a b c : M) (document : Document) (e : Entry) → machine.still a b → machine.does b document e c → machine.does a document e c)
    → ((a b c : M) → machine.still a b → machine.still b c → machine.still a c)
    → (a b c : Commands M P) (document : Document) (e : Entry) → Still machine a b → Step machine spawner b document e c → Step machine spawner a document e c
still_steps machine spawner joins again a b c document e same step = by (is_of_command document e) step
  where
    by : (k : Bool) → StepBy k machine spawner b document e c → StepBy k machine spawner a document e c
    by true own = record {
      still = again a.machine b.machine c.machine same.still own.still;
      runs = record {
        runs = own.runs.runs;
        is_of = own.runs.is_of;
        shown = own.runs.shown ∙ ap (λ p. with_runs (spawner.runs p) own.runs.runs) same.spawner;
      };
    }
    by false other = record {
      handed = record {
        entry = other.handed.entry;
        step = joins a.machine b.machine c.machine document other.handed.entry same.still other.handed.step;
        kept = other.handed.kept;
      };
      spawner = other.spawner ∙ same.spawner;
    }
