-- The runs of a trace, and the machine along it.
use Rattle.std.proofs.Common.{◌≡◌, Bool, true, false, cond, not, List, [], ◌∷◌, ◌++◌, Option, Some, None, refl, sym, ◌∙◌, ap, append-nil}
use Rattle.std.proofs.lemmas.List.{append_assoc}
use Rattle.dsc_document.specs.declared.document.Document.{Document}
use Rattle.resource_kinds.specs.declared.entry.Entry.{Entry}
use Rattle.resource_kinds.specs.declared.resources.Resources as resources
use Rattle.resource_kinds.specs.Trace.{Chain}
use Rattle.command_kind.specs.declared.commands.Commands.{Commands}
use Rattle.command_kind.specs.declared.spawner.Run.{Run}
use Rattle.command_kind.specs.declared.spawner.Spawner as spawners
use Rattle.command_kind.specs.Laws.{OthersAreOfMachine, RunsFollowEntries, others}
use Rattle.command_kind.specs.Runs.{RanBy, is_of_command}
use Rattle.command_kind.specs.Spawning.{with_runs}
use Rattle.command_kind.specs.Steps.{AddsRuns, HandedStep, StepBy}

-- ---- runs

no_runs : (shown : Option (List Run)) → shown ≡ with_runs shown []
no_runs None = refl
no_runs (Some runs) = ap Some (sym (append-nil runs))

both_runs : (shown : Option (List Run)) (first rest : List Run) → with_runs (with_runs shown first) rest ≡ with_runs shown (first ++ rest)
both_runs None first rest = refl
both_runs (Some runs) first rest = ap Some (append_assoc runs first rest)

-- the runs of one entry
one_runs : {M P : Type 0} (machine : resources.Ghosts M) (spawner : spawners.Ghosts P) (document : Document) (e : Entry) (before after : Commands M P) (k : Bool)
    → StepBy k machine spawner before document e after → AddsRuns (spawner.runs before.spawner) (spawner.runs after.spawner) (RanBy k document e)
one_runs machine spawner document e before after true own = own.runs
one_runs machine spawner document e before after false other =
    record { runs = []; is_of = refl; shown = ap spawner.runs other.spawner ∙ no_runs (spawner.runs before.spawner) }

pub runs_follow : {M P : Type 0} (machine : resources.Ghosts M) (spawner : spawners.Ghosts P) → RunsFollowEntries machine spawner
runs_follow machine spawner document [] before after chain =
    record { runs = []; is_of = refl; shown = ap spawner.runs chain.spawner ∙ no_runs (spawner.runs before.spawner) }
runs_follow machine spawner document (e ∷ es) before after chain =
    let first = one_runs machine spawner document e before chain.0 (is_of_command document e) chain.1 in
    let rest = runs_follow machine spawner document es chain.0 after chain.2 in
    record {
      runs = first.runs ++ rest.runs;
      is_of = (first.runs, rest.runs, refl, first.is_of, rest.is_of);
      shown = rest.shown ∙ ap (λ s. with_runs s rest.runs) first.shown ∙ both_runs (spawner.runs before.spawner) first.runs rest.runs;
    }

-- ---- the machine

-- a chain may begin where nothing has changed yet
still_chain : {M : Type 0} (machine : resources.Ghosts M)
    → ((a b c : M) (document : Document) (e : Entry) → machine.still a b → machine.does b document e c → machine.does a document e c)
    → ((a b c : M) → machine.still a b → machine.still b c → machine.still a c)
    → (document : Document) (t : List Entry) (a b c : M) → machine.still a b → Chain (HandedStep machine) machine.still document b t c
    → Chain (HandedStep machine) machine.still document a t c
still_chain machine joins again document [] a b c same chain = again a b c same chain
still_chain machine joins again document (e ∷ t) a b c same chain =
    let step = chain.1 in
    (chain.0, record { entry = step.entry; step = joins a b chain.0 document step.entry same step.step; kept = step.kept }, chain.2)

pub others_are : {M P : Type 0} (machine : resources.Ghosts M) (spawner : spawners.Ghosts P)
    → ((a b c : M) (document : Document) (e : Entry) → machine.still a b → machine.does b document e c → machine.does a document e c)
    → ((a b c : M) → machine.still a b → machine.still b c → machine.still a c)
    → OthersAreOfMachine machine spawner
others_are machine spawner joins again document [] before after chain = chain.still
others_are {M} machine spawner joins again document (e ∷ es) before after chain =
    by (is_of_command document e) chain.1 (others_are machine spawner joins again document es chain.0 after chain.2)
  where
    left : List Entry
    left = others document es

    by : (k : Bool) → StepBy k machine spawner before document e chain.0 → Chain (HandedStep machine) machine.still document chain.0.machine left after.machine
        → Chain (HandedStep machine) machine.still document before.machine (cond (not k) (e ∷ left) left) after.machine
    by true own rest = still_chain machine joins again document left before.machine chain.0.machine after.machine own.still rest
    by false other rest = (chain.0.machine, other.handed, rest)
