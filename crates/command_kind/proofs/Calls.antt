-- One call, by the resource that it is of.
use Rattle.std.proofs.Common.{◌≡◌, inl, inr, ℕ, Bool, true, false, List, Option, Some, Result, Ok, Err, sym, ◌∙◌, ap, subst}
use Rattle.std.specs.Option.{option_map_or}
use Rattle.std.specs.Prelude.{slice_get}
use Rattle.std.specs.Option.{IsSomeAnd}
use Rattle.dsc_document.specs.declared.document.Document.{Document}
use Rattle.dsc_document.specs.declared.document.Resource.{Resource}
use Rattle.resource_kinds.specs.declared.entry.Failure.{Failure}
use Rattle.resource_kinds.specs.declared.entry.TestAnswer.{TestAnswer}
use Rattle.resource_kinds.specs.declared.entry.TestAnswer.TheVariants as tests
use Rattle.resource_kinds.specs.declared.entry.SetAnswer.{SetAnswer}
use Rattle.resource_kinds.specs.declared.entry.SetAnswer.TheVariants as sets
use Rattle.resource_kinds.specs.declared.entry.Entry.{Entry}
use Rattle.resource_kinds.specs.declared.entry.Entry.TheVariants.{Tested, Set}
use Rattle.resource_kinds.specs.declared.resources.Resources as resources
use Rattle.resource_kinds.specs.Trace.{place_of}
use Rattle.resource_kinds.specs.True.{IsKeptSet, IsKeptTest, IsTold, SetNames, TestNames}
use Rattle.resource_kinds.specs.Wanted.{NamesProperty}
use Rattle.command_kind.specs.declared.commands.Commands.{Commands}
use Rattle.command_kind.specs.declared.program.Purpose.TheVariants as purposes
use Rattle.command_kind.specs.declared.spawner.Run.{Run}
use Rattle.command_kind.specs.declared.spawner.Spawner as spawners
use Rattle.command_kind.specs.Programs.{Program, program_of}
use Rattle.command_kind.specs.Runs.{CommandRan, EntryRan, SetOf, SetRan, TestOf, TestRan, is_of_command}
use Rattle.command_kind.specs.Steps.{AddsRuns, OtherStep, OwnStep, Step, StepBy}
use Rattle.command_kind.specs.Tables.{is_command}

-- ---- answers as they are kept

-- a program's answer names no property
unnamed_test : {A : Type 0} (program : Program) (answer : TestAnswer) (runs : List Run) → TestRan program answer runs → TestNames answer → A
unnamed_test program tests.Yes runs ran names = absurd names
unnamed_test program tests.No runs ran names = absurd names
unnamed_test program (tests.Fault failure) runs ran names = absurd (subst NamesProperty ran.0 names)
unnamed_test program tests.Memory runs ran names = absurd names

unnamed_set : {A : Type 0} (program : Program) (answer : SetAnswer) (runs : List Run) → SetRan program answer runs → SetNames answer → A
unnamed_set program sets.Done runs ran names = absurd names
unnamed_set program sets.Reboot runs ran names = absurd names
unnamed_set program (sets.Fault failure) runs ran names = absurd (subst NamesProperty ran.0 names)
unnamed_set program sets.Memory runs ran names = absurd names

pub told_test : (failure : Failure) (answer kept : TestAnswer) → TestNames answer → kept ≡ tests.Memory → IsTold failure (tests.Fault failure) tests.Memory answer
    → IsTold failure (tests.Fault failure) tests.Memory kept
told_test failure answer kept names is (inl same) = inr (subst TestNames same names, is)
told_test failure answer kept names is (inr memory) = inr (memory.0, is)

pub told_set : (failure : Failure) (answer kept : SetAnswer) → SetNames answer → kept ≡ sets.Memory → IsTold failure (sets.Fault failure) sets.Memory answer
    → IsTold failure (sets.Fault failure) sets.Memory kept
told_set failure answer kept names is (inl same) = inr (subst SetNames same names, is)
told_set failure answer kept names is (inr memory) = inr (memory.0, is)

kept_test : (program : Result Program Failure) (answer kept : TestAnswer) (runs : List Run) → IsKeptTest answer kept → TestOf program answer runs → TestOf program kept runs
kept_test program answer kept runs (inl same) of = subst (λ (a : TestAnswer). TestOf program a runs) (sym same) of
kept_test (Ok program) answer kept runs (inr named) of = unnamed_test program answer runs of named.0
kept_test (Err failure) answer kept runs (inr named) of = (told_test failure answer kept named.0 named.1 of.0, of.1)

kept_set : (program : Result Program Failure) (answer kept : SetAnswer) (runs : List Run) → IsKeptSet answer kept → SetOf program answer runs → SetOf program kept runs
kept_set program answer kept runs (inl same) of = subst (λ (a : SetAnswer). SetOf program a runs) (sym same) of
kept_set (Ok program) answer kept runs (inr named) of = unnamed_set program answer runs of named.0
kept_set (Err failure) answer kept runs (inr named) of = (told_set failure answer kept named.0 named.1 of.0, of.1)

-- ---- the resource of an entry

abbrev command_there : Option Resource → Bool
command_there found = option_map_or (λ (resource : Resource). is_command resource.instance) found false

of_resource : (document : Document) (e : Entry) (resource : Resource) → slice_get document.resources (place_of e) ≡ Some resource → is_of_command document e ≡ is_command resource.instance
of_resource document e resource found = ap command_there found

ran_by : (document : Document) (e : Entry) (resource : Resource) (runs : List Run) → slice_get document.resources (place_of e) ≡ Some resource → CommandRan resource.instance e runs → EntryRan document e runs
ran_by document e resource runs found ran = subst (λ (r : Option Resource). IsSomeAnd r (λ (resource : Resource). CommandRan resource.instance e runs)) (sym found) ran

-- ---- steps

module _ {M P : Type 0} (machine : resources.Ghosts M) (spawner : spawners.Ghosts P) (before after : Commands M P) (document : Document) (resource : Resource) where
  own_step : (e : Entry) → slice_get document.resources (place_of e) ≡ Some resource → is_command resource.instance ≡ true → OwnStep machine spawner before document e after
      → Step machine spawner before document e after
  own_step e found is own = subst (λ (k : Bool). StepBy k machine spawner before document e after) (sym (of_resource document e resource found ∙ is)) own

  pub other_step : (e : Entry) → slice_get document.resources (place_of e) ≡ Some resource → is_command resource.instance ≡ false → OtherStep machine before document e after
      → Step machine spawner before document e after
  other_step e found is other = subst (λ (k : Bool). StepBy k machine spawner before document e after) (sym (of_resource document e resource found ∙ is)) other

  pub own_test : (place : ℕ) (answer kept : TestAnswer) → slice_get document.resources place ≡ Some resource → is_command resource.instance ≡ true → machine.still before.machine after.machine
      → AddsRuns (spawner.runs before.spawner) (spawner.runs after.spawner) (TestOf (program_of purposes.Test resource.instance) answer) → IsKeptTest answer kept
      → Step machine spawner before document (Tested place kept) after
  own_test place answer kept found is still added is_kept =
      own_step (Tested place kept) found is (record {
        still = still;
        runs = record {
          runs = added.runs;
          is_of = ran_by document (Tested place kept) resource added.runs found (kept_test (program_of purposes.Test resource.instance) answer kept added.runs is_kept added.is_of);
          shown = added.shown;
        };
      })

  pub own_set : (place : ℕ) (answer kept : SetAnswer) → slice_get document.resources place ≡ Some resource → is_command resource.instance ≡ true → machine.still before.machine after.machine
      → AddsRuns (spawner.runs before.spawner) (spawner.runs after.spawner) (SetOf (program_of purposes.Set resource.instance) answer) → IsKeptSet answer kept
      → Step machine spawner before document (Set place kept) after
  own_set place answer kept found is still added is_kept =
      own_step (Set place kept) found is (record {
        still = still;
        runs = record {
          runs = added.runs;
          is_of = ran_by document (Set place kept) resource added.runs found (kept_set (program_of purposes.Set resource.instance) answer kept added.runs is_kept added.is_of);
          shown = added.shown;
        };
      })
