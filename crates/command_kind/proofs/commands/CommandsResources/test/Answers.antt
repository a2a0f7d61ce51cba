use Rattle.std.proofs.Common.{◌≡◌, ◌<◌, List, length, get_or, slice_get, Some, refl, sym, ◌∙◌, ap, subst}
use Rattle.std.proofs.lemmas.Option.{slice_get-get_or}
use Rattle.dsc_document.specs.declared.document.Resource.{Resource}
use Rattle.resource_kinds.specs.declared.entry.TestAnswer.{TestAnswer}
use Rattle.resource_kinds.specs.declared.entry.Entry.TheVariants.{Tested}
use Rattle.command_kind.specs.declared.commands.Commands.{Commands}
use Rattle.command_kind.specs.declared.program.Purpose.TheVariants as purposes
use Rattle.command_kind.specs.Programs.{program_of}
use Rattle.command_kind.specs.Runs.{TestOf}
use Rattle.command_kind.specs.Steps.{AddsRuns}
use Rattle.command_kind.proofs.Calls.{other_step, own_test}
use Rattle.command_kind.proofs.commands.CommandsResources.test.Goals as goal
use Rattle.command_kind.proofs.commands.CommandsResources.test.Goals.{then-is_command, else-is_command}

pub returns-clause-does : goal.returns-clause-does
returns-clause-does g c =
    let machine = g.M.Resources in
    let spawner = g.P.Spawner in
    let before = c.args.self.now in
    let list = c.as_slice.result.now in
    let resource = get_or list c.args.place c.index-as_slice-place.result in
    let within : c.args.place < length list = subst (λ (l : List Resource). c.args.place < length l) (sym c.as_slice.ensures) c.requires.place in
    let found : slice_get c.args.document.now.resources c.args.place ≡ Some resource =
    subst (λ (l : List Resource). slice_get l c.args.place ≡ Some resource) c.as_slice.ensures (slice_get-get_or list c.args.place c.index-as_slice-place.result within) in
    elim c.if-is_command.branch [
      | then-is_command w ↦ own_test machine spawner before _ c.args.document.now resource c.args.place c.if-is_command.answer c.keep_test.result found
          (sym c.is_command.ensures ∙ w.if-is_command.true)
          (subst (λ (s : Commands g.row.M.Denot g.row.P.Denot). machine.still before.machine s.machine) (sym w.self-is) (g.met.M.Resources.stays before.machine))
          (subst (λ (s : Commands g.row.M.Denot g.row.P.Denot). AddsRuns (spawner.runs before.spawner) (spawner.runs s.spawner) (TestOf (program_of purposes.Test resource.instance) c.if-is_command.answer)) (sym w.self-is)
          (subst (λ (a : TestAnswer). AddsRuns (spawner.runs before.spawner) (spawner.runs w.test_command-answer.new.spawner) (TestOf (program_of purposes.Test resource.instance) a)) (sym w.answer-is) w.test_command-answer.ensures.runs))
          c.keep_test.ensures.shown
      | else-is_command w ↦ other_step machine spawner before _ c.args.document.now resource (Tested c.args.place c.keep_test.result) found
          (sym c.is_command.ensures ∙ w.if-is_command.false)
          (record {
            handed = record {
              entry = Tested c.args.place c.if-is_command.answer;
              step = subst (λ (s : Commands g.row.M.Denot g.row.P.Denot). machine.does before.machine c.args.document.now (Tested c.args.place c.if-is_command.answer) s.machine) (sym w.self-is)
                  (subst (λ (a : TestAnswer). machine.does before.machine c.args.document.now (Tested c.args.place a) w.test-answer.new.self) (sym w.answer-is) w.test-answer.ensures.does);
              kept = (refl, c.keep_test.ensures.shown);
            };
            spawner = ap (λ (s : Commands g.row.M.Denot g.row.P.Denot). s.spawner) w.self-is;
          })
    ]
