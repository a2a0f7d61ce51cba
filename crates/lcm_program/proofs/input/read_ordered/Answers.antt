use Rattle.std.proofs.Common.{◌∙◌}
use Rattle.partial_merge.specs.Parts.{text_part}
use Rattle.lcm_program.proofs.Inputs.{merged_input, unmerged_unread}
use Rattle.lcm_program.proofs.input.read_ordered.Goals as goal

pub returns-in-Ok-merge_text-clause-ok : goal.returns-in-Ok-merge_text-clause-ok
returns-in-Ok-merge_text-clause-ok g c =
    merged_input (g.S.Ends.left c.args.input.now) c.in-Ok.bytes.items (text_part c.of-name.result c.deref.result.now) c.in-Ok-merge_text.ordered.document
    c.in-Ok.ensures.ok (c.of-name.ensures ∙ c.new.ensures.items) c.deref.ensures.value c.in-Ok-merge_text.ensures.merged

pub returns-clause-err : goal.returns-clause-err
returns-clause-err g c =
    unmerged_unread (g.S.Ends.left c.args.input.now) _ _ c.in-Ok.bytes.items (text_part c.of-name.result c.deref.result.now) c.in-Err-merge_text.error c.unmerged.result
    c.in-Ok.ensures.ok (c.of-name.ensures ∙ c.new.ensures.items) c.deref.ensures.value
    c.in-Err-merge_text.ensures.refused c.unmerged.ensures
