use Rattle.std.proofs.Common.{[], ◌∷◌}
use Rattle.partial_merge.specs.Parts.{text_part}
use Rattle.partial_merge.proofs.Answering.{in_size_if, merged_if, passed_on, refused_if}
use Rattle.partial_merge.proofs.OnePart.{refused_first}
use Rattle.partial_merge.proofs.merging.merge_text.Goals as goal

pub returns-clause-merged : goal.returns-clause-merged
returns-clause-merged c =
    merged_if (text_part c.args.name.now c.args.bytes.now ∷ []) c.in_ok-document.document c.in_ok-document.ensures.joined c.checked.result c.checked.ensures.same c.checked.ensures.few c.checked.ensures.ordered

pub returns-clause-in_size : goal.returns-clause-in_size
returns-clause-in_size c =
    in_size_if (text_part c.args.name.now c.args.bytes.now ∷ []) c.in_ok-document.document c.in_ok-document.ensures.joined c.checked.result c.checked.ensures.same c.checked.ensures.few

pub returns-clause-refused : goal.returns-clause-refused
returns-clause-refused c = refused_if (text_part c.args.name.now c.args.bytes.now ∷ []) c.in_ok-document.document c.in_ok-document.ensures.joined c.checked.result c.checked.ensures.refused

pub returns-in_err-document-clause-refused : goal.returns-in_err-document-clause-refused
returns-in_err-document-clause-refused c =
    passed_on c.from_residual.result c.in_err-document.field-0.0 _ c.from_residual.ensures.1
    (refused_first (text_part c.args.name.now c.args.bytes.now) c.in_err-document.field-0.0 c.in_err-document.ensures.refused)
