use Rattle.partial_merge.proofs.Answering.{in_size_if, merged_if, name_refused, part_refused, passed_on, refused_if}
use Rattle.partial_merge.proofs.merging.merge_ordered.Goals as goal

pub returns-clause-merged : goal.returns-clause-merged
returns-clause-merged c =
    merged_if c.args.parts.now c.in_ok-document.document c.in_ok-document.ensures.joined c.checked.result c.checked.ensures.same c.checked.ensures.few c.checked.ensures.ordered

pub returns-clause-in_size : goal.returns-clause-in_size
returns-clause-in_size c =
    in_size_if c.args.parts.now c.in_ok-document.document c.in_ok-document.ensures.joined c.checked.result c.checked.ensures.same c.checked.ensures.few

pub returns-clause-refused : goal.returns-clause-refused
returns-clause-refused c = refused_if c.args.parts.now c.in_ok-document.document c.in_ok-document.ensures.joined c.checked.result c.checked.ensures.refused

pub returns-in_err-check_names-clause-refused : goal.returns-in_err-check_names-clause-refused
returns-in_err-check_names-clause-refused c =
    passed_on c.from_residual.result c.in_err-check_names.field-0.0 _ c.from_residual.ensures.1
    (name_refused c.args.parts.now c.in_err-check_names.field-0.0 c.in_err-check_names.ensures.refused)

pub returns-in_err-document-clause-refused : goal.returns-in_err-document-clause-refused
returns-in_err-document-clause-refused c =
    passed_on c.from_residual-in_err-document.result c.in_err-document.field-0.0 _ c.from_residual-in_err-document.ensures.1
    (part_refused c.args.parts.now c.in_err-document.field-0.0 c.in_err-document.ensures.refused)
