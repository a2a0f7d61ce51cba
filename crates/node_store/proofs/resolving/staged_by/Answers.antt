use Rattle.std.proofs.Common.{List, sym, subst}
use Rattle.partial_merge.specs.declared.part.Part.{Part}
use Rattle.report_log.specs.declared.report.PartMark.{PartMark}
use Rattle.store_fields.specs.Fields.{IsList}
use Rattle.node_state.specs.Lists.{IsStaged}
use Rattle.node_store.specs.Bodies.{IsWhole}
use Rattle.node_store.specs.Digests.{bytes_of_marks}
use Rattle.node_store.specs.Reports.{IsMark}
use Rattle.node_store.proofs.OneBody.{at_none}
use Rattle.node_store.proofs.Resolved.{have_none, named_one, no_marks}
use Rattle.node_store.proofs.resolving.staged_by.Goals as goal

pub returns-in-Err-clause-wrong : goal.returns-in-Err-clause-wrong
returns-in-Err-clause-wrong c = λ same parts staged named. no_marks c.args.blobs.now c.args.marks.now (λ marks whole. c.in-Err.ensures.wrong same marks whole) parts named

pub returns-in-Err-parts_named-clause-wrong : goal.returns-in-Err-parts_named-clause-wrong
returns-in-Err-parts_named-clause-wrong c = λ same parts staged named.
    let whole = subst (λ (l : List PartMark). IsWhole bytes_of_marks (IsList IsMark) c.args.marks.now l) (sym c.as_slice.ensures) c.in-Ok.ensures.found in
    have_none c.args.blobs.now c.args.marks.now c.as_slice.result.now whole (c.in-Err-parts_named.ensures.wrong same) parts named

pub returns-in-Ok-None-clause-wrong : goal.returns-in-Ok-None-clause-wrong
returns-in-Ok-None-clause-wrong c = λ same others staged named.
    let whole = subst (λ (l : List PartMark). IsWhole bytes_of_marks (IsList IsMark) c.args.marks.now l) (sym c.as_slice.ensures) c.in-Ok.ensures.found in
    let none = at_none c.in-Ok-None.field-0 _ c.in-Ok-None.field-0-is c.in-Ok-None.ensures.none in
    none (subst (λ (l : List Part). IsStaged l) (named_one c.args.blobs.now c.args.marks.now c.as_slice.result.now whole c.in-Ok-parts_named.parts.items others c.requires.apart c.in-Ok-parts_named.ensures.named named) staged)
