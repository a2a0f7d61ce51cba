use Rattle.std.proofs.Common.{◌+◌, refl, subst, sym, arith}
use Rattle.dsc_document.specs.declared.document.Document.{Document}
use Rattle.partial_merge.specs.Parts.{text_part}
use Rattle.partial_merge.proofs.Answering.{passed_on}
use Rattle.partial_merge.proofs.Joining.{AreFirst, all_joined, declares_same, first_before, none_before, one_first, one_more_part, part_fault}
use Rattle.partial_merge.proofs.SameParts.{are_joined_same}
use Rattle.partial_merge.proofs.joined.joined.Goals as goal

pub loop-place-init : goal.loop-place-init
loop-place-init c =
    let part = c.index-parts-0.result in
    record {
      some = omega arith;
      first = one_first c.args.parts.now part c.in_ok-whole.whole c.requires.some c.index-parts-0.is
          (are_joined_same (text_part part.name c.as_slice.result.now) part refl c.as_slice.ensures c.in_ok-whole.whole c.in_ok-whole.ensures.joined);
    }

pub returns-in_err-whole-clause-refused : goal.returns-in_err-whole-clause-refused
returns-in_err-whole-clause-refused c =
    passed_on c.from_residual.result c.in_err-whole.field-0.0 _ c.from_residual.ensures.1
    (part_fault c.args.parts.now c.requires.names 0 c.index-parts-0.result c.requires.some c.index-parts-0.is (none_before c.args.parts.now)
    c.as_slice.result.now c.as_slice.ensures c.in_err-whole.field-0.0 c.in_err-whole.ensures.refused)

pub loop-place-preserved : goal.loop-place-preserved
loop-place-preserved c =
    let part = c.index-parts-place.result in
    record {
      some = omega arith;
      first = subst (λ (d : Document). AreFirst c.args.parts.now (c.loop-place.place + 1) d) (sym c.in_ok-whole-2.ensures)
          (one_more_part c.args.parts.now c.loop-place.place c.loop-place.whole c.loop-place.invariant.first part c.in_ok-document.document
          c.loop-place.invariant.some c.loop-place-test.true c.index-parts-place.is
          (declares_same c.as_slice-in-loop-place.result.now part.bytes c.in_ok-document.document c.as_slice-in-loop-place.ensures c.in_ok-document.ensures.whole));
    }

pub returns-in_err-document-clause-refused : goal.returns-in_err-document-clause-refused
returns-in_err-document-clause-refused c =
    passed_on c.from_residual-in_err-document.result c.in_err-document.field-0.0 _ c.from_residual-in_err-document.ensures.1
    (part_fault c.args.parts.now c.requires.names c.loop-place.place c.index-parts-place.result c.loop-place-test.true c.index-parts-place.is
    (first_before c.args.parts.now c.loop-place.place c.loop-place.whole c.loop-place.invariant.first (omega (arith, c.loop-place-test.true)))
    c.as_slice-in-loop-place.result.now c.as_slice-in-loop-place.ensures c.in_err-document.field-0.0 c.in_err-document.ensures.refused)

pub returns-clause-joined : goal.returns-clause-joined
returns-clause-joined c =
    all_joined c.args.parts.now c.loop-place.place c.loop-place.whole c.loop-place.invariant.first c.requires.names c.loop-place-test.false
