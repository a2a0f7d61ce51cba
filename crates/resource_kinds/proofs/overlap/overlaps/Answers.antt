use Rattle.std.proofs.Common.{◌∙◌, ap, sym, map, arith}
use Rattle.std.specs.Result.{result_ok}
use Rattle.resource_kinds.specs.Wanted.{wanted_of}
use Rattle.resource_kinds.proofs.Meets.{all_apart, at_index, indexed_put, inside_meets, met, none_had}
use Rattle.resource_kinds.proofs.overlap.overlaps.Goals as goal

pub returns-then-is_some-clause-overlap : goal.returns-then-is_some-clause-overlap
returns-then-is_some-clause-overlap c = λ _.
    met c.args.document.now c.in_ok-all.all.items (c.in_ok-all.ensures ∙ ap (map (λ r. result_ok (wanted_of r))) c.as_slice.ensures) c.loop-place.place c.loop-place.keys c.loop-place.invariant
    c.index.result.now (at_index c.in_ok-all.all.items c.loop-place.place c.len-place-end.result c.index.result.now c.loop-place-test.true (omega (arith, c.len-place-end.ensures)) c.index.ensures)
    c.in_ok-put_key.field-0 (sym c.in_ok-put_key.ensures.had) (sym c.is_some.ensures ∙ c.if-is_some.true)

pub loop-place-preserved : goal.loop-place-preserved
loop-place-preserved c =
    indexed_put c.in_ok-all.all.items c.loop-place.place c.loop-place.keys c.loop-place.invariant c.put_key.new.keys
    c.index.result.now (at_index c.in_ok-all.all.items c.loop-place.place c.len-place-end.result c.index.result.now c.loop-place-test.true (omega (arith, c.len-place-end.ensures)) c.index.ensures)
    (sym c.in_ok-put_key.ensures.had ∙ none_had c.in_ok-put_key.field-0 (sym c.is_some.ensures ∙ c.if-is_some.false)) c.in_ok-put_key.ensures.put

pub returns-then-branch-clause-overlap : goal.returns-then-branch-clause-overlap
returns-then-branch-clause-overlap c = λ _.
    inside_meets c.args.document.now c.in_ok-all.all.items (c.in_ok-all.ensures ∙ ap (map (λ r. result_ok (wanted_of r))) c.as_slice.ensures) c.loop-place.place c.loop-place.keys c.loop-place.invariant
    c.loop-outer.outer c.index-in-loop-outer.result.now
    (at_index c.in_ok-all.all.items c.loop-outer.outer c.len-outer-end.result c.index-in-loop-outer.result.now c.loop-outer-test.true (omega (arith, c.len-outer-end.ensures)) c.index-in-loop-outer.ensures)
    (c.in_ok-has_inside.ensures.0 c.if-branch.true)

pub returns-clause-apart : goal.returns-clause-apart
returns-clause-apart c = λ _.
    all_apart c.args.document.now c.in_ok-all.all.items (c.in_ok-all.ensures ∙ ap (map (λ r. result_ok (wanted_of r))) c.as_slice.ensures) c.loop-place.keys c.loop-place.place
    (omega (arith, c.loop-place-test.false, c.len-place-end.ensures)) c.loop-place.invariant
    (λ k below. c.loop-outer.invariant k (omega (arith, below, c.loop-place.auto.place-end, c.loop-outer-test.false, c.len-place-end.ensures, c.len-outer-end.ensures)))
