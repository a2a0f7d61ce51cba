use Rattle.std.proofs.Common.{[], ◌∷◌, length, length-append, arith}
use Rattle.std.proofs.lemmas.Option.{slice_get_within}
use Rattle.depend_order.proofs.Resolving.{none_known, kept_more}
use Rattle.depend_order.proofs.names.places_in.Goals as goal

pub returns-in-None-clause-unknown : goal.returns-in-None-clause-unknown
returns-in-None-clause-unknown g c =
    rw c.loop-name.invariant.count (none_known c.args.index.now c.args.names.now c.loop-name.name-index c.name-item.result c.write_fold.new.fold c.name-item.is c.in_ok-write_fold.ensures c.in-None.ensures.value)

pub loop-name-preserved : goal.loop-name-preserved
loop-name-preserved g c = rw c.in_ok-push-in-Some.ensures.items (record {
  places = kept_more c.args.index.now c.args.names.now c.loop-name.places.items c.loop-name.name-index c.name-item.result c.in-Some.place.now c.write_fold.new.fold c.loop-name-test.true c.name-item.is c.in_ok-write_fold.ensures c.in-Some.ensures.value c.loop-name.invariant.places;
  count = omega (arith, length-append c.loop-name.places.items (c.in-Some.place.now ∷ []), c.loop-name.invariant.count);
  steps = omega (arith, c.loop-name.invariant.steps, c.tick.ensures);
})

pub returns-clause-unknown : goal.returns-clause-unknown
returns-clause-unknown g c name at known =
    let within = slice_get_within c.args.names.now (length c.loop-name.places.items) name at in
    absurd (omega (arith, within, c.loop-name.invariant.count, c.loop-name-test.false))
