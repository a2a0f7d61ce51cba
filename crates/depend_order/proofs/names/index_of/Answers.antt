use Rattle.std.proofs.Common.{Some, sym, ap, ◌∙◌, arith}
use Rattle.depend_order.proofs.Repeated.{all_apart, earlier, first_repeat, one_more}
use Rattle.depend_order.proofs.Resolving.{IsIndex-more}
use Rattle.depend_order.proofs.Spots.{spot_here}
use Rattle.depend_order.proofs.names.index_of.Goals as goal

pub bounds-resources-first : goal.bounds-resources-first
bounds-resources-first g c =
    let before = (earlier c.args.resources.now c.loop-place.place c.index-resources-place.result c.loop-place.index c.write_fold.new.fold c.loop-place-test.true c.index-resources-place.is
    c.in_ok-write_fold.ensures c.loop-place.invariant.index c.loop-place.invariant.apart c.in-Some.first (sym c.in_ok-before.ensures.old ∙ c.in-Some.is)).1 in
    omega (arith, before, c.loop-place-test.true)

pub returns-in-Some-clause-refused : goal.returns-in-Some-clause-refused
returns-in-Some-clause-refused g c =
    let resources = c.args.resources.now in
    let repeat = first_repeat resources c.loop-place.place c.index-resources-place.result c.loop-place.index c.write_fold.new.fold c.loop-place-test.true c.index-resources-place.is
    c.in_ok-write_fold.ensures c.loop-place.invariant.index c.loop-place.invariant.apart c.in-Some.first (sym c.in_ok-before.ensures.old ∙ c.in-Some.is) in
    record {
      earlier = c.in-Some.first;
      later = c.loop-place.place;
      repeats = repeat;
      first_is = spot_here resources c.in-Some.first c.index-resources-first.result (omega (arith, repeat.repeats.0, c.loop-place-test.true)) c.index-resources-first.is ∙ ap Some (sym c.spot_of.ensures);
      second_is = spot_here resources c.loop-place.place c.index-resources-place.result c.loop-place-test.true c.index-resources-place.is ∙ ap Some (sym c.spot_of-in-Some.ensures);
    }

pub loop-place-preserved : goal.loop-place-preserved
loop-place-preserved g c = record {
  index = IsIndex-more c.args.resources.now c.loop-place.index c.insert.new.self c.loop-place.place c.index-resources-place.result c.write_fold.new.fold c.loop-place-test.true c.index-resources-place.is c.in_ok-write_fold.ensures c.loop-place.invariant.index c.in_ok-before.ensures.updates;
  apart = one_more c.args.resources.now c.loop-place.place c.index-resources-place.result c.loop-place.index c.write_fold.new.fold c.loop-place-test.true c.index-resources-place.is
      c.in_ok-write_fold.ensures c.loop-place.invariant.index c.loop-place.invariant.apart (sym c.in_ok-before.ensures.old ∙ c.in_default.is);
  steps = omega (arith, c.loop-place.invariant.steps, c.tick.ensures);
}

pub returns-clause-apart : goal.returns-clause-apart
returns-clause-apart g c = all_apart c.args.resources.now (λ a b below. c.loop-place.invariant.apart a b (omega (arith, below, c.loop-place-test.false)))
