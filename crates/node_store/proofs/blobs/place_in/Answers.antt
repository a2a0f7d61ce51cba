use Rattle.node_store.proofs.Chosen.{searched_more}
use Rattle.node_store.proofs.Reported.{never}
use Rattle.node_store.proofs.blobs.place_in.Goals as goal

pub returns-then-is_of : goal.returns-then-is_of
returns-then-is_of c = record {
  below = c.loop-place-test.true;
  blob = c.index-list-place.result;
  there = c.index-list-place.is;
  is = c.is_of.ensures.0 c.if-is_of.true;
  first = c.loop-place.invariant;
}

pub loop-place-preserved : goal.loop-place-preserved
loop-place-preserved c =
    searched_more c.args.list.now c.args.part.now.bytes c.loop-place.place c.index-list-place.result c.loop-place-test.true c.index-list-place.is
    (λ same. never c.is_of.result (c.is_of.ensures.1 same) c.if-is_of.false) c.loop-place.invariant
