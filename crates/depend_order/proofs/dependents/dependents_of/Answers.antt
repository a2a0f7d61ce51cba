use Rattle.std.proofs.Common.{◌∙◌}
use Rattle.depend_order.proofs.Adding.{listed_more}
use Rattle.depend_order.proofs.dependents.dependents_of.Goals as goal

pub loop-place-preserved : goal.loop-place-preserved
loop-place-preserved c =
    let depends = c.args.depends.now in
    let so_far = c.loop-place.invariant in
    let here = rw c.deref.ensures.value at c.in_ok-add.ensures.here in
    record {
      count = c.add.ensures.count ∙ so_far.count;
      listed = listed_more depends c.loop-place.place c.index-depends-place.result c.loop-place-test.true c.index-depends-place.is
          c.loop-place.dependents.items c.add.new.dependents.items so_far.listed here c.in_ok-add.ensures.others;
    }
