use Rattle.std.proofs.Common.{◌≡◌, sym, ◌∙◌, arith}
use Rattle.std.proofs.lemmas.Grind.{common_steps}
use Rattle.depend_order.specs.Numbers.{numbers_of}
use Rattle.depend_order.proofs.Marks.{marking_push}
use Rattle.depend_order.proofs.NumberLemmas.{numbers_of_read}
use Rattle.depend_order.proofs.Stuck.{first_step, some_step}
use Rattle.depend_order.proofs.Walks.{walk_push, once_push}
use Rattle.depend_order.proofs.walk.closed_walk.Goals as goal

pub loop-visited-preserved : goal.loop-visited-preserved
loop-visited-preserved c =
    let depends = c.args.depends.now in
    let r = c.loop-visited.place in
    let so_far = c.loop-visited.invariant in
    let read : numbers_of depends r ≡ c.deref.result.now =
    numbers_of_read depends r c.index-depends-place.result so_far.left.is_place c.index-depends-place.is ∙ sym c.deref.ensures.value in
    let step = first_step depends c.args.waiting.now c.requires.below c.requires.stuck r c.deref.result.now read c.in-Some.next c.in-Some.ensures.found in
    rw c.in_ok-push.ensures.items (record {
      visited = marking_push _ _ _ r so_far.left.is_place so_far.visited;
      once = once_push _ r so_far.once (λ has. let m = so_far.visited.marked r has in grind (arith, common_steps, m));
      walk = walk_push _ _ _ r c.in-Some.next so_far.walk step;
      left = step.left;
    })

pub unreachable-requires : goal.unreachable-requires
unreachable-requires c =
    let depends = c.args.depends.now in
    let r = c.loop-visited.place in
    let left = c.loop-visited.invariant.left in
    let read : numbers_of depends r ≡ c.deref.result.now =
    numbers_of_read depends r c.index-depends-place.result left.is_place c.index-depends-place.is ∙ sym c.deref.ensures.value in
    some_step depends c.args.waiting.now c.requires.below c.requires.stuck r c.deref.result.now read left c.in-None.ensures.none
