use Rattle.std.proofs.Common.{◌≡◌, ◌<◌, ◌≤◌, ℕ, ◌+◌, map, slice_index, take}
use Rattle.std.specs.BinaryHeap.{IsHeap, heap_items}
use Rattle.std.specs.Ordering.{nat_cmp}
use Rattle.depend_order.specs.Counts.{none_left, times, zeros}
use Rattle.depend_order.proofs.counts.first_ready.Given as goal

abbrev pub invariant-loop-place : goal.invariant-loop-place
invariant-loop-place g l = record {
  heap : IsHeap (λ x y. nat_cmp y.0 x.0) (heap_items l.ready);
  passed : (r : ℕ) → r < l.place → times r (map (λ x. x.0) (heap_items l.ready)) ≡ none_left (slice_index l.waiting r);
  after : (r : ℕ) → l.place ≤ r → times r (map (λ x. x.0) (heap_items l.ready)) ≡ 0;
  steps : l.steps ≤ l.fn.steps + zeros (take l.place l.waiting);
}
