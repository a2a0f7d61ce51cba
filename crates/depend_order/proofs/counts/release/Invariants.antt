use Rattle.std.proofs.Common.{◌≡◌, ◌≤◌, ◌+◌, ℕ, length, map, slice_index, take}
use Rattle.std.specs.BinaryHeap.{IsHeap, heap_items}
use Rattle.std.specs.List.{sum}
use Rattle.std.specs.Ordering.{nat_cmp}
use Rattle.depend_order.specs.Counts.{none_left, times, zeros}
use Rattle.depend_order.proofs.counts.release.Given as goal

abbrev pub invariant-loop-dependent : goal.invariant-loop-dependent
invariant-loop-dependent g l = record {
  size : length l.waiting ≡ length l.fn.waiting;
  lowered : (r : ℕ) → slice_index l.waiting r + times r (take l.dependent-index l.dependents) ≡ slice_index l.fn.waiting r;
  ready : (r : ℕ) → times r (map (λ x. x.0) (heap_items l.ready)) + none_left (slice_index l.fn.waiting r)
      ≡ times r (map (λ x. x.0) (heap_items l.fn.ready)) + none_left (slice_index l.waiting r);
  heap : IsHeap (λ x y. nat_cmp y.0 x.0) (heap_items l.ready);
  steps : l.steps + sum l.waiting + zeros l.fn.waiting ≤ l.fn.steps + sum l.fn.waiting + zeros l.waiting;
}
