use Rattle.std.proofs.Common.{◌≤◌, ◌+◌, ◌-◌, length, map}
use Rattle.std.specs.BinaryHeap.{IsHeap, heap_items}
use Rattle.std.specs.List.{sum}
use Rattle.std.specs.Ordering.{nat_cmp}
use Rattle.depend_order.specs.Counts.{AreCounted, IsReadied, zeros}
use Rattle.depend_order.specs.Cycle.{DependsOn}
use Rattle.depend_order.specs.Numbers.{Lists, numbers_in}
use Rattle.depend_order.specs.Order.{IsEarliestReady}
use Rattle.depend_order.proofs.numbers.order_of_counted.Given as goal

abbrev pub invariant-loop-place : goal.invariant-loop-place
invariant-loop-place g l = record {
  earliest : IsEarliestReady (length l.depends) (DependsOn (Lists l.depends)) l.order.items;
  counted : AreCounted l.depends l.order.items l.waiting.items;
  readied : IsReadied l.waiting.items l.order.items (map (λ x. x.0) (heap_items l.ready));
  heap : IsHeap (λ x y. nat_cmp y.0 x.0) (heap_items l.ready);
  steps : l.steps + sum l.waiting.items ≤ l.fn.steps + (numbers_in l.depends + zeros l.waiting.items + length l.order.items);
}

abbrev pub decreases-loop-place : goal.decreases-loop-place
decreases-loop-place g l = length l.depends - length l.order.items
