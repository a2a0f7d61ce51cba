use Rattle.std.proofs.Common.{◌≡◌, ℕ, [], length}
use Rattle.depend_order.specs.Numbers.{numbers_of}
use Rattle.depend_order.proofs.dependents.no_places.Given as goal

abbrev pub invariant-loop : goal.invariant-loop
invariant-loop l = record {
  count : length l.lists.items ≡ l.counter;
  none : (q : ℕ) → numbers_of l.lists.items q ≡ [];
}
