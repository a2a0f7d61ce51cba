use Rattle.std.proofs.Common.{◌≡◌, ◌≢◌, ◌+◌, ℕ, length, take}
use Rattle.depend_order.specs.Counts.{times}
use Rattle.depend_order.specs.Numbers.{numbers_of}
use Rattle.depend_order.proofs.dependents.add.Given as goal

abbrev pub invariant-loop-number : goal.invariant-loop-number
invariant-loop-number l = record {
  count : length l.dependents.items ≡ length l.fn.dependents.items;
  here : (q : ℕ) → times l.place (numbers_of l.dependents.items q) ≡ times l.place (numbers_of l.fn.dependents.items q) + times q (take l.number-index l.numbers);
  others : (q r : ℕ) → r ≢ l.place → times r (numbers_of l.dependents.items q) ≡ times r (numbers_of l.fn.dependents.items q);
}
