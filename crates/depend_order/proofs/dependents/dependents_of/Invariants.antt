use Rattle.std.proofs.Common.{◌≡◌, ℕ, length, take}
use Rattle.depend_order.specs.Counts.{times}
use Rattle.depend_order.specs.Numbers.{numbers_of}
use Rattle.depend_order.proofs.dependents.dependents_of.Given as goal

abbrev pub invariant-loop-place : goal.invariant-loop-place
invariant-loop-place l = record {
  count : length l.dependents.items ≡ length l.depends;
  listed : (q r : ℕ) → times r (numbers_of l.dependents.items q) ≡ times q (numbers_of (take l.place l.depends) r);
}
