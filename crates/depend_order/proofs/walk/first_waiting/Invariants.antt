use Rattle.std.proofs.Common.{◌≡◌, ◌<◌, ℕ, Some, slice_get, slice_index}
use Rattle.depend_order.proofs.walk.first_waiting.Given as goal

abbrev pub invariant-loop-number : goal.invariant-loop-number
invariant-loop-number l = (j q : ℕ) → j < l.number-index → slice_get l.numbers j ≡ Some q → slice_index l.waiting q ≡ 0
