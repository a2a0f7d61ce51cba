use Rattle.std.proofs.Common.{◌≡◌, ◌↔◌, length}
use Rattle.shared_key.proofs.signature.is_equal.Given as goal

abbrev pub invariant-loop-left : goal.invariant-loop-left
invariant-loop-left l = record {
  same_length : length l.left ≡ length l.right;
  equal_so_far : (l.fn.signature ≡ l.fn.given) ↔ ((l.difference ≡ 0) × (l.left ≡ l.right));
}

abbrev pub decreases-loop-left : goal.decreases-loop-left
decreases-loop-left l = length l.left
