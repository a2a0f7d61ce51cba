use Rattle.std.proofs.Common.{◌≡◌, length}
use Rattle.resource_kinds.specs.PathOrder.{order_of, path_left}
use Rattle.resource_kinds.proofs.path_order.compare.Given as goal

-- the characters so far are the same
abbrev pub invariant-loop-x : goal.invariant-loop-x
invariant-loop-x l = order_of (path_left l.a) (path_left l.b) ≡ order_of (path_left l.left) (path_left l.right)

abbrev pub decreases-loop-x : goal.decreases-loop-x
decreases-loop-x l = length (path_left l.left)
