use Rattle.std.proofs.Common.{◌≡◌, length}
use Rattle.resource_kinds.specs.PathOrder.{names_after}
use Rattle.resource_kinds.proofs.path_order.skipped.Given as goal

-- what was passed is no name
abbrev pub invariant-loop-rest : goal.invariant-loop-rest
invariant-loop-rest l = names_after l.text ≡ names_after l.left

abbrev pub decreases-loop-rest : goal.decreases-loop-rest
decreases-loop-rest l = length l.left
