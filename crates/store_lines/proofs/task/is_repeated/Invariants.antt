use Rattle.std.proofs.Common.{◌≡◌, length}
use Rattle.store_lines.specs.Words.{is_repeated}
use Rattle.store_lines.proofs.task.is_repeated.Given as goal

abbrev pub invariant-loop-left : goal.invariant-loop-left
invariant-loop-left l = is_repeated l.texts ≡ is_repeated l.left

abbrev pub decreases-loop-left : goal.decreases-loop-left
decreases-loop-left l = length l.left
