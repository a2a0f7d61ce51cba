use Rattle.std.proofs.Common.{length, ◌≤◌}
use Rattle.mof_examples.proofs.decider.pieces.longest.Given as goal

abbrev pub invariant-loop-count : goal.invariant-loop-count
invariant-loop-count l = l.count ≤ length l.chars

abbrev pub decreases-loop-count : goal.decreases-loop-count
decreases-loop-count l = l.count
