use Rattle.std.proofs.Common.{length, ◌≤◌}
use Rattle.mof_examples.proofs.decider.grammar.elements.Given as goal

abbrev pub invariant-loop-left : goal.invariant-loop-left
invariant-loop-left l = length l.left ≤ length l.tokens

abbrev pub decreases-loop-left : goal.decreases-loop-left
decreases-loop-left l = length l.left
