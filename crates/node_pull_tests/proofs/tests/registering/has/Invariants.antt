use Rattle.std.proofs.Common.{length}
use Rattle.node_pull_tests.proofs.tests.registering.has.Given as goal

abbrev pub decreases-loop-left : goal.decreases-loop-left
decreases-loop-left l = length l.left
