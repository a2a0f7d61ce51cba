use Rattle.std.proofs.Common.{◌≡◌, ◌++◌, length}
use Rattle.node_pull.specs.Laying.{laid_over}
use Rattle.node_pull.proofs.laying.laid_over.Given as goal

abbrev pub invariant-loop-left : goal.invariant-loop-left
invariant-loop-left l = laid_over l.names l.new l.held ≡ l.parts.items ++ laid_over l.left l.new l.held

abbrev pub decreases-loop-left : goal.decreases-loop-left
decreases-loop-left l = length l.left
