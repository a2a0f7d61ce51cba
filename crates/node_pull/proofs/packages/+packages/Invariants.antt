use Rattle.std.proofs.Common.{length}
use Rattle.node_pull.proofs.packages.+packages.Given as goal

abbrev pub decreases-packages : goal.decreases-packages
decreases-packages g l = length l.modules.now
