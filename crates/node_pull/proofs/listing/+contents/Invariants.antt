use Rattle.std.proofs.Common.{length}
use Rattle.node_pull.proofs.listing.+contents.Given as goal

abbrev pub decreases-contents : goal.decreases-contents
decreases-contents g l = length l.names.now
