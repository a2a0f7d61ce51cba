use Rattle.std.proofs.Common.{length}
use Rattle.pull_server.proofs.seen.+known.Given as goal

abbrev pub decreases-known : goal.decreases-known
decreases-known l = length l.seen.now
