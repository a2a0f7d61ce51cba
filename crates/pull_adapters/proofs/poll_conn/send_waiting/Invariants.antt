use Rattle.std.proofs.Common.{length}
use Rattle.pull_adapters.proofs.poll_conn.send_waiting.Given as goal

abbrev pub decreases-loop-rest : goal.decreases-loop-rest
decreases-loop-rest g l = length l.rest
