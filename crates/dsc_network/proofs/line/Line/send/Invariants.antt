use Rattle.std.proofs.Common.{length}
use Rattle.dsc_network.proofs.line.Line.send.Given as goal

abbrev pub decreases-loop-rest : goal.decreases-loop-rest
decreases-loop-rest g l = length l.rest
