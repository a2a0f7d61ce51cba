use Rattle.dsc_node.specs.Work.{known}
use Rattle.dsc_node.proofs.Converging.{runs_are_bounded}
use Rattle.dsc_node.proofs.laws.runs_are_bounded.Goals as goal

pub returns : goal.returns
returns g c = runs_are_bounded (known g.D.Disk g.M.Resources g.M.Machine g.C.Clock) c.trace_laws.ensures.bounded
