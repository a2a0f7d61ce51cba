use Rattle.dsc_node.specs.Work.{known}
use Rattle.dsc_node.proofs.Joining.{parts_are_brought}
use Rattle.dsc_node.proofs.laws.parts_are_brought.Goals as goal

pub returns : goal.returns
returns g c = parts_are_brought (known g.D.Disk g.M.Resources g.M.Machine g.C.Clock) g.met.D.Disk.counts_now g.met.D.Disk.only_now g.met.D.Disk.honest
