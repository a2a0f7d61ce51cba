use Rattle.dsc_node.specs.Work.{known}
use Rattle.dsc_node.proofs.LastingStarts.{lasting_starts_converge, lasting_starts_go_on}
use Rattle.dsc_node.proofs.laws.lasting_starts_converge.Goals as goal

pub returns-clause-go_on : goal.returns-clause-go_on
returns-clause-go_on g c =
    lasting_starts_go_on (known g.D.Disk g.M.Resources g.M.Machine g.C.Clock) c.lasting_laws.ensures.comply c.lasting_laws.ensures.few c.valid_starts_complete.ensures

pub returns-clause-converge : goal.returns-clause-converge
returns-clause-converge g c =
    lasting_starts_converge (known g.D.Disk g.M.Resources g.M.Machine g.C.Clock) c.lasting_laws.ensures.comply c.lasting_laws.ensures.few c.valid_starts_complete.ensures g.met.D.Disk.honest
