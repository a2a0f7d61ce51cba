use Rattle.dsc_node.specs.Work.{known}
use Rattle.dsc_node.proofs.Joining.{finds_what_is_read, starts_go_on, starts_join}
use Rattle.dsc_node.proofs.laws.starts_join.Goals as goal

pub returns-clause-go_on : goal.returns-clause-go_on
returns-clause-go_on g c = starts_go_on (known g.D.Disk g.M.Resources g.M.Machine g.C.Clock) g.met.D.Disk.counts_now g.met.D.Disk.only_now g.met.D.Disk.honest

pub returns-clause-join : goal.returns-clause-join
returns-clause-join g c = starts_join (known g.D.Disk g.M.Resources g.M.Machine g.C.Clock) g.met.D.Disk.counts_now g.met.D.Disk.only_now g.met.D.Disk.honest

pub returns-clause-read : goal.returns-clause-read
returns-clause-read g c = finds_what_is_read (known g.D.Disk g.M.Resources g.M.Machine g.C.Clock) g.met.D.Disk.counts_now g.met.D.Disk.only_now g.met.D.Disk.honest
