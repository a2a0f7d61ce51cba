use Rattle.dsc_node.specs.Work.{known}
use Rattle.dsc_node.proofs.WorkDone.{starts_do_all_work, starts_do_prefixes}
use Rattle.dsc_node.proofs.laws.starts_do_their_work.Goals as goal

pub returns-clause-all : goal.returns-clause-all
returns-clause-all g c = starts_do_all_work (known g.D.Disk g.M.Resources g.M.Machine g.C.Clock) g.met.D.Disk.counts_now g.met.D.Disk.only_now g.met.D.Disk.honest

pub returns-clause-prefix : goal.returns-clause-prefix
returns-clause-prefix g c = starts_do_prefixes (known g.D.Disk g.M.Resources g.M.Machine g.C.Clock) g.met.D.Disk.counts_now g.met.D.Disk.only_now g.met.D.Disk.honest
