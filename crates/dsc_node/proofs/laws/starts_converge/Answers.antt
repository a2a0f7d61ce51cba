use Rattle.dsc_node.proofs.Converging.{starts_come_nearer, starts_converge, starts_converge_in_time}
use Rattle.dsc_node.proofs.laws.starts_converge.Goals as goal

pub returns-clause-nearer : goal.returns-clause-nearer
returns-clause-nearer g c =
    starts_come_nearer g.D.Disk g.H.Host g.C.Clock c.reboot_laws.ensures.nearer c.reboot_laws.ensures.comply c.trace_laws.ensures.together c.valid_starts_complete.ensures

pub returns-clause-converge : goal.returns-clause-converge
returns-clause-converge g c =
    starts_converge g.D.Disk g.H.Host g.C.Clock c.reboot_laws.ensures.nearer c.reboot_laws.ensures.comply c.trace_laws.ensures.together c.valid_starts_complete.ensures g.met.D.Disk.honest

pub returns-clause-in_time : goal.returns-clause-in_time
returns-clause-in_time g c =
    starts_converge_in_time g.D.Disk g.H.Host g.C.Clock c.reboot_laws.ensures.nearer c.reboot_laws.ensures.comply c.trace_laws.ensures.together c.valid_starts_complete.ensures g.met.D.Disk.honest
    c.holding_laws.ensures.bounded
