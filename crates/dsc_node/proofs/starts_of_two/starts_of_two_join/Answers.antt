use Rattle.dsc_node.specs.Work.{known}
use Rattle.dsc_node.proofs.JoiningTwo.{go_on, join, parts_of_new, parts_of_two}
use Rattle.dsc_node.proofs.starts_of_two.starts_of_two_join.Goals as goal

pub returns-clause-go_on : goal.returns-clause-go_on
returns-clause-go_on g c =
    let o = known g.D.Disk g.M.Resources g.M.Machine g.C.Clock in
    let p = known g.E.Disk g.N.Resources g.N.Machine g.K.Clock in
    go_on o p (record { counts_now = g.met.D.Disk.counts_now; only_now = g.met.D.Disk.only_now; honest = g.met.D.Disk.honest })
    (record { counts_now = g.met.E.Disk.counts_now; only_now = g.met.E.Disk.only_now; honest = g.met.E.Disk.honest })

pub returns-clause-join : goal.returns-clause-join
returns-clause-join g c =
    let o = known g.D.Disk g.M.Resources g.M.Machine g.C.Clock in
    let p = known g.E.Disk g.N.Resources g.N.Machine g.K.Clock in
    join o p (record { counts_now = g.met.D.Disk.counts_now; only_now = g.met.D.Disk.only_now; honest = g.met.D.Disk.honest })
    (record { counts_now = g.met.E.Disk.counts_now; only_now = g.met.E.Disk.only_now; honest = g.met.E.Disk.honest })

pub returns-clause-parts : goal.returns-clause-parts
returns-clause-parts g c =
    let o = known g.D.Disk g.M.Resources g.M.Machine g.C.Clock in
    let p = known g.E.Disk g.N.Resources g.N.Machine g.K.Clock in
    parts_of_two o p (record { counts_now = g.met.D.Disk.counts_now; only_now = g.met.D.Disk.only_now; honest = g.met.D.Disk.honest })
    (record { counts_now = g.met.E.Disk.counts_now; only_now = g.met.E.Disk.only_now; honest = g.met.E.Disk.honest })

pub returns-clause-from_new : goal.returns-clause-from_new
returns-clause-from_new g c =
    let o = known g.D.Disk g.M.Resources g.M.Machine g.C.Clock in
    let p = known g.E.Disk g.N.Resources g.N.Machine g.K.Clock in
    parts_of_new o p (record { counts_now = g.met.D.Disk.counts_now; only_now = g.met.D.Disk.only_now; honest = g.met.D.Disk.honest })
    (record { counts_now = g.met.E.Disk.counts_now; only_now = g.met.E.Disk.only_now; honest = g.met.E.Disk.honest })
