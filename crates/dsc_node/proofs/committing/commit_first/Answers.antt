use Rattle.dsc_node.proofs.Rows.{first_goes}
use Rattle.dsc_node.proofs.committing.commit_first.Goals as goal

pub returns-in-Some-clause-goes : goal.returns-in-Some-clause-goes
returns-in-Some-clause-goes g c =
    first_goes g.D.Disk c.args.disk.now c.commit.new.disk c.args.store.now c.commit.new.store c.args.event c.in-Some.event c.in-Some.is c.commit.result c.commit.ensures.goes
