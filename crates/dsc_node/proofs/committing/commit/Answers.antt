use Rattle.dsc_node.proofs.Commits.{commit_goes}
use Rattle.dsc_node.proofs.committing.commit.Goals as goal

pub returns-clause-goes : goal.returns-clause-goes
returns-clause-goes g c =
    commit_goes g.D.Disk c.args.disk.now c.commit.new.disk c.args.event c.args.store.now c.commit.new.self c.requires.kept c.requires.within (c.commit.ensures.any_moment c.requires.kept)
    c.commit.ensures.count (g.met.D.Disk.counts_now c.commit.new.disk) c.commit.result c.commit.ensures.answer
