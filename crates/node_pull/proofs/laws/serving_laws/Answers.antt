use Rattle.node_pull.proofs.ServedPulls.{accepted_register, served_pull}
use Rattle.node_pull.proofs.laws.serving_laws.Goals as goal

pub returns-clause-register : goal.returns-clause-register
returns-clause-register g c = accepted_register c.one_meaning.ensures

pub returns-clause-pull : goal.returns-clause-pull
returns-clause-pull g c = served_pull c.one_meaning.ensures g.M.Machine.packages g.M.Resources.faults
