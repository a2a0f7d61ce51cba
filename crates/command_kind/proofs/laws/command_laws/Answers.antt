use Rattle.command_kind.proofs.Traces.{others_are, runs_follow}
use Rattle.command_kind.proofs.laws.command_laws.Goals as goal

pub returns-clause-runs : goal.returns-clause-runs
returns-clause-runs g c = runs_follow g.M.Resources g.P.Spawner

pub returns-clause-machine : goal.returns-clause-machine
returns-clause-machine g c = others_are g.M.Resources g.P.Spawner g.met.M.Resources.still_does g.met.M.Machine.still_still
