use Rattle.command_kind.proofs.HostTraces.{others_true}
use Rattle.command_kind.proofs.laws.host_laws.Goals as goal

pub returns : goal.returns
returns g c = others_true g.H.Host g.P.Spawner
