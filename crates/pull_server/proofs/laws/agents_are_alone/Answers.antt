use Rattle.pull_server.proofs.Alone.{alone}
use Rattle.pull_server.proofs.laws.agents_are_alone.Goals as goal

pub returns : goal.returns
returns c = alone
