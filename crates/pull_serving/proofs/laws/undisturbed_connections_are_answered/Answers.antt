use Rattle.pull_serving.proofs.Complete.{undisturbed_answered}
use Rattle.pull_serving.proofs.laws.undisturbed_connections_are_answered.Goals as goal

pub returns : goal.returns
returns g c = undisturbed_answered _
