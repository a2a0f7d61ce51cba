use Rattle.pull_serving.proofs.Parting.{only_done}
use Rattle.pull_serving.proofs.laws.only_done_requests_end_at_once.Goals as goal

pub returns : goal.returns
returns g c = only_done _
