use Rattle.pull_server.proofs.Own.{own}
use Rattle.pull_server.proofs.laws.replies_are_of_own_rows.Goals as goal

pub returns : goal.returns
returns c = own
