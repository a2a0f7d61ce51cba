use Rattle.pull_server.proofs.Own.{first_decides}
use Rattle.pull_server.proofs.laws.the_first_row_decides.Goals as goal

pub returns : goal.returns
returns c = first_decides
