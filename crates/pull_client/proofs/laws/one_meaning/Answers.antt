use Rattle.pull_client.proofs.OneMeaning.{one_meaning}
use Rattle.pull_client.proofs.laws.one_meaning.Goals as goal

pub returns : goal.returns
returns c = one_meaning c.one_answer.ensures.replies
