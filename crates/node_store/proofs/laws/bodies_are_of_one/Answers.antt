use Rattle.node_store.proofs.OneBody.{one_body}
use Rattle.node_store.proofs.laws.bodies_are_of_one.Goals as goal

pub returns : goal.returns
returns c = one_body
