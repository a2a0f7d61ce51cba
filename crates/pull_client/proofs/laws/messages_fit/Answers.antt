use Rattle.pull_client.proofs.MessagesFit.{messages_fit}
use Rattle.pull_client.proofs.laws.messages_fit.Goals as goal

pub returns : goal.returns
returns c = messages_fit
