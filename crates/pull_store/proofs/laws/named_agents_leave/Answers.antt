use Rattle.pull_store.proofs.Leaving.{named_leave, unnamed_stay, left_fit}
use Rattle.pull_store.proofs.laws.named_agents_leave.Goals as goal

pub returns : goal.returns
returns c = record { gone = named_leave; others = unnamed_stay; fit = left_fit }
