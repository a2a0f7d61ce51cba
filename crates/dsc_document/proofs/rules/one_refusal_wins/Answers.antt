use Rattle.dsc_document.proofs.OneRule.{one_wins}
use Rattle.dsc_document.proofs.rules.one_refusal_wins.Goals as goal

pub returns : goal.returns
returns c = one_wins
