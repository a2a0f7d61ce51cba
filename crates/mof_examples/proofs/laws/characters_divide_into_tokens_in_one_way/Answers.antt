use Rattle.mof_syntax.proofs.UniqueTokens.{lexes_same}
use Rattle.mof_examples.proofs.laws.characters_divide_into_tokens_in_one_way.Goals as goal

pub returns : goal.returns
returns c = λ chars one other a b. lexes_same chars one other a b
