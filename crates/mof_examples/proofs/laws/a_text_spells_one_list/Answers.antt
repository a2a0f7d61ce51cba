use Rattle.mof_syntax.proofs.UniqueRules.{spells_same}
use Rattle.mof_examples.proofs.laws.a_text_spells_one_list.Goals as goal

pub returns : goal.returns
returns c = λ chars one other a b. spells_same chars one other a b
