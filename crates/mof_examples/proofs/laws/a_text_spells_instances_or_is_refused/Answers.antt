use Rattle.mof_codec.proofs.Answered.{spells_or_wins}
use Rattle.mof_examples.proofs.laws.a_text_spells_instances_or_is_refused.Goals as goal

pub returns : goal.returns
returns c = λ text. spells_or_wins text
