use Rattle.mof_codec.proofs.Writing.{adds_elements}
use Rattle.mof_codec.proofs.writer.scalars.push_elements.Goals as goal

pub returns-clause-text : goal.returns-clause-text
returns-clause-text c = adds_elements _ _ _ _ _ c.in-len1-up.len_at_least c.first-item.is c.in_ok-push_scalar.ensures.text c.in_ok-push_further.ensures.text
