use Rattle.mof_syntax.proofs.Decoded.{one_text}
use Rattle.mof_examples.proofs.decoded.bytes_are_characters_in_one_way.Goals as goal

pub returns : goal.returns
returns c = λ bytes one other a b. one_text bytes one other a b
