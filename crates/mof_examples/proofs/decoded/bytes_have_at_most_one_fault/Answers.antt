use Rattle.mof_syntax.proofs.Decoded.{one_fault}
use Rattle.mof_examples.proofs.decoded.bytes_have_at_most_one_fault.Goals as goal

pub returns : goal.returns
returns c = λ bytes one other a b. one_fault bytes one other a b
