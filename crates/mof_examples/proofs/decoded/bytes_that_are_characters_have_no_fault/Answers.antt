use Rattle.mof_syntax.proofs.Decoded.{no_fault}
use Rattle.mof_examples.proofs.decoded.bytes_that_are_characters_have_no_fault.Goals as goal

pub returns : goal.returns
returns c = λ bytes text at chars fault. no_fault bytes text at chars fault
