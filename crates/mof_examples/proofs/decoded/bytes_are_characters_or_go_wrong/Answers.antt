use Rattle.mof_syntax.proofs.Divided.{chars_or_fault}
use Rattle.mof_examples.proofs.decoded.bytes_are_characters_or_go_wrong.Goals as goal

pub returns : goal.returns
returns c = λ bytes. chars_or_fault bytes
