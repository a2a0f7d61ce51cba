use Rattle.mof_syntax.proofs.FrontLaws.{IsFront-append}
use Rattle.mof_examples.proofs.laws.a_front_of_a_front_is_one.Goals as goal

pub returns : goal.returns
returns c = λ front more f. IsFront-append front more f
