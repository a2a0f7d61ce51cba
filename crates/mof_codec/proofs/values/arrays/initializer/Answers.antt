use Rattle.mof_codec.proofs.Options.{of_some, of_none}
use Rattle.mof_codec.proofs.ArraysRead.{reads_many, lacks_many, reads_one, lacks_one}
use Rattle.mof_codec.proofs.values.arrays.initializer.Goals as goal

pub returns-in_default-2-clause-none : goal.returns-in_default-2-clause-none
returns-in_default-2-clause-none c = lacks_many _ _ c.in-Some.ensures.some (of_none _ _ c.in_default-2.is c.in_ok-elements.ensures.none)

pub returns-in-Some-clause-some : goal.returns-in-Some-clause-some
returns-in-Some-clause-some c =
    rw c.of.ensures (reads_many _ _ _ _ c.in-Some.ensures.some (of_some _ _ _ c.in-Some-2.is c.in_ok-elements.ensures.some))

pub returns-in_default-3-clause-none : goal.returns-in_default-3-clause-none
returns-in_default-3-clause-none c = lacks_one _ c.in_default.ensures.none (of_none _ _ c.in_default-3.is c.in_ok-scalar.ensures.none)

pub returns-clause-some : goal.returns-clause-some
returns-clause-some c = reads_one _ _ _ (of_some _ _ _ c.in-Some-3.is c.in_ok-scalar.ensures.some)
