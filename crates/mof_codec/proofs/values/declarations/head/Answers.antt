use Rattle.mof_codec.proofs.Options.{of_some, of_none}
use Rattle.mof_codec.proofs.HeadsRead.{lacks_instance, lacks_of, lacks_class, reads_head}
use Rattle.mof_codec.proofs.values.declarations.head.Goals as goal

pub returns-in_default-clause-none : goal.returns-in_default-clause-none
returns-in_default-clause-none c = lacks_instance _ c.in_default.ensures.none

pub returns-in_default-keyword-clause-none : goal.returns-in_default-keyword-clause-none
returns-in_default-keyword-clause-none c = lacks_of _ _ c.in-Some.ensures.some c.in_default-keyword.ensures.none

pub returns-in_default-2-clause-none : goal.returns-in_default-2-clause-none
returns-in_default-2-clause-none c =
    lacks_class _ _ c.in-Some.ensures.some _ c.in-Some-keyword.ensures.some (of_none _ _ c.in_default-2.is c.in_ok-class.ensures.none)

pub returns-clause-some : goal.returns-clause-some
returns-clause-some c =
    reads_head _ _ c.in-Some.ensures.some _ c.in-Some-keyword.ensures.some _ _ (of_some _ _ _ c.in-Some-2.is c.in_ok-class.ensures.some)
