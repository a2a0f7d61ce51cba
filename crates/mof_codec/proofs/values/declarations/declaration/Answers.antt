use Rattle.mof_codec.proofs.Options.{of_some, of_none}
use Rattle.mof_codec.proofs.DeclarationsRead.{lacks_head, lacks_naming, lacks_body, lacks_end, reads_declaration}
use Rattle.mof_codec.proofs.values.declarations.declaration.Goals as goal

pub returns-in_default-clause-none : goal.returns-in_default-clause-none
returns-in_default-clause-none c = lacks_head _ (of_none _ _ c.in_default.is c.in_ok-class.ensures.none)

pub returns-in_default-2-clause-none : goal.returns-in_default-2-clause-none
returns-in_default-2-clause-none c =
    lacks_naming _ _ _ (of_some _ _ _ c.in-Some.is c.in_ok-class.ensures.some) (of_none _ _ c.in_default-2.is c.in_ok-alias.ensures.none)

pub returns-in_default-3-clause-none : goal.returns-in_default-3-clause-none
returns-in_default-3-clause-none c =
    lacks_body _ _ _ (of_some _ _ _ c.in-Some.is c.in_ok-class.ensures.some) _ _ (of_some _ _ _ c.in-Some-2.is c.in_ok-alias.ensures.some)
    (of_none _ _ c.in_default-3.is c.in_ok-properties.ensures.none)

pub returns-in_default-mark_rest-clause-none : goal.returns-in_default-mark_rest-clause-none
returns-in_default-mark_rest-clause-none c =
    lacks_end _ _ _ (of_some _ _ _ c.in-Some.is c.in_ok-class.ensures.some) _ _ (of_some _ _ _ c.in-Some-2.is c.in_ok-alias.ensures.some)
    _ _ (of_some _ _ _ c.in-Some-3.is c.in_ok-properties.ensures.some) c.in_default-mark_rest.ensures.none

pub returns-clause-some : goal.returns-clause-some
returns-clause-some c =
    rw c.of.ensures (reads_declaration _ _ _ (of_some _ _ _ c.in-Some.is c.in_ok-class.ensures.some) _ _ (of_some _ _ _ c.in-Some-2.is c.in_ok-alias.ensures.some)
    _ _ (of_some _ _ _ c.in-Some-3.is c.in_ok-properties.ensures.some) _ c.in-Some-mark_rest.ensures.some)
