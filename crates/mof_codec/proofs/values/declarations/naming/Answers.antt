use Rattle.mof_codec.proofs.Options.{of_some, of_none}
use Rattle.mof_codec.proofs.HeadsRead.{reads_unnamed, reads_named, lacks_as, lacks_alias_name, lacks_brace}
use Rattle.mof_codec.proofs.values.declarations.naming.Goals as goal

pub returns-in-Some-clause-some : goal.returns-in-Some-clause-some
returns-in-Some-clause-some c = reads_unnamed _ _ c.in-Some.ensures.some

pub returns-in_default-keyword-clause-none : goal.returns-in_default-keyword-clause-none
returns-in_default-keyword-clause-none c = lacks_as _ c.in_default.ensures.none c.in_default-keyword.ensures.none

pub returns-in_default-2-clause-none : goal.returns-in_default-2-clause-none
returns-in_default-2-clause-none c =
    lacks_alias_name _ c.in_default.ensures.none _ c.in-Some-keyword.ensures.some (of_none _ _ c.in_default-2.is c.in_ok-name.ensures.none)

pub returns-in_default-mark_rest-clause-none : goal.returns-in_default-mark_rest-clause-none
returns-in_default-mark_rest-clause-none c =
    lacks_brace _ c.in_default.ensures.none _ c.in-Some-keyword.ensures.some _ _ (of_some _ _ _ c.in-Some-2.is c.in_ok-name.ensures.some) c.in_default-mark_rest.ensures.none

pub returns-clause-some : goal.returns-clause-some
returns-clause-some c =
    reads_named _ _ c.in-Some-keyword.ensures.some _ _ (of_some _ _ _ c.in-Some-2.is c.in_ok-name.ensures.some) _ c.in-Some-mark_rest.ensures.some
