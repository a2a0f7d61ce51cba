use Rattle.mof_codec.proofs.Options.{of_some, of_none}
use Rattle.mof_codec.proofs.Names.{begins_alias, reads_alias, lacks_alias, lacks_this_alias, short_ident}
use Rattle.mof_codec.proofs.values.words.alias.Goals as goal

pub returns-in_default-clause-none : goal.returns-in_default-clause-none
returns-in_default-clause-none c = lacks_alias _ _ c.separators_rest.ensures.stands c.separators_rest.ensures.stops c.in_default.ensures.none

pub returns-in_default-2-clause-none : goal.returns-in_default-2-clause-none
returns-in_default-2-clause-none c =
    let long = of_none _ _ c.in_default-2.is c.in_ok-name.ensures.none in
    lacks_this_alias _ _ _ (begins_alias _ _ c.separators_rest.ensures.stands _ _ c.in-Some.ensures.some) (λ short. short_ident _ _ _ c.in-Some.ensures.some.2 short long)

pub returns-clause-some : goal.returns-clause-some
returns-clause-some c =
    let named = of_some _ _ _ c.in-Some-2.is c.in_ok-name.ensures.some in
    rw named.0 (reads_alias _ _ c.separators_rest.ensures.stands _ _ c.in-Some.ensures.some named.1)
