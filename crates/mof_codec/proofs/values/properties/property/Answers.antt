use Rattle.mof_codec.proofs.Options.{of_some, of_none}
use Rattle.mof_codec.proofs.PropertiesRead.{lacks_property_name, lacks_equals, lacks_value, lacks_semicolon, reads_property}
use Rattle.mof_codec.proofs.values.properties.property.Goals as goal

pub returns-in_default-clause-none : goal.returns-in_default-clause-none
returns-in_default-clause-none c = lacks_property_name _ (of_none _ _ c.in_default.is c.in_ok-name.ensures.none)

pub returns-in_default-mark_rest-clause-none : goal.returns-in_default-mark_rest-clause-none
returns-in_default-mark_rest-clause-none c =
    lacks_equals _ _ _ (of_some _ _ _ c.in-Some.is c.in_ok-name.ensures.some) c.in_default-mark_rest.ensures.none

pub returns-in_default-2-clause-none : goal.returns-in_default-2-clause-none
returns-in_default-2-clause-none c =
    lacks_value _ _ _ (of_some _ _ _ c.in-Some.is c.in_ok-name.ensures.some) _ c.in-Some-mark_rest.ensures.some (of_none _ _ c.in_default-2.is c.in_ok-value.ensures.none)

pub returns-in_default-mark_rest-2-clause-none : goal.returns-in_default-mark_rest-2-clause-none
returns-in_default-mark_rest-2-clause-none c =
    lacks_semicolon _ _ _ (of_some _ _ _ c.in-Some.is c.in_ok-name.ensures.some) _ c.in-Some-mark_rest.ensures.some
    _ _ (of_some _ _ _ c.in-Some-2.is c.in_ok-value.ensures.some) c.in_default-mark_rest-2.ensures.none

pub returns-clause-some : goal.returns-clause-some
returns-clause-some c =
    reads_property _ _ _ (of_some _ _ _ c.in-Some.is c.in_ok-name.ensures.some) _ c.in-Some-mark_rest.ensures.some
    _ _ (of_some _ _ _ c.in-Some-2.is c.in_ok-value.ensures.some) _ c.in-Some-mark_rest-2.ensures.some
