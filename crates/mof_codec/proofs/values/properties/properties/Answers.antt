use Rattle.std.proofs.Common.{rules, arith}
use Rattle.std.specs.Str.{chars}
use Rattle.mof_codec.proofs.Options.{of_some, of_none}
use Rattle.mof_codec.proofs.PropertiesRead.{body_start, reads_body, body_next, lacks_capacity, lacks_further}
use Rattle.mof_codec.proofs.values.properties.properties.Goals as goal

pub properties-init : goal.properties-init
properties-init c = rw c.new-properties.ensures.items (c.utf8.text, body_start (chars c.args.text.now))

pub returns-in-Some-clause-some : goal.returns-in-Some-clause-some
returns-in-Some-clause-some c = reads_body _ _ _ c.properties.invariant.1 _ c.in-Some.ensures.some

pub returns-then-len-eq-MAX_PROPERTIES-clause-none : goal.returns-then-len-eq-MAX_PROPERTIES-clause-none
returns-then-len-eq-MAX_PROPERTIES-clause-none c = lacks_capacity _ _ _ c.properties.invariant.1 c.in_default.ensures.none (omega arith)

pub returns-in_default-2-clause-none : goal.returns-in_default-2-clause-none
returns-in_default-2-clause-none c = lacks_further _ _ _ c.properties.invariant.1 c.in_default.ensures.none (of_none _ _ c.in_default-2.is c.in_ok-property.ensures.none)

pub properties-preserved : goal.properties-preserved
properties-preserved c =
    rw c.in_ok-push.ensures.items (search rules, body_next _ _ _ c.properties.invariant.1 _ _ (λ same. omega arith) (of_some _ _ _ c.in-Some-2.is c.in_ok-property.ensures.some))
