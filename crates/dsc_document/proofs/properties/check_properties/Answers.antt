use Rattle.std.proofs.Common.{subst, sym}
use Rattle.dsc_document.specs.Rules.{Applies, RepeatsName, property_name_at}
use Rattle.dsc_document.specs.Names.{ShareName}
use Rattle.dsc_document.proofs.RefusalsOfRules.{HasAt-never, each_more, only_duplicate_property}
use Rattle.dsc_document.proofs.properties.check_properties.Goals as goal

pub loop-index-preserved : goal.loop-index-preserved
loop-index-preserved c = λ name.
    each_more (λ i. RepeatsName i.properties name → ⊥) c.args.instances.now c.loop-index.index c.index-instances-index.result c.loop-index-test.true c.index-instances-index.is
    (λ repeats. c.in_default.ensures repeats.first repeats.second
    (subst (λ ps. ShareName (property_name_at ps) repeats.first repeats.second) (sym c.as_slice.ensures) repeats.shared))
    (c.loop-index.invariant name)

pub returns : goal.returns
returns c =
    only_duplicate_property (λ r. Applies c.args.instances.now r → ⊥)
    (λ index name. HasAt-never c.args.instances.now (λ i. RepeatsName i.properties name) c.loop-index.index c.loop-index-test.false (c.loop-index.invariant name) index)
