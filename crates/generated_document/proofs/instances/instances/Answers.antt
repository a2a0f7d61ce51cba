use Rattle.std.proofs.Common.{◌≡◌, ◌-◌, arith}
use Rattle.generated_document.specs.Generated.{generated_instances, generated_resource}
use Rattle.generated_document.proofs.Making.{one_more}
use Rattle.generated_document.proofs.instances.instances.Goals as goal

pub loop-number-preserved : goal.loop-number-preserved
loop-number-preserved c =
    let made : c.in_ok-resource.field-0 ≡ generated_resource (c.loop-number.number - 1) = c.in_ok-resource.ensures in
    record { whole = rw (c.in_ok-push.ensures.items, made) (one_more c.loop-number.instances.items c.loop-number.number (generated_instances c.args.count) (omega (arith, c.loop-number-test.true)) c.loop-number.invariant.whole) }
