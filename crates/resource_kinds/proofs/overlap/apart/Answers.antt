use Rattle.std.proofs.Common.{length, ap, arith}
use Rattle.resource_kinds.proofs.EarlierResources.{all_apart}
use Rattle.resource_kinds.proofs.overlap.apart.Goals as goal

pub returns-clause-apart : goal.returns-clause-apart
returns-clause-apart c = λ _.
    all_apart c.args.document.now c.as_slice-second-end.result.now c.as_slice-second-end.ensures c.loop-second.second
    (omega (arith, c.loop-second-test.false, ap length c.as_slice-second-end.ensures)) c.loop-second.invariant
