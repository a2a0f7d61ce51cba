use Rattle.std.proofs.Common.{◌≡◌, ◌<◌, ◌++◌, take, length, ap, arith, rules}
use Rattle.std.proofs.KnownBytes.{Consumes-trans}
use Rattle.lcm_program.proofs.Inputs.{longer_front}
use Rattle.lcm_program.proofs.streams.read_all.Goals as goal

pub returns-then-len-limit-clause-too_long : goal.returns-then-len-limit-clause-too_long
returns-then-len-limit-clause-too_long g c = λ _.
    let before = c.loop-bytes.bytes.items in
    let piece = take c.in-Ok.count c.read.new.into in
    let same : c.extend_from_slice.new.self.items ≡ before ++ piece = search rules in
    let above : c.args.limit < length (before ++ piece) = omega (arith, c.if-len-limit.true, ap length same) in
    longer_front c.args.limit _ _ (before ++ piece) (Consumes-trans _ _ _ before piece c.loop-bytes.invariant.so_far c.in-Ok.ensures.bytes.0) above
