use Rattle.std.proofs.Common.{◌<◌, ◌++◌, take, length, arith, length-append}
use Rattle.std.proofs.KnownBytes.{Consumes-trans}
use Rattle.lcm_program.specs.Checksum.{checksum_limit}
use Rattle.lcm_program.proofs.Inputs.{longer}
use Rattle.lcm_program.proofs.checksum.read_digest.Goals as goal

pub returns-then-total-gt-LIMIT-clause-err : goal.returns-then-total-gt-LIMIT-clause-err
returns-then-total-gt-LIMIT-clause-err g c =
    let before = c.loop-hash.invariant.so_far in
    let piece = take c.in-Ok.count c.read.new.into in
    let above : checksum_limit < length (before.0 ++ piece) =
    omega (arith, before.3, length-append before.0 piece, c.in-Ok.ensures.bound.1, c.if-total-gt-LIMIT.true) in
    longer _ _ (before.0 ++ piece) (Consumes-trans _ _ _ before.0 piece before.2 c.in-Ok.ensures.bytes.0) above
