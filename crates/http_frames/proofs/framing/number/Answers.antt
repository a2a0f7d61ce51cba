use Rattle.std.proofs.Common.{arith}
use Rattle.http_frames.proofs.Digits.{next_is_small}
use Rattle.http_frames.proofs.framing.number.Goals as goal

pub overflow_mul-number : goal.overflow_mul-number
overflow_mul-number c =
    omega (arith, c.loop-left.invariant.same, next_is_small c.loop-left.number c.loop-left.left.now (omega (arith, c.in-len1-up.len_at_least)))

pub overflow_add-number : goal.overflow_add-number
overflow_add-number c =
    omega (arith, c.loop-left.invariant.same, next_is_small c.loop-left.number c.loop-left.left.now (omega (arith, c.in-len1-up.len_at_least)))
