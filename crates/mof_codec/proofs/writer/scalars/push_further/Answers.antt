use Rattle.std.proofs.Common.{refl}
use Rattle.mof_codec.proofs.Writing.{adds_join, adds_ascii, written_next}
use Rattle.mof_codec.proofs.writer.scalars.push_further.Goals as goal

pub loop-left-preserved : goal.loop-left-preserved
loop-left-preserved c =
    written_next _ _ _ _ _ _ _ _ c.loop-left.invariant c.in-len1-up.len_at_least c.scalar-item.is
    (adds_join _ _ _ _ _ (adds_ascii _ _ _ refl c.in_ok-push_str.ensures.bytes) c.in_ok-push_scalar.ensures.text) c.in_ok-push_scalar.ensures.valid
