use Rattle.mof_codec.proofs.Writing.{adds_integer}
use Rattle.mof_codec.proofs.writer.scalars.push_integer.Goals as goal

pub returns : goal.returns
returns c = adds_integer _ _ c.args.value c.ranges.value c.in_ok-write.ensures.bytes
