use Rattle.std.proofs.Common.{subst}
use Rattle.mof_syntax.specs.Refusals.{ReadsNothing}
use Rattle.staged_text.proofs.parts.text_of_part.Goals as goal

pub memory_of-requires : goal.memory_of-requires
memory_of-requires c = λ caused. c.requires (subst ReadsNothing c.as_slice.ensures (c.in-Err.ensures.only caused))
