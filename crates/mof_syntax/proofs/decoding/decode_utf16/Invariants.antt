use Rattle.std.proofs.Common.{length}
use Rattle.std.specs.Prelude.{string_bytes}
use Rattle.std.specs.Str.{chars}
use Rattle.mof_syntax.proofs.Bodies.{ReadsBody}
use Rattle.mof_syntax.proofs.decoding.decode_utf16.Given as goal

abbrev pub invariant-loop-left : goal.invariant-loop-left
invariant-loop-left l = ReadsBody l.order l.body (chars (string_bytes l.text)) l.left

abbrev pub decreases-loop-left : goal.decreases-loop-left
decreases-loop-left l = length l.left
