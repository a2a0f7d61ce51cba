use Rattle.std.proofs.Common.{◌≡◌, ◌++◌, length, string_bytes, encode_utf8_all}
use Rattle.mof_codec.specs.Written.{AreChars}
use Rattle.mof_codec.proofs.writer.literals.push_chars.Given as goal

abbrev pub invariant-loop-left : goal.invariant-loop-left
invariant-loop-left l = (string_bytes l.out ++ encode_utf8_all l.left ≡ string_bytes l.fn.out ++ encode_utf8_all l.chars) × (AreChars l.left → AreChars l.chars)

abbrev pub decreases-loop-left : goal.decreases-loop-left
decreases-loop-left l = length l.left
