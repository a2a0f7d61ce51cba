use Rattle.std.proofs.Common.{◌≡◌, ◌++◌, length, string_bytes, encode_utf8_all}
use Rattle.std.specs.List.{flat_map}
use Rattle.mof_syntax.specs.Canonical.{literal_char}
use Rattle.mof_codec.specs.Written.{AreChars}
use Rattle.mof_codec.proofs.writer.literals.push_literal_chars.Given as goal

abbrev pub invariant-loop-left : goal.invariant-loop-left
invariant-loop-left l = (string_bytes l.out ++ encode_utf8_all (flat_map literal_char l.left) ≡ string_bytes l.fn.out ++ encode_utf8_all (flat_map literal_char l.text))
    × (AreChars l.left → AreChars l.text)

abbrev pub decreases-loop-left : goal.decreases-loop-left
decreases-loop-left l = length l.left
