use Rattle.std.proofs.Common.{◌≡◌, ◌+◌, length, encode_utf8_all}
use Rattle.store_fields.proofs.writing.utf8_length.Given as goal

abbrev pub invariant-loop-chars : goal.invariant-loop-chars
invariant-loop-chars l = l.length + length (encode_utf8_all l.chars) ≡ length (encode_utf8_all l.text)

abbrev pub decreases-loop-chars : goal.decreases-loop-chars
decreases-loop-chars l = length l.chars
