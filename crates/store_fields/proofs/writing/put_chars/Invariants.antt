use Rattle.std.proofs.Common.{length, encode_utf8_all}
use Rattle.store_fields.proofs.Appending.{WrittenSoFar}
use Rattle.store_fields.proofs.writing.put_chars.Given as goal

abbrev pub invariant-loop-left : goal.invariant-loop-left
invariant-loop-left l = WrittenSoFar (encode_utf8_all l.chars) (encode_utf8_all l.left) l.initial.into l.into

abbrev pub decreases-loop-left : goal.decreases-loop-left
decreases-loop-left l = length l.left
