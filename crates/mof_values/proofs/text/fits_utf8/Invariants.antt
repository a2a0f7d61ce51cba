use Rattle.std.proofs.Common.{◌≡◌, ◌+◌, length, encode_utf8_all}
use Rattle.mof_values.proofs.text.fits_utf8.Given as goal

abbrev pub invariant-loop-rest : goal.invariant-loop-rest
invariant-loop-rest l = l.left + length (encode_utf8_all l.chars) ≡ l.limit + length (encode_utf8_all l.rest)

abbrev pub decreases-loop-rest : goal.decreases-loop-rest
decreases-loop-rest l = length l.rest
