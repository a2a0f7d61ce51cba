use Rattle.std.proofs.Common.{◌≡◌, ◌+◌, length}
use Rattle.std.specs.Prelude.{encode_utf8_all}
use Rattle.pull_messages.proofs.targets.encoded_size.Given as goal

abbrev pub invariant-loop-left : goal.invariant-loop-left
invariant-loop-left l = l.size + length (encode_utf8_all l.left) ≡ length (encode_utf8_all l.chars)

abbrev pub decreases-loop-left : goal.decreases-loop-left
decreases-loop-left l = length l.left
