use Rattle.std.proofs.Common.{◌≡◌, length}
use Rattle.http_frames.specs.Lines.{skip_breaks}
use Rattle.http_frames.proofs.head.skip_breaks.Given as goal

abbrev pub invariant-loop-left : goal.invariant-loop-left
invariant-loop-left l = skip_breaks l.left ≡ skip_breaks l.bytes

abbrev pub decreases-loop-left : goal.decreases-loop-left
decreases-loop-left l = length l.left
