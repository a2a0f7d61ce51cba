use Rattle.std.proofs.Common.{◌≡◌, length}
use Rattle.http_frames.specs.Lines.{skip_lines}
use Rattle.http_frames.proofs.head.skip_lines.Given as goal

abbrev pub invariant-loop-count : goal.invariant-loop-count
invariant-loop-count l = skip_lines l.count l.left ≡ skip_lines l.initial.count l.bytes

abbrev pub decreases-loop-count : goal.decreases-loop-count
decreases-loop-count l = length l.left
