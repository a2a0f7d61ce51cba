use Rattle.std.proofs.Common.{◌≡◌, ◌++◌, length}
use Rattle.std.specs.List.{flat_map}
use Rattle.http_frames.specs.Writing.{header_text}
use Rattle.http_frames.proofs.writing.push_headers.Given as goal

abbrev pub invariant-loop-left : goal.invariant-loop-left
invariant-loop-left l = l.out.items ++ flat_map header_text l.left ≡ l.initial.out.items ++ flat_map header_text l.headers

abbrev pub decreases-loop-left : goal.decreases-loop-left
decreases-loop-left l = length l.left
