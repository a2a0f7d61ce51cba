use Rattle.std.proofs.Common.{◌≡◌, ◌≤◌, length, IsTrue}
use Rattle.http_frames.specs.Walks.{can_fit, walk_over}
use Rattle.http_frames.proofs.chunks.walk_over.Given as goal

abbrev pub invariant-loop-left : goal.invariant-loop-left
invariant-loop-left l = record {
  same : walk_over l.limits l.front l.walk l.left ≡ walk_over l.limits l.front l.initial.walk l.bytes;
  fits : IsTrue (can_fit l.limits l.walk);
  line : l.walk.line ≤ l.walk.length;
}

abbrev pub decreases-loop-left : goal.decreases-loop-left
decreases-loop-left l = length l.left
