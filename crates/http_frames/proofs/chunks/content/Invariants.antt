use Rattle.std.proofs.Common.{◌≡◌, ◌≤◌, ◌++◌, length, IsTrue}
use Rattle.http_frames.specs.Walks.{can_fit, content_over, start}
use Rattle.http_frames.proofs.chunks.content.Given as goal

abbrev pub invariant-loop-left : goal.invariant-loop-left
invariant-loop-left l = record {
  same : l.content.items ++ content_over l.limits l.front l.walk l.left ≡ content_over l.limits l.front start l.body;
  fits : IsTrue (can_fit l.limits l.walk);
  line : l.walk.line ≤ l.walk.length;
}

abbrev pub decreases-loop-left : goal.decreases-loop-left
decreases-loop-left l = length l.left
