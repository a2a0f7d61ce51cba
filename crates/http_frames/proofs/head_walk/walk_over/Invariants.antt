use Rattle.std.proofs.Common.{◌≡◌, length, drop}
use Rattle.http_frames.specs.HeadWalks.{IsWalkedHead}
use Rattle.http_frames.proofs.head_walk.walk_over.Given as goal

abbrev pub invariant-loop-left : goal.invariant-loop-left
invariant-loop-left l = record {
  walked : IsWalkedHead l.front l.walk;
  left_is : l.left ≡ drop l.walk.length l.front;
}

abbrev pub decreases-loop-left : goal.decreases-loop-left
decreases-loop-left l = length l.left
