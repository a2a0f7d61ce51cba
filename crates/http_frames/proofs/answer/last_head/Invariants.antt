use Rattle.std.proofs.Common.{◌≤◌, ◌-◌, length, drop}
use Rattle.http_frames.specs.Answering.{Passes}
use Rattle.http_frames.proofs.answer.last_head.Given as goal

abbrev pub invariant-heads : goal.invariant-heads
invariant-heads l = record {
  fits : l.at ≤ length l.bytes;
  passes : Passes l.bytes (drop l.at l.bytes);
}

abbrev pub decreases-heads : goal.decreases-heads
decreases-heads l = length l.bytes - l.at
