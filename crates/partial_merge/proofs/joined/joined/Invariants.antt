use Rattle.std.proofs.Common.{◌<◌}
use Rattle.partial_merge.proofs.Joining.{AreFirst}
use Rattle.partial_merge.proofs.joined.joined.Given as goal

abbrev pub invariant-loop-place : goal.invariant-loop-place
invariant-loop-place l = record {
  some : 0 < l.place;
  first : AreFirst l.parts l.place l.whole;
}
