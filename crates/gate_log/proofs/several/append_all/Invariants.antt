use Rattle.std.proofs.Common.{◌≤◌, length}
use Rattle.std.specs.Prelude.{vec_capacity}
use Rattle.gate_log.proofs.OneByOne.{AddedSoFar}
use Rattle.gate_log.proofs.several.append_all.Given as goal

abbrev pub invariant-loop-log : goal.invariant-loop-log
invariant-loop-log g l = record {
  so_far : AddedSoFar g.D.Disk l.fn.disk l.disk l.fn.log l.log (g.S.Spelling.rest l.fn.bodies) (g.S.Spelling.rest l.bodies);
  ready : g.S.Spelling.ready l.bodies;
  capacity : g.S.Spelling.capacity ≤ vec_capacity l.buffer;
  grown : vec_capacity l.fn.buffer ≤ vec_capacity l.buffer;
}

abbrev pub decreases-loop-log : goal.decreases-loop-log
decreases-loop-log g l = length (g.S.Spelling.rest l.bodies)
