use Rattle.std.proofs.Common.{◌≤◌, length}
use Rattle.std.specs.Prelude.{vec_capacity}
use Rattle.gate_log.proofs.OneByOne.{AddedSoFar}
use Rattle.node_store.specs.Growing.{added_bodies, bytes_in}
use Rattle.node_store.proofs.AfterFormat.{left_bodies}
use Rattle.node_store.specs.declared.limits.TheConstants.{MAX_BODY}
use Rattle.node_store.proofs.adding.append_all.Given as goal

abbrev pub invariant-loop-left : goal.invariant-loop-left
invariant-loop-left g l = record {
  so_far : AddedSoFar g.D.Disk l.fn.disk l.disk l.fn.log l.log (added_bodies l.empty (bytes_in l.blobs) l.event) (left_bodies l.left l.event);
  capacity : MAX_BODY ≤ vec_capacity l.buffer;
}

abbrev pub decreases-loop-left : goal.decreases-loop-left
decreases-loop-left g l = length l.left
