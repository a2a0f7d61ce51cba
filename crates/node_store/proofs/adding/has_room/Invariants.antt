use Rattle.std.proofs.Common.{◌≡◌, ◌+◌, length, map}
use Rattle.gate_log.specs.Text.{cells}
use Rattle.node_store.specs.Digests.{blob_body}
use Rattle.node_store.specs.Growing.{bodies_of_format, bytes_in}
use Rattle.node_store.proofs.adding.has_room.Given as goal

abbrev pub invariant-loop-left : goal.invariant-loop-left
invariant-loop-left l = l.need + length (cells (map blob_body (bytes_in l.left))) ≡ length (cells (bodies_of_format l.empty)) + l.last + length (cells (map blob_body (bytes_in l.blobs)))

abbrev pub decreases-loop-left : goal.decreases-loop-left
decreases-loop-left l = length l.left
