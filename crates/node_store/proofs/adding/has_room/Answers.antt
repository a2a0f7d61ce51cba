use Rattle.std.proofs.Common.{◌≡◌, ◌-◌, ◌∷◌, List, take, drop, length, map, ap, arith}
use Rattle.gate_log.specs.Text.{cells}
use Rattle.node_store.specs.declared.blob.Blob.{Blob}
use Rattle.node_store.specs.Digests.{blob_body}
use Rattle.node_store.specs.Growing.{bytes_in}
use Rattle.node_store.proofs.AddedByDigests.{blob_cell}
use Rattle.node_store.proofs.HeldLists.{left_is}
use Rattle.node_store.proofs.adding.has_room.Goals as goal

pub loop-left-preserved : goal.loop-left-preserved
loop-left-preserved c =
    let left : List Blob = c.loop-left.left.now in
    let blob : Blob = c.blob-item.result in
    let rest : List Blob = take (length left - 1) (drop 1 left) in
    let is : left ≡ blob ∷ rest = left_is left blob c.in-len1-up.len_at_least c.blob-item.is in
    omega (
      arith,
      c.loop-left.invariant,
      ap (λ (l : List Blob). length (cells (map blob_body (bytes_in l)))) is,
      blob_cell blob.bytes (map blob_body (bytes_in rest)),
      ap length c.as_slice.ensures,
    )
