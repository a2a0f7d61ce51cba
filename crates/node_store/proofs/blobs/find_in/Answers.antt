use Rattle.std.proofs.Common.{◌≡◌, ◌-◌, ◌∷◌, ◌∙◌, List, take, drop, length}
use Rattle.std.proofs.lemmas.Slice.Eq.{bytes_eq-Decides}
use Rattle.node_store.specs.declared.blob.Blob.{Blob}
use Rattle.node_store.proofs.HeldLists.{left_is}
use Rattle.node_store.proofs.Reported.{never}
use Rattle.node_store.proofs.Searched.{narrows_on}
use Rattle.node_store.proofs.blobs.find_in.Goals as goal

pub loop-left-preserved : goal.loop-left-preserved
loop-left-preserved c =
    let left : List Blob = c.loop-left.left.now in
    let blob : Blob = c.blob-item.result in
    let rest : List Blob = take (length left - 1) (drop 1 left) in
    let is : left ≡ blob ∷ rest = left_is left blob c.in-len1-up.len_at_least c.blob-item.is in
    narrows_on c.args.list.now left c.args.digest.now c.loop-left.invariant blob rest is (λ same. never c.eq.result (c.eq.ensures ∙ (bytes_eq-Decides blob.digest c.args.digest.now).1 same) c.if-eq.false)
