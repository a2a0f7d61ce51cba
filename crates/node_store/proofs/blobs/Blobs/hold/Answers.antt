use Rattle.std.proofs.Common.{◌≡◌, ◌∙◌, ◌++◌, List, length, ap, sym, subst}
use Rattle.std.proofs.lemmas.List.{length-map}
use Rattle.node_store.specs.declared.blob.Blob.{Blob}
use Rattle.node_store.specs.Digests.{Blobs}
use Rattle.node_store.proofs.Lacking.{cut_off}
use Rattle.node_store.proofs.blobs.Blobs.hold.Goals as goal

pub returns-in-Err : goal.returns-in-Err
returns-in-Err c =
    let old = c.args.self.now in
    let list : List Blob = c.as_slice-from.result.now in
    let many : length list ≡ length old = ap (λ (l : List Blob). length l) c.as_slice-from.ensures.value ∙ sym (length-map c.self.inside.list.items (λ (b : Blob). b.bytes)) ∙ ap (λ (l : Blobs). length l) c.self.view_is in
    cut_off c.self-2.inside.list.items c.truncate.new.self.items old (length list) many (subst (λ (l : Blobs). (more : Blobs) × (l ≡ old ++ more)) (sym c.self-2.view_is) c.in-Err.ensures) c.truncate.ensures.items
