use Rattle.std.proofs.Common.{length}
use Rattle.std.specs.List.{AllByRecursion}
use Rattle.store_fields.specs.Fields.{IsBlob}
use Rattle.node_store.specs.Digests.{texts_of}
use Rattle.node_store.proofs.Lacking.{TextsSoFar}
use Rattle.node_store.proofs.blobs.Blobs.add_texts.Given as goal

abbrev pub invariant-loop-left : goal.invariant-loop-left
invariant-loop-left l = record {
  so_far : TextsSoFar l.initial.self l.self (texts_of l.parts) (texts_of l.left) l.apart;
  small : AllByRecursion (λ part. IsBlob part.bytes) l.left;
}

abbrev pub decreases-loop-left : goal.decreases-loop-left
decreases-loop-left l = length l.left
