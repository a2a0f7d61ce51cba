use Rattle.std.proofs.Common.{◌∷◌, ◌++◌, [], List, ℕ, length, subst}
use Rattle.store_fields.specs.Writing.{Writes}
use Rattle.store_fields.proofs.Appending.{both}
use Rattle.node_store.specs.Bodies.{bytes_of_stage}
use Rattle.node_store.specs.Growing.{marks_of}
use Rattle.node_store.proofs.ByDigests.{slot_is}
use Rattle.node_store.proofs.Lengths.{staged_fit}
use Rattle.node_store.proofs.by_digests.put_slot_by_digests.Goals as goal

pub put_marks-requires : goal.put_marks-requires
put_marks-requires c = staged_fit c.args.parts.now c.requires

pub returns : goal.returns
returns c =
    let parts = c.args.parts.now in
    let stage = bytes_of_stage c.args.stage in
    let many = length parts ∷ [] in
    record {
      writes = subst (λ (bytes : List ℕ). Writes bytes c.args.into.now c.put_marks.new.into c.put_marks.result) (slot_is c.args.stage parts)
          (both (18 ∷ []) (stage ++ (many ++ marks_of parts)) _ _ _ _ c.in_ok-put_byte.ensures
          (both stage (many ++ marks_of parts) _ _ _ _ c.in_ok-put_stage_byte.ensures
          (both many (marks_of parts) _ _ _ _ c.in_ok-put_byte-2.ensures c.put_marks.ensures.writes)));
    }
