-- A part is what stands before its document, and that.
use Rattle.std.proofs.Common.{◌≡◌, ℕ, List, ◌++◌, length, ◌∙◌, ap, append_assoc}
use Rattle.std.specs.Int.{w32}
use Rattle.store_fields.specs.Fields.{bytes_of_number, bytes_of_text, bytes_of_digest}
use Rattle.partial_merge.specs.declared.part.Part.{Part}
use Rattle.node_store.specs.Split.{front_of_part}
use Rattle.node_store.specs.Parts.{bytes_of_part}

pub part_whole : (part : Part) → front_of_part part ++ part.bytes ≡ bytes_of_part part
part_whole part =
    let name = bytes_of_text part.name in
    let digest = bytes_of_digest part.digest in
    let size = bytes_of_number w32 (length part.bytes) in
    append_assoc name (digest ++ size) part.bytes ∙ ap (λ (l : List ℕ). name ++ l) (append_assoc digest size part.bytes)
