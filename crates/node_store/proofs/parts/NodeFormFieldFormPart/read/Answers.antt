use Rattle.std.proofs.Common.{◌∙◌, sym, ap}
use Rattle.std.proofs.lemmas.Slice.Eq.{bytes_eq-Decides}
use Rattle.sha2.specs.Sha256.{sha256}
use Rattle.node_store.proofs.Reported.{never}
use Rattle.store_fields.specs.Fields.{bytes_of_digest, bytes_of_blob, IsDigest, IsBlob}
use Rattle.store_fields.proofs.Composing.{exit}
use Rattle.node_store.specs.Parts.{bytes_of_part, IsPart}
use Rattle.node_store.proofs.PartsRead.{part_opened, part_taken, part_not_whole}
use Rattle.node_store.proofs.parts.NodeFormFieldFormPart.read.Goals as goal

pub returns-in_err-digest : goal.returns-in_err-digest
returns-in_err-digest c =
    exit bytes_of_part IsPart bytes_of_digest IsDigest _ _ _ _ _ _ c.from_residual-in_err-digest.ensures.1 c.in_err-digest.ensures.reads (λ part rest range is.
    let name = c.in_ok-name.ensures.reads.only part.name _ range.0 (is ∙ part_opened part rest) in
    (part.digest, (_, (range.1, name.1))))

pub returns-in_err-bytes : goal.returns-in_err-bytes
returns-in_err-bytes c =
    exit bytes_of_part IsPart bytes_of_blob IsBlob _ _ _ _ _ _ c.from_residual-in_err-bytes.ensures.1 c.in_err-bytes.ensures.reads (λ part rest range is.
    let name = c.in_ok-name.ensures.reads.only part.name _ range.0 (is ∙ part_opened part rest) in
    let digest = c.in_ok-digest.ensures.reads.only part.digest _ range.1 name.1 in
    (part.bytes, (rest, (range.2, digest.1))))

pub returns-then-eq : goal.returns-then-eq
returns-then-eq c =
    let bytes = c.in_ok-part.ensures.bytes in
    part_taken _ _ _ _ _ _ _ c.in_ok-name.ensures.reads c.in_ok-digest.ensures.reads c.in_ok-bytes.ensures.reads c.in_ok-part.part c.in_ok-part.ensures.name ((bytes_eq-Decides c.in_ok-part.part.digest c.in_ok-digest.digest).0 (sym c.eq.ensures ∙ c.if-eq.true)) bytes

pub returns-else-eq : goal.returns-else-eq
returns-else-eq c =
    let bytes = c.in_ok-part.ensures.bytes in
    part_not_whole _ _ _ _ _ _ _ c.in_ok-name.ensures.reads c.in_ok-digest.ensures.reads c.in_ok-bytes.ensures.reads (λ whole. never c.eq.result (c.eq.ensures ∙ (bytes_eq-Decides c.in_ok-part.part.digest c.in_ok-digest.digest).1 (c.in_ok-part.part.whole ∙ ap sha256 bytes ∙ sym whole)) c.if-eq.false)
