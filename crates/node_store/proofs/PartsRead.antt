-- Which part stands in front of the bytes.
use Rattle.std.proofs.Common.{◌≡◌, ℕ, List, ◌++◌, Ok, Err, sym, ap, subst, ◌∙◌, arith, append_assoc}
use Rattle.sha2.specs.Sha256.{sha256}
use Rattle.partial_merge.specs.declared.part.Part.{Part}
use Rattle.partial_merge.proofs.SameParts.{part_same}
use Rattle.store_fields.specs.declared.error.FieldError.TheVariants.{Wrong}
use Rattle.store_fields.specs.Fields.{bytes_of_text, bytes_of_digest, bytes_of_blob, IsText, IsDigest, IsBlob}
use Rattle.store_fields.specs.Reading.{Reads, IsUnique}
use Rattle.store_fields.proofs.Numbers.{digest_unique}
use Rattle.store_fields.proofs.Texts.{text_unique, blob_unique}
use Rattle.store_fields.proofs.Composing.{taken, wrong}
use Rattle.node_store.specs.Parts.{bytes_of_part, IsPart}
use Rattle.store_fields.specs.declared.limits.TheConstants.{MAX_TEXT}

pub part_opened : (part : Part) (rest : List ℕ) → bytes_of_part part ++ rest ≡ bytes_of_text part.name ++ (bytes_of_digest part.digest ++ (bytes_of_blob part.bytes ++ rest))
part_opened part rest =
    append_assoc (bytes_of_text part.name) (bytes_of_digest part.digest ++ bytes_of_blob part.bytes) rest
    ∙ ap (λ (l : List ℕ). bytes_of_text part.name ++ l) (append_assoc (bytes_of_digest part.digest) (bytes_of_blob part.bytes) rest)

pub part_unique : IsUnique bytes_of_part IsPart
part_unique x y r s one other e =
    let name = text_unique MAX_TEXT (omega arith) x.name y.name _ _ one.0 other.0 (sym (part_opened x r) ∙ e ∙ part_opened y s) in
    let digest = digest_unique x.digest y.digest _ _ one.1 other.1 name.1 in
    let bytes = blob_unique x.bytes y.bytes r s one.2 other.2 digest.1 in
    (part_same x y name.0 digest.0 bytes.0, bytes.1)

module _ (before m1 m2 after name digest bytes : List ℕ) (first : Reads bytes_of_text (IsText MAX_TEXT) before m1 (Ok name)) (second : Reads bytes_of_digest IsDigest m1 m2 (Ok digest)) (last : Reads bytes_of_blob IsBlob m2 after (Ok bytes)) where
  pub part_taken : (part : Part) → part.name ≡ name → part.digest ≡ digest → part.bytes ≡ bytes → Reads bytes_of_part IsPart before after (Ok part)
  part_taken part n d b =
      taken bytes_of_part IsPart before after part part_unique
      (subst (IsText MAX_TEXT) (sym n) first.found.0, subst IsDigest (sym d) second.found.0, subst IsBlob (sym b) last.found.0)
      (first.found.1 ∙ ap (λ (l : List ℕ). bytes_of_text name ++ l) (second.found.1 ∙ ap (λ (l : List ℕ). bytes_of_digest digest ++ l) last.found.1)
      ∙ ap (λ (l : List ℕ). bytes_of_text l ++ (bytes_of_digest digest ++ (bytes_of_blob bytes ++ after))) (sym n)
      ∙ ap (λ (l : List ℕ). bytes_of_text part.name ++ (bytes_of_digest l ++ (bytes_of_blob bytes ++ after))) (sym d)
      ∙ ap (λ (l : List ℕ). bytes_of_text part.name ++ (bytes_of_digest part.digest ++ (bytes_of_blob l ++ after))) (sym b)
      ∙ sym (part_opened part after))

  pub part_not_whole : ((digest ≡ sha256 bytes) → ⊥) → Reads bytes_of_part IsPart before after (Err Wrong)
  part_not_whole other =
      wrong bytes_of_part IsPart before after (λ part rest range is.
      let at1 = first.only part.name _ range.0 (is ∙ part_opened part rest) in
      let at2 = second.only part.digest _ range.1 at1.1 in
      let at3 = last.only part.bytes rest range.2 at2.1 in
      other (at2.0 ∙ part.whole ∙ ap sha256 (sym at3.0)))
