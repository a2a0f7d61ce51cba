-- The body of a Blob, and the Blobs with it.
use Rattle.std.proofs.Common.{◌≡◌, ℕ, Bor, Bool, true, false, not, Option, Some, None, is_some, List, [], ◌∷◌, ◌++◌, Ok, Err, sym, ap, ◌∙◌, subst, arith}
use Rattle.std.specs.Prelude.{◌≢◌, MatchOption}
use Rattle.sha2.specs.Sha256.{sha256}
use Rattle.sha2.proofs.Facts256.{length-sha256}
use Rattle.store_fields.specs.declared.error.FieldError.{FieldError}
use Rattle.store_fields.specs.declared.error.FieldError.TheVariants.{Wrong}
use Rattle.store_fields.specs.Fields.{bytes_of_digest, IsBlob, IsDigest}
use Rattle.store_fields.specs.Reading.{Reads}
use Rattle.node_store.specs.declared.blob.Blob.{Blob}
use Rattle.node_store.specs.Digests.{AddsBlob, Blobs, IsAmong, blob_body, kind_of}
use Rattle.node_store.specs.Resolving.{after_kind}
use Rattle.node_store.proofs.Resolved.{by_kind}
use Rattle.node_store.proofs.Wholes.{no_front}

module _ (blobs : Blobs) (body : List ℕ) where
  -- no digest stands in it
  pub no_digest : (end : List ℕ) (e : FieldError) → e ≡ Wrong → Reads bytes_of_digest IsDigest (after_kind body) end (Err e) → (gathered : Blobs) → AddsBlob blobs body gathered → ⊥
  no_digest end e same reads gathered b =
      no_front bytes_of_digest IsDigest (after_kind body) end e (sha256 b.bytes) b.bytes same reads (length-sha256 b.bytes) (ap (λ (l : List ℕ). after_kind l) b.is)

  module _ (named rest : List ℕ) (reads : Reads bytes_of_digest IsDigest (after_kind body) rest (Ok named)) where
    read_as : (bytes : List ℕ) → body ≡ blob_body bytes → (named ≡ sha256 bytes) × (rest ≡ bytes)
    read_as bytes is = reads.only (sha256 bytes) bytes (length-sha256 bytes) (ap (λ (l : List ℕ). after_kind l) is)

    pub too_long : (IsBlob rest → ⊥) → (gathered : Blobs) → AddsBlob blobs body gathered → ⊥
    too_long long gathered b = long (subst (λ (l : List ℕ). IsBlob l) (sym (read_as b.bytes b.is).1) b.range)

    pub other_digest : (sha256 rest ≡ named → ⊥) → (gathered : Blobs) → AddsBlob blobs body gathered → ⊥
    other_digest other gathered b = let both = read_as b.bytes b.is in other (ap sha256 both.1 ∙ sym both.0)

    pub found_before : (other : List ℕ) → IsAmong blobs other → named ≡ sha256 other → (gathered : Blobs) → AddsBlob blobs body gathered → ⊥
    found_before other among same gathered b = b.new other among (sym same ∙ (read_as b.bytes b.is).0)

    pub added : kind_of body ≡ 16 → sha256 rest ≡ named → IsBlob rest → ((bytes : List ℕ) → IsAmong blobs bytes → sha256 bytes ≢ named) → (after : Blobs) → after ≡ blobs ++ rest ∷ [] → AddsBlob blobs body after
    added kind digest small none after is = record {
      bytes = rest;
      is = by_kind body 16 kind (omega arith) ∙ ap (λ (l : List ℕ). 16 ∷ l) (reads.found.1 ∙ ap (λ (l : List ℕ). l ++ rest) (sym digest));
      range = small;
      new = λ other among same. none other among (same ∙ digest);
      adds = is;
    }

    -- a search for its digest found one
    pub found_some : (found : Option (Bor Blob)) → is_some found ≡ true
        → MatchOption found ((bytes : List ℕ) → IsAmong blobs bytes → sha256 bytes ≢ named) (λ x. IsAmong blobs x.now.bytes × (named ≡ sha256 x.now.bytes) × IsBlob x.now.bytes)
        → (gathered : Blobs) → AddsBlob blobs body gathered → ⊥
    found_some None some found = absurd (cc some)
    found_some (Some x) some found = found_before x.now.bytes found.0 found.1

pub not_unequal : (equal unequal : Bool) → unequal ≡ not equal → unequal ≡ true → equal ≡ true → ⊥
not_unequal equal unequal is differs same = let none : false ≡ true = sym (is ∙ ap not same) ∙ differs in cc none
