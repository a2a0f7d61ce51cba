-- A list of Blobs is searched for a digest.
use Rattle.std.proofs.Common.{◌≡◌, inl, inr, ℕ, List, [], ◌∷◌, refl, sym, ◌∙◌, ap, subst}
use Rattle.std.specs.Prelude.{◌≢◌}
use Rattle.sha2.specs.Sha256.{sha256}
use Rattle.store_fields.specs.Fields.{IsBlob}
use Rattle.node_store.specs.declared.blob.Blob.{Blob}
use Rattle.node_store.specs.Digests.{IsAmong}
use Rattle.node_store.specs.Growing.{bytes_in}

-- what has the digest is among those that are left, and these are of the list
abbrev pub Narrows : List Blob → List ℕ → List Blob → Type 0
Narrows list digest left =
    ((bytes : List ℕ) → IsAmong (bytes_in list) bytes → sha256 bytes ≡ digest → IsAmong (bytes_in left) bytes)
    × ((bytes : List ℕ) → IsAmong (bytes_in left) bytes → IsAmong (bytes_in list) bytes)

module _ (list left : List Blob) (digest : List ℕ) (narrows : Narrows list digest left) where
  module _ (blob : Blob) (rest : List Blob) (is : left ≡ blob ∷ rest) where
    among_rest : (blob.digest ≡ digest → ⊥) → (bytes : List ℕ) → sha256 bytes ≡ digest → IsAmong (bytes_in (blob ∷ rest)) bytes → IsAmong (bytes_in rest) bytes
    among_rest other bytes same (inl first) = absurd (other (blob.whole ∙ ap sha256 (sym first) ∙ same))
    among_rest other bytes same (inr more) = more

    pub narrows_on : (blob.digest ≡ digest → ⊥) → Narrows list digest rest
    narrows_on other = (
      λ bytes among same. among_rest other bytes same (subst (λ (l : List Blob). IsAmong (bytes_in l) bytes) is (narrows.0 bytes among same)),
      λ bytes among. narrows.1 bytes (subst (λ (l : List Blob). IsAmong (bytes_in l) bytes) (sym is) (inr among)),
    )

    pub narrows_found : blob.digest ≡ digest → IsAmong (bytes_in list) blob.bytes × (digest ≡ sha256 blob.bytes) × IsBlob blob.bytes
    narrows_found same = (
      narrows.1 blob.bytes (subst (λ (l : List Blob). IsAmong (bytes_in l) blob.bytes) (sym is) (inl refl)),
      sym same ∙ blob.whole,
      blob.small,
    )

  pub narrows_none : left ≡ [] → (bytes : List ℕ) → IsAmong (bytes_in list) bytes → sha256 bytes ≢ digest
  narrows_none is bytes among same = subst (λ (l : List Blob). IsAmong (bytes_in l) bytes) is (narrows.0 bytes among same)
