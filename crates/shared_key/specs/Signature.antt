-- Signatures: HMAC with SHA-256 (RFC 2104), written in base64 (RFC 4648, section 4).
use Rattle.std.specs.Prelude.{ℕ, List, ◌∷◌, ◌++◌, Option, position, bytes_eq}
use Rattle.sha2.specs.Sha256.{sha256}
use Rattle.base64.specs.Engines.{standard}
use Rattle.base64.specs.GeneralPurpose.{encode_of}
use Rattle.shared_key.specs.Hmac.{hmac_of}

-- the bytes in base64, with padding
unfoldable pub base64_of : List ℕ → List ℕ
base64_of bytes = encode_of standard bytes

-- HMAC of a text under the key, in base64
abbrev pub code_of : List ℕ → List ℕ → List ℕ
code_of key text = base64_of (hmac_of key text)

-- what is signed: the body's digest in base64, a line feed and the date
abbrev pub signed_text : List ℕ → List ℕ → List ℕ
signed_text body date = base64_of (sha256 body) ++ 10 ∷ date

-- the signature of a body and a date under the key
unfoldable pub signature_of : List ℕ → List ℕ → List ℕ → List ℕ
signature_of key body date = code_of key (signed_text body date)

-- the place of the first key whose signature this is
abbrev pub first_signer : List (List ℕ) → List ℕ → List ℕ → List ℕ → Option ℕ
first_signer keys body date signature = position (λ key. bytes_eq (signature_of key body date) signature) keys
