-- Checksums as texts.
use Rattle.std.proofs.Common.{◌≡◌, ℕ, List, refl}
use Rattle.hex.specs.Hex.{encode_upper}
use Rattle.shared_key.specs.Checksum.{checksum_of}

-- a checksum is its digest in hexadecimal digits
pub checksum_is : (digest : List ℕ) → encode_upper digest ≡ checksum_of digest
unfolding checksum_of
checksum_is digest = refl
