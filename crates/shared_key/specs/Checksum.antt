-- Digests in base 16 (RFC 4648, section 8).
use Rattle.std.specs.Prelude.{◌≡◌, ℕ, List, length, Option}
use Rattle.std.specs.List.{AllPass}
use Rattle.std.specs.Result.{result_ok}
use Rattle.hex.specs.Hex.{encode_upper, decode_sized, is_hex_digit}

-- each byte as two hexadecimal digits, with letters in upper case
unfoldable pub checksum_of : List ℕ → List ℕ
checksum_of digest = encode_upper digest

-- 64 hexadecimal digits, with letters in either case
abbrev pub IsChecksum : List ℕ → Type 0
IsChecksum text = (length text ≡ 64) × AllPass is_hex_digit text

-- the digest of 32 bytes that a text spells
unfoldable pub spelled_digest : List ℕ → Option (List ℕ)
spelled_digest text = result_ok (decode_sized text 32)
