-- The characters at the front of bytes; for private clauses.
use Rattle.std.specs.Prelude.{◌≡◌, ◌≤◌, ℕ, List, ◌++◌, length, true}
use Rattle.std.specs.Str.{all_scalars, encode_utf8_all}

-- the characters of the longest front that is UTF-8
pub record IsDecoded (bytes chars : List ℕ) : Type 0 where
  pub rest : List ℕ
  pub split : bytes ≡ encode_utf8_all chars ++ rest
  pub scalars : all_scalars chars ≡ true
  pub longest : (more left : List ℕ) → bytes ≡ encode_utf8_all more ++ left → all_scalars more ≡ true → length (encode_utf8_all more) ≤ length (encode_utf8_all chars)
