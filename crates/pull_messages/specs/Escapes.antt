-- Percent-encoding (RFC 3986, section 2.1).
use Rattle.std.specs.Prelude.{◌≡◌, ◌≢◌, ◌⊎◌, ◌<◌, ◌≤◌, ℕ, ◌+◌, ◌*◌, List, [], ◌∷◌, ◌++◌, length, true, Option, Some, None, nat_lt, if◌then◌else◌}
use Rattle.std.specs.Char.{digit_value}
use Rattle.std.specs.Str.{all_scalars, encode_utf8_all}
use Rattle.pull_messages.specs.Spelling.{Spells}

-- the value of a hexadecimal digit, in either case
abbrev pub digit_of : ℕ → Option ℕ
digit_of c = if nat_lt (digit_value c) 16 then Some (digit_value c) else None

-- `%` and the two hexadecimal digits of the byte
abbrev pub IsEscape : ℕ → List ℕ → Type 0
IsEscape byte text =
    (high : ℕ) × (low : ℕ) × (a : ℕ) × (b : ℕ) × (text ≡ 37 ∷ high ∷ low ∷ []) × (digit_of high ≡ Some a) × (digit_of low ≡ Some b) × (byte ≡ a * 16 + b)

-- the byte as itself, unless it is `%`, or as an escape
abbrev pub IsWritten : ℕ → List ℕ → Type 0
IsWritten byte text = ((text ≡ byte ∷ []) × (byte ≢ 37)) ⊎ IsEscape byte text

-- the text is these characters in UTF-8, any of the bytes escaped
abbrev pub AreChars : List ℕ → List ℕ → Type 0
AreChars chars text = (all_scalars chars ≡ true) × Spells IsWritten (encode_utf8_all chars) text

-- ---- for private clauses

-- no byte is written at the front
abbrev pub HasNoByte : List ℕ → Type 0
HasNoByte text = (byte : ℕ) (front rest : List ℕ) → text ≡ front ++ rest → IsWritten byte front → ⊥

-- the bytes are written at the front of the text, and no other after them
pub record IsUnescaped (text bytes : List ℕ) : Type 0 where
  pub front : List ℕ
  pub rest : List ℕ
  pub split : text ≡ front ++ rest
  pub written : Spells IsWritten bytes front
  pub all : HasNoByte rest

-- that front of the text writes that many bytes, or all that the text has
pub record IsFrontOf (text : List ℕ) (count size : ℕ) : Type 0 where
  pub front : List ℕ
  pub rest : List ℕ
  pub bytes : List ℕ
  pub split : text ≡ front ++ rest
  pub size_is : length front ≡ size
  pub written : Spells IsWritten bytes front
  pub few : length bytes ≤ count
  pub all : length bytes < count → HasNoByte rest

-- the text is the two digits of the byte and that rest
abbrev pub IsEscapeOf : List ℕ → ℕ → List ℕ → Type 0
IsEscapeOf text byte rest =
    (high : ℕ) × (low : ℕ) × (a : ℕ) × (b : ℕ) × (text ≡ high ∷ low ∷ rest) × (digit_of high ≡ Some a) × (digit_of low ≡ Some b) × (byte ≡ a * 16 + b)
