-- The bytes of the fields that stored bodies are made of.
use Rattle.std.specs.Prelude.{◌≡◌, ℕ, ◌<◌, ◌≤◌, ◌^◌, ◌++◌, Bool, if◌then◌else◌, true, List, [], ◌∷◌, length, encode_utf8_all, ⊤}
use Rattle.std.specs.Int.{Width, w16, w32, byte_len, to_be_bytes}
use Rattle.std.specs.List.{flat_map, AllByRecursion}
use Rattle.std.specs.Str.{all_scalars}

-- a number, the greatest byte first
unfoldable pub bytes_of_number : Width → ℕ → List ℕ
bytes_of_number w n = to_be_bytes w n

-- a byte: a count, or a kind
abbrev pub bytes_of_byte : ℕ → List ℕ
bytes_of_byte n = n ∷ []

-- a truth value
abbrev pub bytes_of_flag : Bool → List ℕ
bytes_of_flag b = (if b then 1 else 0) ∷ []

-- a text: two bytes of length, and its characters in UTF-8
abbrev pub bytes_of_text : List ℕ → List ℕ
bytes_of_text text = bytes_of_number w16 (length (encode_utf8_all text)) ++ encode_utf8_all text

-- bytes: four bytes of length, and the bytes
abbrev pub bytes_of_blob : List ℕ → List ℕ
bytes_of_blob bytes = bytes_of_number w32 (length bytes) ++ bytes

-- a digest: its bytes
abbrev pub bytes_of_digest : List ℕ → List ℕ
bytes_of_digest digest = digest

-- a list: a count byte, and the bytes of each element
abbrev pub bytes_of_list : {X : Type 0} → (X → List ℕ) → List X → List ℕ
bytes_of_list bytes_of xs = bytes_of_byte (length xs) ++ flat_map bytes_of xs

-- ---- the values that have such bytes

abbrev pub IsNumber : Width → ℕ → Type 0
IsNumber w n = n < 256 ^ byte_len w

abbrev pub IsByte : ℕ → Type 0
IsByte n = n < 256

abbrev pub IsFlag : Bool → Type 0
IsFlag b = ⊤

-- characters, of at most that many bytes in UTF-8
pub record IsText (limit : ℕ) (text : List ℕ) : Type 0 where
  pub scalars : all_scalars text ≡ true
  pub fits : length (encode_utf8_all text) ≤ limit

abbrev pub IsBlob : List ℕ → Type 0
IsBlob bytes = length bytes < 2 ^ 32

abbrev pub IsDigest : List ℕ → Type 0
IsDigest digest = length digest ≡ 32

abbrev pub IsList : {X : Type 0} → (X → Type 0) → List X → Type 0
IsList IsInRange xs = IsByte (length xs) × AllByRecursion IsInRange xs
