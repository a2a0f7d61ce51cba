-- The encodings of a text as bytes (UTF-8: RFC 3629; UTF-16: RFC 2781; the byte order mark: Unicode, section 23.8).
use Rattle.std.specs.Prelude.{◌≡◌, ◌≢◌, ℕ, ◌/◌, ◌%◌, ◌<◌, true, List, [], ◌∷◌, ◌++◌, length, take, drop, nat_eq, if◌then◌else◌, encode_utf8, ⊤}
use Rattle.std.specs.List.{flat_map, starts_with}
use Rattle.std.specs.Char.{IsScalar}
use Rattle.std.specs.Char.Escape.{encode_utf16}
use Rattle.std.specs.Str.{all_scalars}
use Rattle.mof_syntax.specs.declared.text_error.TextError.{TextError}
use Rattle.mof_syntax.specs.declared.text_error.TextError.TheVariants.{TextFault, Memory}
use Rattle.mof_syntax.specs.declared.encoding.Encoding.{Encoding}
use Rattle.mof_syntax.specs.declared.encoding.Encoding.TheVariants.{Utf8, Utf8Marked, Utf16}
use Rattle.mof_syntax.specs.declared.encoding.ByteOrder.{ByteOrder}
use Rattle.mof_syntax.specs.declared.encoding.ByteOrder.TheVariants.{LittleEndian, BigEndian}

-- the bytes at the front that name the encoding. They are no character of the text; a U+FEFF after them is one
abbrev pub mark_of : Encoding → List ℕ
mark_of Utf8 = []
mark_of Utf8Marked = 0xEF ∷ 0xBB ∷ 0xBF ∷ []
mark_of (Utf16 LittleEndian) = 0xFF ∷ 0xFE ∷ []
mark_of (Utf16 BigEndian) = 0xFE ∷ 0xFF ∷ []

-- the encoding that the mark at the front of the bytes names, and without one UTF-8
abbrev pub encoding_of : List ℕ → Encoding
encoding_of bytes =
    if starts_with nat_eq bytes (mark_of Utf8Marked) then Utf8Marked
    else if starts_with nat_eq bytes (mark_of (Utf16 LittleEndian)) then Utf16 LittleEndian
    else if starts_with nat_eq bytes (mark_of (Utf16 BigEndian)) then Utf16 BigEndian
    else Utf8

-- the two bytes of a unit of UTF-16
abbrev pub unit_bytes : ByteOrder → ℕ → List ℕ
unit_bytes LittleEndian unit = unit % 256 ∷ unit / 256 ∷ []
unit_bytes BigEndian unit = unit / 256 ∷ unit % 256 ∷ []

-- the bytes of a character
abbrev pub char_bytes : Encoding → ℕ → List ℕ
char_bytes Utf8 c = encode_utf8 c
char_bytes Utf8Marked c = encode_utf8 c
char_bytes (Utf16 order) c = flat_map (unit_bytes order) (encode_utf16 c)

-- the bytes of characters
abbrev pub body_bytes : Encoding → List ℕ → List ℕ
body_bytes encoding chars = flat_map (char_bytes encoding) chars

-- the mark, and the bytes of characters
abbrev pub encoded : Encoding → List ℕ → List ℕ
encoded encoding chars = mark_of encoding ++ body_bytes encoding chars

-- the bytes are these characters, in the encoding that their mark names
pub record Chars (bytes chars : List ℕ) : Type 0 where
  pub scalars : all_scalars chars ≡ true
  pub spelled : bytes ≡ encoded (encoding_of bytes) chars

-- the bytes are no characters
abbrev pub AreNoChars : List ℕ → Type 0
AreNoChars bytes = (chars : List ℕ) → Chars bytes chars → ⊥

-- no character begins the bytes
abbrev pub StartsNoChar : Encoding → List ℕ → Type 0
StartsNoChar encoding bytes = (c : ℕ) (rest : List ℕ) → IsScalar c → bytes ≢ char_bytes encoding c ++ rest

-- the bytes before `at` are the mark and some characters, and no character stands at `at`
pub record IsTextFault (bytes : List ℕ) (at : ℕ) : Type 0 where
  pub before : List ℕ
  pub scalars : all_scalars before ≡ true
  pub spelled : take at bytes ≡ encoded (encoding_of bytes) before
  pub within : at < length bytes
  pub no_char : StartsNoChar (encoding_of bytes) (drop at bytes)

-- the bytes begin with a mark of UTF-16
abbrev pub HasUtf16Mark : List ℕ → Type 0
HasUtf16Mark bytes = (order : ByteOrder) × (rest : List ℕ) × (bytes ≡ mark_of (Utf16 order) ++ rest)

-- the text is the bytes after their mark
abbrev pub IsRestOf : List ℕ → List ℕ → Type 0
IsRestOf bytes text = bytes ≡ mark_of (encoding_of bytes) ++ text

-- the bytes are refused so. Out of memory has no cause here
abbrev pub RefusesBytes : List ℕ → TextError → Type 0
RefusesBytes bytes (TextFault at) = IsTextFault bytes at
RefusesBytes bytes Memory = ⊤
