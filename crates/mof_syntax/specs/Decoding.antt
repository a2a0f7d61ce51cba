-- What the steps of `decode_text` say of the bytes after the mark.
use Rattle.std.specs.Prelude.{◌≡◌, ℕ, ◌+◌, ◌<◌, true, List, ◌++◌, length, take, drop, ⊤}
use Rattle.std.specs.Char.{IsScalar}
use Rattle.std.specs.Str.{all_scalars}
use Rattle.mof_syntax.specs.declared.encoding.Encoding.{Encoding}
use Rattle.mof_syntax.specs.declared.encoding.Encoding.TheVariants.{Utf8, Utf8Marked, Utf16}
use Rattle.mof_syntax.specs.declared.text_error.TextError.{TextError}
use Rattle.mof_syntax.specs.declared.text_error.TextError.TheVariants.{TextFault, Memory}
use Rattle.mof_syntax.specs.Encodings.{char_bytes, body_bytes, StartsNoChar}

-- the body is these characters
pub record IsBody (encoding : Encoding) (body chars : List ℕ) : Type 0 where
  pub scalars : all_scalars chars ≡ true
  pub spelled : body ≡ body_bytes encoding chars

-- the first `at` bytes of the body are characters, and no character stands there
pub record IsBodyFault (encoding : Encoding) (body : List ℕ) (at : ℕ) : Type 0 where
  pub before : List ℕ
  pub is : IsBody encoding (take at body) before
  pub within : at < length body
  pub no_char : StartsNoChar encoding (drop at body)

abbrev pub IsUtf16 : Encoding → Type 0
IsUtf16 Utf8 = ⊥
IsUtf16 Utf8Marked = ⊥
IsUtf16 (Utf16 order) = ⊤

-- the body after `marked` bytes is refused so. Out of memory has no cause, and comes only to UTF-16
abbrev pub RefusesBody : Encoding → List ℕ → ℕ → TextError → Type 0
RefusesBody encoding body marked (TextFault at) = (n : ℕ) × (at ≡ marked + n) × IsBodyFault encoding body n
RefusesBody encoding body marked Memory = IsUtf16 encoding

-- a character begins the bytes, and then the rest
pub record StartsChar (encoding : Encoding) (bytes : List ℕ) (c : ℕ) (rest : List ℕ) : Type 0 where
  pub scalar : IsScalar c
  pub spelled : bytes ≡ char_bytes encoding c ++ rest
