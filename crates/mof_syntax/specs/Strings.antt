-- String literals and their escapes (DSP0004, "String constants").
use Rattle.std.specs.Prelude.{◌≡◌, ℕ, suc, ◌+◌, ◌*◌, Bool, true, false, ◌&&◌, nat_le, ◌==◌, if◌then◌else◌, List, [], ◌∷◌, Option, Some, None}
use Rattle.std.specs.Char.{digit_value}
use Rattle.mof_syntax.specs.Characters.{quote, backslash, is_x, digit_of, Stops}

-- what the escape of one character stands for: \b \t \n \f \r \" \' \\. They are in lower case alone: \B does not exist
abbrev pub short_escape : ℕ → Option ℕ
short_escape c =
    if c == 98 then Some 8
    else if c == 116 then Some 9
    else if c == 110 then Some 10
    else if c == 102 then Some 12
    else if c == 114 then Some 13
    else if c == 34 then Some 34
    else if c == 39 then Some 39
    else if c == 92 then Some 92
    else None

-- U+D800 to U+DFFF (Unicode, surrogates). No escape stands for one, in this profile; `\xD8` and `\xD80` still are escapes, so it
-- is the fourth digit of `\xD800` that cannot stand there
abbrev pub is_surrogate : ℕ → Bool
is_surrogate v = nat_le 0xD800 v && nat_le v 0xDFFF

-- at most `count` more hexadecimal digits, as many as there are: the value of those before, the characters, the value with
-- these, and the rest
pub data HexDigits : ℕ → ℕ → List ℕ → ℕ → List ℕ → Type 0 where
  full : (value : ℕ) (rest : List ℕ) → HexDigits 0 value rest value rest
  ended : (count value : ℕ) (rest : List ℕ) → Stops (digit_of 16) rest → HexDigits count value rest value rest
  digit : (count value d total : ℕ) (cs rest : List ℕ) → digit_of 16 d ≡ true
      → HexDigits count (value * 16 + digit_value d) cs total rest → HexDigits (suc count) value (d ∷ cs) total rest

-- the characters after a backslash, what they stand for, and the rest; the x is in either case
pub data Escape : List ℕ → ℕ → List ℕ → Type 0 where
  short : (e value : ℕ) (rest : List ℕ) → short_escape e ≡ Some value → Escape (e ∷ rest) value rest
  hexadecimal : (x d value : ℕ) (cs rest : List ℕ) → is_x x ≡ true → digit_of 16 d ≡ true
      → HexDigits 3 (digit_value d) cs value rest → is_surrogate value ≡ false → Escape (x ∷ d ∷ cs) value rest

-- the characters after a quote up to and with the next that is not escaped, the text they stand for, and the rest
pub data Quoted : List ℕ → List ℕ → List ℕ → Type 0 where
  closed : (rest : List ℕ) → Quoted (quote ∷ rest) [] rest
  plain : (c : ℕ) (cs text rest : List ℕ) → (c == quote) ≡ false → (c == backslash) ≡ false → Quoted cs text rest
      → Quoted (c ∷ cs) (c ∷ text) rest
  escaped : (value : ℕ) (cs after text rest : List ℕ) → Escape cs value after → Quoted after text rest
      → Quoted (backslash ∷ cs) (value ∷ text) rest
