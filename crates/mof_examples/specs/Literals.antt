-- Which characters are string literals, and of which text, by example.
use Rattle.std.specs.Prelude.{codes, List, [], ℕ}
use Rattle.mof_syntax.specs.Strings.{Escape}
use Rattle.mof_syntax.specs.Tokens.{IsToken, Literal}

-- the characters are a literal of this text and nothing else
abbrev pub SpellsText : List ℕ → List ℕ → Type 0
SpellsText cs text = IsToken cs (Literal text) []

-- no escape begins the characters, of which the backslash was read
abbrev pub NoEscape : List ℕ → Type 0
NoEscape cs = (value : ℕ) (rest : List ℕ) → Escape cs value rest → ⊥

pub record LiteralExamples : Type 0 where
  pub empty : SpellsText (codes "\"\"") []
  pub letters : SpellsText (codes "\"ab\"") (codes "ab")
  pub line_end : SpellsText (codes "\"a\nb\"") (codes "a\nb")
  pub quote_inside : SpellsText (codes "\"a\\\"b\"") (codes "a\"b")
  pub two_beside : IsToken (codes "\"a\"\"b\"") (Literal (codes "a")) (codes "\"b\"")
  pub backspace : Escape (codes "b") 8 []
  pub tab : Escape (codes "t") 9 []
  pub line_feed : Escape (codes "n") 10 []
  pub form_feed : Escape (codes "f") 12 []
  pub carriage_return : Escape (codes "r") 13 []
  pub quote : Escape (codes "\"") 34 []
  pub apostrophe : Escape (codes "'") 39 []
  pub backslash : Escape (codes "\\") 92 []
  pub one_digit : Escape (codes "x4\"") 4 (codes "\"")
  pub two_digits : Escape (codes "x41g") 65 (codes "g")
  pub three_digits : Escape (codes "X041 ") 65 (codes " ")
  pub four_digits : Escape (codes "x00411") 65 (codes "1")
  pub below_surrogates : Escape (codes "xD7FF") 0xD7FF []
  pub above_surrogates : Escape (codes "xE000") 0xE000 []
  pub three_of_a_surrogate : Escape (codes "xD80g") 0xD80 (codes "g")
  pub no_capital_b : NoEscape (codes "B")
  pub no_other : NoEscape (codes "a")
  pub no_hex_alone : NoEscape (codes "x\"")
  pub no_least_surrogate : NoEscape (codes "xD800")
  pub no_greatest_surrogate : NoEscape (codes "xDFFF")
