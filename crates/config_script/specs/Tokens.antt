-- The characters of a configuration script and its tokens: of the Windows PowerShell Language Specification 3.0, section 2
-- ("Lexical Structure"), what names, texts, integers and their lists need.
use Rattle.std.specs.Prelude.{◌≡◌, ◌==◌, ◌-◌, ℕ, suc, Bool, true, false, not, ◌||◌, List, [], ◌∷◌, ℤ, pos, neg_ℤ, codes, if◌then◌else◌}
use Rattle.std.specs.Str.Parse.{digits_value}
use Rattle.mof_values.specs.Fold.{SameName}
use Rattle.mof_values.specs.Ident.{is_next}
use Rattle.mof_syntax.specs.Characters.{line_feed, quote, dollar, comma, minus_sign, digit_zero, semicolon, equals_sign, left_brace, right_brace, is_blank, digit_of, Stops, Run}
use Rattle.mof_syntax.specs.Separators.{LineComment}
use Rattle.mof_syntax.specs.Tokens.{Identifier}

-- ---- lines

-- how many line feeds the characters have
abbrev pub feeds : List ℕ → ℕ
feeds [] = 0
feeds (c ∷ cs) = if c == line_feed then suc (feeds cs) else feeds cs

-- the line on which `from`, with which the text ends, begins: the line feeds before it
abbrev pub line_of : List ℕ → List ℕ → ℕ
line_of text from = feeds text - feeds from

-- ---- tokens

abbrev pub apostrophe : ℕ
apostrophe = 39

abbrev pub number_sign : ℕ
number_sign = 35

abbrev pub at_sign : ℕ
at_sign = 64

abbrev pub left_parenthesis : ℕ
left_parenthesis = 40

abbrev pub right_parenthesis : ℕ
right_parenthesis = 41

abbrev pub is_apostrophe : ℕ → Bool
is_apostrophe c = c == apostrophe

-- in quotes it stands for itself: no quote, no dollar sign and no backtick
abbrev pub is_inert : ℕ → Bool
is_inert c = not (c == quote || c == dollar || c == 96)

-- after an apostrophe: the text up to the next one that is not doubled, two of them standing for one, and the rest
pub data Verbatim : List ℕ → List ℕ → List ℕ → Type 0 where
  closed : (rest : List ℕ) → Stops is_apostrophe rest → Verbatim (apostrophe ∷ rest) [] rest
  doubled : (cs text rest : List ℕ) → Verbatim cs text rest → Verbatim (apostrophe ∷ apostrophe ∷ cs) (apostrophe ∷ text) rest
  plain : (c : ℕ) (cs text rest : List ℕ) → is_apostrophe c ≡ false → Verbatim cs text rest → Verbatim (c ∷ cs) (c ∷ text) rest

-- a 0, or a digit of 1 to 9 and digits; their value, and the rest
pub data Magnitude : List ℕ → ℕ → List ℕ → Type 0 where
  nought : (rest : List ℕ) → Magnitude (digit_zero ∷ rest) 0 rest
  digits : (d : ℕ) (cs ds rest : List ℕ) → (d == digit_zero) ≡ false → digit_of 10 d ≡ true → Run (digit_of 10) cs ds rest
      → Magnitude (d ∷ cs) (digits_value 10 (d ∷ ds)) rest

-- a token and what it stands for
pub data Token : Type 0 where
  Word : List ℕ → Token
  Text : List ℕ → Token
  Integer : ℤ → Token
  True False Null LeftBrace RightBrace EqualsSign Semicolon Comma ArrayBegin ArrayEnd : Token

-- one token, and the rest. One that ends with an identifier character is followed by no other
pub data IsToken : List ℕ → Token → List ℕ → Type 0 where
  word : (cs name rest : List ℕ) → Identifier cs name rest → IsToken cs (Word name) rest
  verbatim : (cs text rest : List ℕ) → Verbatim cs text rest → IsToken (apostrophe ∷ cs) (Text text) rest
  quoted : (cs text rest : List ℕ) → Run is_inert cs text (quote ∷ rest) → IsToken (quote ∷ cs) (Text text) rest
  unsigned : (cs : List ℕ) (n : ℕ) (rest : List ℕ) → Magnitude cs n rest → Stops is_next rest → IsToken cs (Integer (pos n)) rest
  negative : (cs : List ℕ) (n : ℕ) (rest : List ℕ) → Magnitude cs n rest → Stops is_next rest
      → IsToken (minus_sign ∷ cs) (Integer (neg_ℤ (pos n))) rest
  true_constant : (cs name rest : List ℕ) → Identifier cs name rest → SameName name (codes "true") → IsToken (dollar ∷ cs) True rest
  false_constant : (cs name rest : List ℕ) → Identifier cs name rest → SameName name (codes "false") → IsToken (dollar ∷ cs) False rest
  null_constant : (cs name rest : List ℕ) → Identifier cs name rest → SameName name (codes "null") → IsToken (dollar ∷ cs) Null rest
  left_brace_mark : (rest : List ℕ) → IsToken (left_brace ∷ rest) LeftBrace rest
  right_brace_mark : (rest : List ℕ) → IsToken (right_brace ∷ rest) RightBrace rest
  equals_mark : (rest : List ℕ) → IsToken (equals_sign ∷ rest) EqualsSign rest
  semicolon_mark : (rest : List ℕ) → IsToken (semicolon ∷ rest) Semicolon rest
  comma_mark : (rest : List ℕ) → IsToken (comma ∷ rest) Comma rest
  array_begin_mark : (rest : List ℕ) → IsToken (at_sign ∷ left_parenthesis ∷ rest) ArrayBegin rest
  array_end_mark : (rest : List ℕ) → IsToken (right_parenthesis ∷ rest) ArrayEnd rest

-- a token where it stands: whether a line feed is among the separators before it, and the characters from it on
pub data Placed : Type 0 where
  placed : Bool → List ℕ → Token → Placed

-- the characters are these tokens, with any separators before, between and after them: blanks, and comments from a number
-- sign up to the end of the line. `fed` says whether a line feed came since the last token
pub data Lexes : Bool → List ℕ → List Placed → Type 0 where
  end : (fed : Bool) → Lexes fed [] []
  blank : (fed : Bool) (c : ℕ) (cs : List ℕ) (ts : List Placed) → is_blank c ≡ true → Lexes (fed || (c == line_feed)) cs ts
      → Lexes fed (c ∷ cs) ts
  comment : (fed : Bool) (cs rest : List ℕ) (ts : List Placed) → LineComment cs rest → Lexes fed rest ts → Lexes fed (number_sign ∷ cs) ts
  token : (fed : Bool) (cs : List ℕ) (t : Token) (rest : List ℕ) (ts : List Placed) → IsToken cs t rest → Lexes false rest ts
      → Lexes fed cs (placed fed cs t ∷ ts)
