-- Tokens, and how characters divide into them (DSP0004, "MOF Syntax Grammar Description").
use Rattle.std.specs.Prelude.{◌≡◌, ℕ, true, List, [], ◌∷◌, ℤ}
use Rattle.mof_values.specs.Ident.{is_first, is_next}
use Rattle.mof_syntax.specs.Characters.{quote, dollar, comma, semicolon, equals_sign, left_brace, right_brace, Run, Stops}
use Rattle.mof_syntax.specs.Strings.{Quoted}
use Rattle.mof_syntax.specs.Integers.{IntegerValue}
use Rattle.mof_syntax.specs.Separators.{Separator}

-- a token and what it stands for
pub data Lexeme : Type 0 where
  Word : List ℕ → Lexeme
  AliasName : List ℕ → Lexeme
  Literal : List ℕ → Lexeme
  Number : ℤ → Lexeme
  LeftBrace RightBrace EqualsSign Semicolon Comma : Lexeme

-- an identifier of any length, as long as it goes on, and the rest
pub data Identifier : List ℕ → List ℕ → List ℕ → Type 0 where
  identifier : (c : ℕ) (cs tail rest : List ℕ) → is_first c ≡ true → Run is_next cs tail rest → Stops is_next rest
      → Identifier (c ∷ cs) (c ∷ tail) rest

-- one token, and the rest. A token that ends with an identifier character is followed by none, so that two tokens of
-- which the first ends and the second begins with one have a separator between them
pub data IsToken : List ℕ → Lexeme → List ℕ → Type 0 where
  word : (cs name rest : List ℕ) → Identifier cs name rest → IsToken cs (Word name) rest
  alias : (cs name rest : List ℕ) → Identifier cs name rest → IsToken (dollar ∷ cs) (AliasName name) rest
  literal : (cs text rest : List ℕ) → Quoted cs text rest → IsToken (quote ∷ cs) (Literal text) rest
  integer : (cs : List ℕ) (z : ℤ) (rest : List ℕ) → IntegerValue cs z rest → Stops is_next rest → IsToken cs (Number z) rest
  left_brace_mark : (rest : List ℕ) → IsToken (left_brace ∷ rest) LeftBrace rest
  right_brace_mark : (rest : List ℕ) → IsToken (right_brace ∷ rest) RightBrace rest
  equals_mark : (rest : List ℕ) → IsToken (equals_sign ∷ rest) EqualsSign rest
  semicolon_mark : (rest : List ℕ) → IsToken (semicolon ∷ rest) Semicolon rest
  comma_mark : (rest : List ℕ) → IsToken (comma ∷ rest) Comma rest

-- the characters are these tokens, with any separators before, between and after them
pub data Lexes : List ℕ → List Lexeme → Type 0 where
  end : Lexes [] []
  separator : (cs rest : List ℕ) (ts : List Lexeme) → Separator cs rest → Lexes rest ts → Lexes cs ts
  token : (cs : List ℕ) (t : Lexeme) (rest : List ℕ) (ts : List Lexeme) → IsToken cs t rest → Lexes rest ts → Lexes cs (t ∷ ts)
