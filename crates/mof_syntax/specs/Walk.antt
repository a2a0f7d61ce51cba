-- A walk over the tokens of a text: what each step of it gives.
use Rattle.std.specs.Prelude.{◌≡◌, ◌≤◌, ◌<◌, ℕ, List, Option, Some, None, length, drop, slice_range}
use Rattle.std.specs.Str.{chars}
use Rattle.mof_syntax.specs.declared.token.Token.{Token}
use Rattle.mof_syntax.specs.declared.token.TokenKind.{TokenKind}
use Rattle.mof_syntax.specs.declared.token.TokenKind.TheVariants as kinds
use Rattle.mof_syntax.specs.Separators.{Separator, Separators}
use Rattle.mof_syntax.specs.Tokens.{Lexeme, Word, AliasName, Literal, Number, LeftBrace, RightBrace, EqualsSign, Semicolon, Comma, IsToken}

abbrev pub token_kind : Lexeme → TokenKind
token_kind (Word name) = kinds.Word
token_kind (AliasName name) = kinds.Alias
token_kind (Literal text) = kinds.Literal
token_kind (Number z) = kinds.Integer
token_kind LeftBrace = kinds.Mark
token_kind RightBrace = kinds.Mark
token_kind EqualsSign = kinds.Mark
token_kind Semicolon = kinds.Mark
token_kind Comma = kinds.Mark

-- no token, and no separator, begins the characters
abbrev pub NoToken : List ℕ → Type 0
NoToken cs = (t : Lexeme) (rest : List ℕ) → IsToken cs t rest → ⊥

abbrev pub NoSeparator : List ℕ → Type 0
NoSeparator cs = (rest : List ℕ) → Separator cs rest → ⊥

-- a token of the kind begins the characters, and is as long as the rules allow: none that begins them ends elsewhere
pub record StandsToken (cs : List ℕ) (kind : TokenKind) (rest : List ℕ) : Type 0 where
  pub lexeme : Lexeme
  pub stands : IsToken cs lexeme rest
  pub is_kind : token_kind lexeme ≡ kind
  pub only : (other : Lexeme) (after : List ℕ) → IsToken cs other after → after ≡ rest

-- from a place on stand separators, and then none
pub record Skips (text : List ℕ) (place now : ℕ) : Type 0 where
  pub from : place ≤ now
  pub within : now ≤ length text
  pub separators : Separators (drop place text) (drop now text)
  pub no_separator : NoSeparator (drop now text)

-- a token of the kind stands from one place to another, as long as the rules allow
pub record TokenStands (text : List ℕ) (kind : TokenKind) (from to : ℕ) : Type 0 where
  pub rises : from < to
  pub within : to ≤ length text
  pub token : StandsToken (drop from text) kind (drop to text)

-- that many characters of the text come before what is left of it
pub record IsPlace (text left : List ℕ) (place : ℕ) : Type 0 where
  pub rest : left ≡ drop place text
  pub within : place ≤ length text

-- a text, and how far it was walked
pub record Walk : Type 0 where
  pub text : List ℕ
  pub place : ℕ

-- the walk goes on over separators to a token, and over it
pub record Takes (before : Walk) (token : Token) (now : Walk) : Type 0 where
  pub text : now.text ≡ before.text
  pub place : now.place ≡ token.to
  pub skips : Skips before.text before.place token.from
  pub stands : TokenStands before.text token.kind token.from token.to
  pub slice : chars token.text.now ≡ slice_range before.text token.from token.to

-- the walk goes on over separators to where neither a token nor a separator stands, as at the end of the text
pub record Ends (before now : Walk) : Type 0 where
  pub text : now.text ≡ before.text
  pub skips : Skips before.text before.place now.place
  pub no_token : NoToken (drop now.place before.text)

-- what a step gives
abbrev pub Steps : Walk → Option Token → Walk → Type 0
Steps before (Some token) now = Takes before token now
Steps before None now = Ends before now
