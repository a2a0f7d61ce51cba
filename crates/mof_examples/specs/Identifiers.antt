-- Which characters are identifiers and aliases, by example.
use Rattle.std.specs.Prelude.{codes, List, [], ◌∷◌, ℕ}
use Rattle.mof_syntax.specs.Tokens.{Identifier, IsToken, Word, AliasName}
use Rattle.mof_syntax.specs.Walk.{NoToken}

-- no identifier begins the characters
abbrev pub NoIdentifier : List ℕ → Type 0
NoIdentifier cs = (name rest : List ℕ) → Identifier cs name rest → ⊥

pub record IdentifierExamples : Type 0 where
  pub letters : Identifier (codes "aZ_9 b") (codes "aZ_9") (codes " b")
  pub keyword : Identifier (codes "instance") (codes "instance") []
  pub least : Identifier (0x80 ∷ []) (0x80 ∷ []) []
  pub greatest : Identifier (0xFFEF ∷ []) (0xFFEF ∷ []) []
  pub word : IsToken (codes "a;") (Word (codes "a")) (codes ";")
  pub alias : IsToken (codes "$a;") (AliasName (codes "a")) (codes ";")
  pub no_digit : NoIdentifier (codes "9a")
  pub no_dash : NoIdentifier (codes "-a")
  pub no_delete : NoIdentifier (0x7F ∷ [])
  pub no_greater : NoIdentifier (0xFFF0 ∷ [])
  pub no_dollar_alone : NoToken (codes "$")
  pub no_dollar_digit : NoToken (codes "$1")
