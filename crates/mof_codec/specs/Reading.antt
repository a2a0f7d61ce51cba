-- What stands at the front of characters, said without a list of all their tokens. A rule of the grammar holds of
-- tokens, of what they stand for, and of the tokens after.
use Rattle.std.specs.Prelude.{◌≡◌, List, ℕ}
use Rattle.mof_syntax.specs.Tokens.{Lexeme, Lexes}
use Rattle.mof_syntax.specs.Grammar.{NoLiteral}

-- the characters divide into tokens exactly where the rest does, and then the two lists of tokens are so
pub record Begins (Divides : List Lexeme → List Lexeme → Type 0) (cs rest : List ℕ) : Type 0 where
  pub on : (ts : List Lexeme) → Lexes rest ts → (us : List Lexeme) × Lexes cs us × Divides us ts
  pub only : (us : List Lexeme) → Lexes cs us → (ts : List Lexeme) × Lexes rest ts × Divides us ts

-- no tokens of the characters are so
abbrev pub BeginsNo : (List Lexeme → List Lexeme → Type 0) → List ℕ → Type 0
BeginsNo Divides cs = (us ts : List Lexeme) → Lexes cs us → Divides us ts → ⊥

-- the rule holds of the tokens, and at their front it spells nothing else; joined literals go on while there are literals
pub record Only {A : Type 0} (Rule : List Lexeme → A → List Lexeme → Type 0)
    (us : List Lexeme) (a : A) (ts : List Lexeme) : Type 0 where
  pub holds : Rule us a ts
  pub only : (b : A) (vs : List Lexeme) → NoLiteral vs → Rule us b vs → (b ≡ a) × (vs ≡ ts)

-- the characters begin with what the rule spells within the limits, and then the rest
pub record BeginsWith {A : Type 0} (Rule : List Lexeme → A → List Lexeme → Type 0) (Fits : A → Type 0)
    (cs : List ℕ) (a : A) (rest : List ℕ) : Type 0 where
  pub fits : Fits a
  pub begins : Begins (λ us ts. Only Rule us a ts) cs rest

-- they begin with nothing that the rule spells within the limits
abbrev pub Lacks : {A : Type 0} → (List Lexeme → A → List Lexeme → Type 0) → (A → Type 0) → List ℕ → Type 0
Lacks {A} Rule Fits cs =
    (us ts : List Lexeme) (a : A) → NoLiteral ts → Lexes cs us → Rule us a ts → Fits a → ⊥
