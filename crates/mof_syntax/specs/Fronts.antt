-- With which prefixes a text of the wide grammar begins, and where a text that is none goes wrong.
use Rattle.std.specs.Prelude.{◌≤◌, ◌⊎◌, ℕ, List, [], ◌∷◌, ◌++◌, length, take}
use Rattle.mof_syntax.specs.Grammar.{Wide}

-- some text of the wide grammar begins with these characters
abbrev pub IsFront : List ℕ → Type 0
IsFront front = (rest : List ℕ) × Wide (front ++ rest)

-- the text is not in the wide grammar, and `at` is the length of the longest prefix with which some text of it begins
pub record IsSyntaxFault (text : List ℕ) (at : ℕ) : Type 0 where
  pub outside : Wide text → ⊥
  pub within : at ≤ length text
  pub front : IsFront (take at text)
  pub longest : (n : ℕ) → n ≤ length text → IsFront (take n text) → n ≤ at

-- the text is not in the wide grammar and goes wrong at `end`, or it is in it and `end` is its length
pub data GoesUpTo (text : List ℕ) : ℕ → Type 0 where
  whole : Wide text → GoesUpTo text (length text)
  torn : (end : ℕ) → IsSyntaxFault text end → GoesUpTo text end

-- the text up to `at`, and then these characters, begin a text of the wide grammar
abbrev pub MayStand : List ℕ → ℕ → List ℕ → Type 0
MayStand text at chars = IsFront (take at text ++ chars)

-- a declaration may begin at `at`: the text before is in the wide grammar, and does not end within a comment, where a
-- `#` might stand
pub record BeginsDeclaration (text : List ℕ) (at : ℕ) : Type 0 where
  pub whole : Wide (take at text)
  pub outside : MayStand text at (35 ∷ []) → ⊥

-- a single value may begin at `at`: `$A;` or `$A,` may stand there, and it is within no literal and no comment, where a
-- `#` might stand
pub record BeginsScalar (text : List ℕ) (at : ℕ) : Type 0 where
  pub scalar : MayStand text at (36 ∷ 65 ∷ 59 ∷ []) ⊎ MayStand text at (36 ∷ 65 ∷ 44 ∷ [])
  pub outside : MayStand text at (35 ∷ []) → ⊥

-- an identifier may begin at `at`: a `z`, with which no keyword begins, may stand there, a `1` may not, and it is within no
-- literal and no comment, where a `#` might stand
pub record BeginsIdentifier (text : List ℕ) (at : ℕ) : Type 0 where
  pub letter : MayStand text at (122 ∷ [])
  pub first : MayStand text at (49 ∷ []) → ⊥
  pub outside : MayStand text at (35 ∷ []) → ⊥
