-- Laws of the definitions.
use Rattle.std.specs.Prelude.{◌≡◌, ◌≢◌, ◌≤◌, ◌<◌, ◌+◌, ◌⊎◌, ℕ, List, ◌++◌, length, take}
use Rattle.mof_values.specs.declared.instance.Instance.{Instance}
use Rattle.mof_syntax.specs.Tokens.{Lexeme, Lexes}
use Rattle.mof_syntax.specs.Grammar.{Wide, WideSpells}
use Rattle.mof_syntax.specs.Fronts.{IsFront, IsSyntaxFault}
use Rattle.mof_syntax.specs.declared.mof_error.MofError.{MofError}
use Rattle.mof_syntax.specs.declared.mof_error.MofError.TheVariants.{TooLong, Text, Syntax, OutOfProfile, Memory}
use Rattle.mof_syntax.specs.declared.mof_error.Form.{Form}
use Rattle.mof_syntax.specs.Limits.{Spells}
use Rattle.mof_syntax.specs.Refusals.{Reads, Refuses, Wins}

-- characters divide into tokens in one way
abbrev pub DividesOnce : Type 0
DividesOnce = (chars : List ℕ) (one other : List Lexeme) → Lexes chars one → Lexes chars other → one ≡ other

-- a text spells at most one list of instances
abbrev pub SpellsOne : Type 0
SpellsOne = (chars : List ℕ) (one other : List Instance) → WideSpells chars one → WideSpells chars other → one ≡ other

-- a front of a front is one
abbrev pub FrontsOfFronts : Type 0
FrontsOfFronts = (front more : List ℕ) → IsFront (front ++ more) → IsFront front

-- a text that is in the grammar goes wrong nowhere, and a text goes wrong at one place
pub record GoesWrongOnce : Type 0 where
  pub not_in_the_grammar : (text : List ℕ) (at : ℕ) → Wide text → IsSyntaxFault text at → ⊥
  pub one_place : (text : List ℕ) (one other : ℕ) → IsSyntaxFault text one → IsSyntaxFault text other → one ≡ other

-- a text goes wrong where it is a front up to there and no front one character further
abbrev pub GoesWrongByTheNext : Type 0
GoesWrongByTheNext = (text : List ℕ) (at : ℕ) → (Wide text → ⊥) → at ≤ length text → IsFront (take at text)
    → (at < length text → IsFront (take (at + 1) text) → ⊥) → IsSyntaxFault text at

-- a text spells instances within the limits, or a refusal wins
abbrev pub TextsHaveAnAnswer : Type 0
TextsHaveAnAnswer = (text : List ℕ) → ((is : List Instance) × Spells text is) ⊎ ((refusal : MofError) × Wins text refusal)

-- bytes are read as instances, or are refused, and not for memory
abbrev pub BytesHaveAnAnswer : Type 0
BytesHaveAnAnswer = (bytes : List ℕ) → ((is : List Instance) × Reads bytes is) ⊎ ((refusal : MofError) × (refusal ≢ Memory) × Refuses bytes refusal)

-- bytes are read as one list of instances, and are refused in one way
pub record BytesHaveOneAnswer : Type 0 where
  pub one_reading : (bytes : List ℕ) (one other : List Instance) → Reads bytes one → Reads bytes other → one ≡ other
  pub one_refusal : (bytes : List ℕ) (one other : MofError) → one ≢ Memory → other ≢ Memory → Refuses bytes one → Refuses bytes other → one ≡ other

-- bytes that are read are within the limit, are characters, and are in the grammar without a form that is left out
pub record WhatIsReadIsInTheGrammar : Type 0 where
  pub not_too_long : (bytes : List ℕ) (is : List Instance) → Reads bytes is → Refuses bytes TooLong → ⊥
  pub no_text_fault : (bytes : List ℕ) (is : List Instance) (at : ℕ) → Reads bytes is → Refuses bytes (Text at) → ⊥
  pub no_syntax_fault : (bytes : List ℕ) (is : List Instance) (at : ℕ) → Reads bytes is → Refuses bytes (Syntax at) → ⊥
  pub no_form_left_out : (bytes : List ℕ) (is : List Instance) (at : ℕ) (what : Form) → Reads bytes is → Refuses bytes (OutOfProfile at what) → ⊥
