-- The forms of DSP0004 that are left out ("Compiler directives", "Qualifiers", "Class declarations", "Character
-- constants", "Floating-point constants"), each where it stands in a text that goes wrong at `fault`.
use Rattle.std.specs.Prelude.{◌≡◌, ◌≤◌, ◌+◌, ℕ, true, List, [], ◌∷◌, length, drop, slice_range, slice_index, codes}
use Rattle.mof_values.specs.Fold.{SameName}
use Rattle.mof_values.specs.Ident.{is_next}
use Rattle.mof_syntax.specs.declared.mof_error.Form.{Form}
use Rattle.mof_syntax.specs.declared.mof_error.Form.TheVariants as forms
use Rattle.mof_syntax.specs.Characters.{is_sign, digit_of, Stops}
use Rattle.mof_syntax.specs.Fronts.{BeginsDeclaration, BeginsScalar}

-- at `at` stands the word by fold, and then no identifier character
pub record WordStands (text : List ℕ) (at : ℕ) (word : List ℕ) : Type 0 where
  pub same : SameName (slice_range text at (at + length word)) word
  pub stops : Stops is_next (drop (at + length word) text)

-- each is a decimal digit; there may be none
abbrev pub AreDigits : List ℕ → Type 0
AreDigits [] = Unit {0}
AreDigits (c ∷ cs) = (digit_of 10 c ≡ true) × AreDigits cs

-- an optional sign and decimal digits
pub data BeginsReal : List ℕ → Type 0 where
  unsigned : (digits : List ℕ) → AreDigits digits → BeginsReal digits
  signed : (sign : ℕ) (digits : List ℕ) → is_sign sign ≡ true → AreDigits digits → BeginsReal (sign ∷ digits)

-- in a text that goes wrong at `fault` the form stands at `at`
pub data OutOfProfile (text : List ℕ) (fault : ℕ) : ℕ → Form → Type 0 where
  pragma : BeginsDeclaration text fault → slice_index text fault ≡ 35 → OutOfProfile text fault fault forms.Pragma
  qualifiers : BeginsDeclaration text fault → slice_index text fault ≡ 91 → OutOfProfile text fault fault forms.Qualifiers
  class : BeginsDeclaration text fault → WordStands text fault (codes "class") → OutOfProfile text fault fault forms.Class
  qualifier : BeginsDeclaration text fault → WordStands text fault (codes "qualifier") → OutOfProfile text fault fault forms.Qualifier
  character : BeginsScalar text fault → slice_index text fault ≡ 39 → OutOfProfile text fault fault forms.Character
  real : (at : ℕ) → at ≤ fault → BeginsScalar text at → BeginsReal (slice_range text at fault) → slice_index text fault ≡ 46
      → OutOfProfile text fault at forms.Real
