-- Which refusals win, and where, by example.
use Rattle.std.specs.Prelude.{◌≡◌, codes, ℕ, zero, suc, List, [], ◌∷◌, ◌++◌, length, replicate}
use Rattle.mof_values.specs.declared.instance.Instance.{Instance}
use Rattle.mof_syntax.specs.declared.mof_error.MofError.TheVariants.{TooLong, Text, OutOfProfile, NumberRange, TooMany, Syntax}
use Rattle.mof_syntax.specs.declared.mof_error.Form.TheVariants as forms
use Rattle.mof_syntax.specs.Limits.{Spells}
use Rattle.mof_syntax.specs.Fronts.{BeginsIdentifier}
use Rattle.mof_syntax.specs.Refusals.{Wins, Refuses}

-- the value of a property: it begins at place 20
abbrev pub given : List ℕ → List ℕ
given value = codes "instance of A { X = " ++ value ++ codes "; };"

-- the letter g that many times
abbrev pub letters : ℕ → List ℕ
letters count = replicate count 103

-- the text spells instances within the limits
abbrev pub Spelled : List ℕ → Type 0
Spelled text = (instances : List Instance) × Spells text instances

-- a literal with 256 letters after an escape of three digits
abbrev pub long_literal : List ℕ
long_literal = given (codes "\"\\xD80" ++ letters 256 ++ codes "\"")

pub record FormExamples : Type 0 where
  pub character : Wins (given (codes "'a'")) (OutOfProfile 20 forms.Character)
  pub element : Wins (given (codes "{1, 'a'}")) (OutOfProfile 24 forms.Character)
  pub apostrophe_in_a_literal : Spelled (given (codes "\"'\""))
  pub apostrophe_after_a_value : Wins (given (codes "1'")) (Syntax 21)
  pub real : Wins (given (codes "1.5")) (OutOfProfile 20 forms.Real)
  pub sign_and_point : Wins (given (codes "-.5")) (OutOfProfile 20 forms.Real)
  pub point_alone : Wins (given (codes ".5")) (OutOfProfile 20 forms.Real)
  pub hexadecimal_point : Wins (given (codes "0x1.5")) (Syntax 23)
  pub later_class : Wins (codes "instance of A {};class B {};") (OutOfProfile 17 forms.Class)
  pub later_pragma : Wins (codes "// a\n#pragma") (OutOfProfile 5 forms.Pragma)
  pub pragma_in_a_comment : Spelled (codes "// #pragma")
  pub qualifiers_of_a_property : Wins (codes "instance of A { [Key]") (Syntax 16)

pub record NumberExamples : Type 0 where
  pub greatest : Spelled (given (codes "18446744073709551615"))
  pub greater : Wins (given (codes "18446744073709551616")) (NumberRange 20)
  pub least : Spelled (given (codes "-9223372036854775808"))
  pub less : Wins (given (codes "-9223372036854775809")) (NumberRange 20)
  pub third_property : Wins (codes "instance of A { X = -9223372036854775808; Y = 18446744073709551615; Z = 18446744073709551616; };") (NumberRange 72)
  pub at_the_end : Wins (codes "instance of A { X = 99999999999999999999") (NumberRange 20)
  pub before_a_fault : Wins (codes "instance of A { X = 99999999999999999999 }") (NumberRange 20)
  pub after_a_fault : Wins (codes "instance of { X = 99999999999999999999; };") (Syntax 12)
  pub before_a_point : Wins (given (codes "99999999999999999999.5")) (OutOfProfile 20 forms.Real)
  pub octal_before_a_point : Wins (given (codes "07777777777777777777777.5")) (OutOfProfile 20 forms.Real)
  pub octal_before_a_decimal : Wins (given (codes "077777777777777777777778")) (NumberRange 20)
  pub in_a_literal : Spelled (given (codes "\"99999999999999999999\""))

pub record LongNameExamples : Type 0 where
  pub longest : Spelled (codes "instance of " ++ letters 255 ++ codes " {};")
  pub class : Wins (codes "instance of " ++ letters 256 ++ codes " {};") (TooMany 12)
  pub alias : Wins (codes "instance of A as $" ++ letters 256 ++ codes " {};") (TooMany 18)
  pub property : Wins (codes "instance of A { " ++ letters 256 ++ codes " = 1; };") (TooMany 16)
  pub at_the_end : Wins (codes "instance of " ++ letters 256) (TooMany 12)
  pub where_none_stands : Wins (codes "instance of A { X = true" ++ letters 256) (Syntax 24)
  pub in_a_literal : Spelled long_literal
  -- a `z` may stand there and a `1` may not, but so may a `#`
  pub not_after_an_escape : BeginsIdentifier long_literal 26 → ⊥

-- the part that many times, and then the rest
unfoldable pub many : ℕ → List ℕ → List ℕ → List ℕ
many zero part rest = rest
many (suc count) part rest = part ++ many count part rest

pub record PartExamples : Type 0 where
  pub most_properties : Spelled (codes "instance of A{" ++ many 256 (codes "P=1;") (codes "};"))
  pub property : Wins (codes "instance of A{" ++ many 256 (codes "P=1;") (codes "P=1;};")) (TooMany 1038)
  pub most_elements : Spelled (codes "instance of A{P={1," ++ many 4094 (codes "1,") (codes "1};};"))
  pub element : Wins (codes "instance of A{P={1," ++ many 4095 (codes "1,") (codes "1};};")) (TooMany 8209)
  pub most_declarations : Spelled (many 4097 (codes "instance of A{};") [])
  pub declaration : Wins (many 4097 (codes "instance of A{};") (codes "instance of A{};")) (TooMany 65552)

pub record SyntaxExamples : Type 0 where
  pub open_literal : Wins (codes "instance of A { X = \"ab") (Syntax 23)
  pub no_semicolon : Wins (codes "instance of A { X = 1 };") (Syntax 22)
  pub no_last_semicolon : Wins (codes "instance of A { X = 1; }") (Syntax 24)
  pub open_comment : Wins (codes "/* a") (Syntax 4)
  pub surrogate : Wins (given (codes "\"\\xD800\"")) (Syntax 26)
  pub octal_8 : Wins (given (codes "08")) (Syntax 21)

-- of bytes
pub record ByteExamples : Type 0 where
  pub too_long : (bytes : List ℕ) → length bytes ≡ 8388609 → Refuses bytes TooLong
  pub longest : (bytes : List ℕ) → length bytes ≡ 8388608 → Refuses bytes TooLong → ⊥
  pub after_a_mark : Refuses (0xEF ∷ 0xBB ∷ 0xBF ∷ given (codes "1.5")) (OutOfProfile 20 forms.Real)
  pub no_character : Refuses (codes "instance" ++ 0xFF ∷ []) (Text 8)
