-- What the steps of the scanner compute: the characters after a construct, where it stands. That they stand after what
-- the definitions of separators and tokens say is proved of them in proofs/.
use Rattle.std.specs.Prelude.{◌≡◌, ◌<◌, ℕ, zero, suc, ◌+◌, ◌*◌, Bool, true, not, ◌&&◌, ◌==◌, if◌then◌else◌, List, [], ◌∷◌, Option, Some, None, is_some}
use Rattle.std.specs.Borrow.{Bor}
use Rattle.std.specs.Char.{digit_value}
use Rattle.std.specs.Option.{option_map}
use Rattle.std.specs.Str.{chars}
use Rattle.std.specs.Str.Parse.{digits_value}
use Rattle.mof_values.specs.Ident.{is_first, is_next}
use Rattle.mof_syntax.specs.declared.scan.Class.{Class}
use Rattle.mof_syntax.specs.declared.scan.Class.TheVariants as classes
use Rattle.mof_syntax.specs.Characters.{line_feed, slash, star, digit_zero, is_blank, is_x, is_b, digit_of}
use Rattle.mof_syntax.specs.Strings.{short_escape, is_surrogate, Quoted}

-- what is left of a text, as characters
abbrev pub left_of : Option (Bor (List ℕ)) → Option (List ℕ)
left_of rest = option_map (λ t. chars t.now) rest

-- the characters that a comment's line goes on with
abbrev pub is_in_line : ℕ → Bool
is_in_line c = not (c == line_feed)

abbrev pub is_in : Class → ℕ → Bool
is_in classes.Name c = is_next c
is_in classes.Binary c = digit_of 2 c
is_in classes.Octal c = digit_of 8 c
is_in classes.Decimal c = digit_of 10 c
is_in classes.Hexadecimal c = digit_of 16 c
is_in classes.Line c = is_in_line c

-- after the characters of the class
abbrev pub after : (ℕ → Bool) → List ℕ → List ℕ
after p [] = []
after p (c ∷ cs) = if p c then after p cs else c ∷ cs

abbrev pub block_rest : List ℕ → Option (List ℕ)
block_rest [] = None
block_rest (c ∷ []) = None
block_rest (c ∷ d ∷ cs) = if (c == star) && (d == slash) then Some cs else block_rest (d ∷ cs)

abbrev pub comment_rest : List ℕ → Option (List ℕ)
comment_rest [] = None
comment_rest (c ∷ cs) = if c == slash then Some (after is_in_line cs) else if c == star then block_rest cs else None

abbrev pub separator_rest : List ℕ → Option (List ℕ)
separator_rest [] = None
separator_rest (c ∷ cs) = if is_blank c then Some cs else if c == slash then comment_rest cs else None

abbrev pub identifier_rest : List ℕ → Option (List ℕ)
identifier_rest [] = None
identifier_rest (c ∷ cs) = if is_first c then Some (after is_next cs) else None

-- the value of an escape with at most that many more digits, and what is after
abbrev pub hex_tail : ℕ → ℕ → List ℕ → ℕ × List ℕ
hex_tail zero value cs = (value, cs)
hex_tail (suc count) value [] = (value, [])
hex_tail (suc count) value (c ∷ cs) = if digit_of 16 c then hex_tail count (value * 16 + digit_value c) cs else (value, c ∷ cs)

-- a hexadecimal digit of this value comes first, and then the rest
pub record BeginsWithDigit (cs : List ℕ) (value : ℕ) (rest : List ℕ) : Type 0 where
  pub digit : ℕ
  pub small : value < 16
  pub split : cs ≡ digit ∷ rest
  pub is_digit : digit_of 16 digit ≡ true
  pub is_value : digit_value digit ≡ value

abbrev pub scalar_rest : ℕ × List ℕ → Option (List ℕ)
scalar_rest tail = if is_surrogate tail.0 then None else Some tail.1

abbrev pub hex_escape_rest : List ℕ → Option (List ℕ)
hex_escape_rest [] = None
hex_escape_rest (c ∷ cs) = if digit_of 16 c then scalar_rest (hex_tail 3 (digit_value c) cs) else None

abbrev pub escape_rest : List ℕ → Option (List ℕ)
escape_rest [] = None
escape_rest (c ∷ cs) = if is_some (short_escape c) then Some cs else if is_x c then hex_escape_rest cs else None

-- where no identifier character goes on
abbrev pub stopped : List ℕ → Option (List ℕ)
stopped [] = Some []
stopped (c ∷ cs) = if is_next c then None else Some (c ∷ cs)

abbrev pub suffix_rest : List ℕ → Option (List ℕ)
suffix_rest [] = None
suffix_rest (c ∷ cs) = if is_b c then stopped cs else None

abbrev pub binary_rest : List ℕ → Option (List ℕ)
binary_rest [] = None
binary_rest (c ∷ cs) = if digit_of 2 c then suffix_rest (after (digit_of 2) cs) else None

abbrev pub hex_rest : List ℕ → Option (List ℕ)
hex_rest [] = None
hex_rest (c ∷ cs) = if digit_of 16 c then stopped (after (digit_of 16) cs) else None

-- after a 0
abbrev pub zero_rest : List ℕ → Option (List ℕ)
zero_rest [] = Some []
zero_rest (c ∷ cs) = if is_x c then hex_rest cs else stopped (after (digit_of 8) (c ∷ cs))

abbrev pub unmarked_rest : List ℕ → Option (List ℕ)
unmarked_rest [] = None
unmarked_rest (c ∷ cs) = if c == digit_zero then zero_rest cs else if digit_of 10 c then stopped (after (digit_of 10) cs) else None

abbrev pub either_rest : Option (List ℕ) → Option (List ℕ) → Option (List ℕ)
either_rest (Some rest) other = Some rest
either_rest None other = other

abbrev pub magnitude_rest : List ℕ → Option (List ℕ)
magnitude_rest cs = either_rest (binary_rest cs) (unmarked_rest cs)

-- the rest is after such a construct, and is after no other
pub record IsOnly (Stands : List ℕ → List ℕ → Type 0) (cs rest : List ℕ) : Type 0 where
  pub stands : Stands cs rest
  pub only : (other : List ℕ) → Stands cs other → other ≡ rest

-- the characters after a quote are those of a literal up to and with the other, and then the rest
abbrev pub StandsQuoted : List ℕ → List ℕ → Type 0
StandsQuoted cs rest = (text : List ℕ) × Quoted cs text rest

-- what is read of them

-- the characters of the class that come first
abbrev pub run_of : (ℕ → Bool) → List ℕ → List ℕ
run_of p [] = []
run_of p (c ∷ cs) = if p c then c ∷ run_of p cs else []

-- the value of an integer's digits and the marks of its base
abbrev pub zero_value : List ℕ → ℕ
zero_value [] = 0
zero_value (c ∷ cs) = if is_x c then digits_value 16 (run_of (digit_of 16) cs) else digits_value 8 (run_of (digit_of 8) (c ∷ cs))

abbrev pub unmarked_value : List ℕ → ℕ
unmarked_value [] = 0
unmarked_value (c ∷ cs) = if c == digit_zero then zero_value cs else digits_value 10 (run_of (digit_of 10) (c ∷ cs))

abbrev pub magnitude_value : List ℕ → ℕ
magnitude_value cs = if is_some (binary_rest cs) then digits_value 2 (run_of (digit_of 2) cs) else unmarked_value cs
