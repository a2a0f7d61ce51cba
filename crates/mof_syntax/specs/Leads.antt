-- Which token a character begins, and what stands after it: the steps of the walk.
use Rattle.std.specs.Prelude.{◌≡◌, ℕ, Bool, ◌||◌, ◌==◌, if◌then◌else◌, List}
use Rattle.mof_syntax.specs.declared.lead.Lead.{Lead}
use Rattle.mof_syntax.specs.declared.lead.Lead.TheVariants as leads
use Rattle.mof_syntax.specs.declared.token.TokenKind.{TokenKind}
use Rattle.mof_syntax.specs.declared.token.TokenKind.TheVariants as kinds
use Rattle.mof_syntax.specs.Characters.{quote, dollar, comma, semicolon, equals_sign, left_brace, right_brace, digit_of, Stops, is_sign}
use Rattle.mof_values.specs.Ident.{is_next}
use Rattle.mof_syntax.specs.Integers.{Magnitude}
use Rattle.mof_syntax.specs.Tokens.{Identifier}
use Rattle.mof_syntax.specs.Scanning.{StandsQuoted}

abbrev pub is_mark : ℕ → Bool
is_mark c = c == left_brace || c == right_brace || c == equals_sign || c == semicolon || c == comma

abbrev pub lead_of : ℕ → Lead
lead_of c =
    if is_mark c then leads.Mark
    else if c == quote then leads.Quote
    else if c == dollar then leads.Dollar
    else if is_sign c then leads.Sign
    else if digit_of 10 c then leads.Digit
    else leads.Other

abbrev pub kind_by : Lead → TokenKind
kind_by leads.Mark = kinds.Mark
kind_by leads.Quote = kinds.Literal
kind_by leads.Dollar = kinds.Alias
kind_by leads.Sign = kinds.Integer
kind_by leads.Digit = kinds.Integer
kind_by leads.Other = kinds.Word

abbrev pub StandsIdentifier : List ℕ → List ℕ → Type 0
StandsIdentifier cs rest = (name : List ℕ) × Identifier cs name rest

-- an integer without a sign that no identifier character follows
abbrev pub StandsMagnitude : List ℕ → List ℕ → Type 0
StandsMagnitude cs rest = (n : ℕ) × Magnitude cs n rest × Stops is_next rest

-- of characters and the others after the first: what the first begins is there, and then the rest
abbrev pub StandsBy : Lead → List ℕ → List ℕ → List ℕ → Type 0
StandsBy leads.Mark cs others rest = others ≡ rest
StandsBy leads.Quote cs others rest = StandsQuoted others rest
StandsBy leads.Dollar cs others rest = StandsIdentifier others rest
StandsBy leads.Sign cs others rest = StandsMagnitude others rest
StandsBy leads.Digit cs others rest = StandsMagnitude cs rest
StandsBy leads.Other cs others rest = StandsIdentifier cs rest

-- it is there, and ends nowhere else
pub record OnlyBy (lead : Lead) (cs others rest : List ℕ) : Type 0 where
  pub stands : StandsBy lead cs others rest
  pub only : (other : List ℕ) → StandsBy lead cs others other → other ≡ rest

-- it is not there
abbrev pub NoneBy : Lead → List ℕ → List ℕ → Type 0
NoneBy lead cs others = (rest : List ℕ) → StandsBy lead cs others rest → ⊥
