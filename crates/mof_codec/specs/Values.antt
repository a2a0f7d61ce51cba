-- The parts of the grammar that the reader of values reads one by one (DSP0004, the grammar of its annex).
use Rattle.std.specs.Prelude.{◌≡◌, ℕ, ℤ, Bool, true, false, ◌==◌, ◌||◌, not, if◌then◌else◌, pos, neg_ℤ, ◌≤◌, ◌<◌, ◌^◌, ◌⊎◌, List, [], ◌∷◌, ◌++◌, length, Option, Some, None, codes, IfSome, ⊤}
use Rattle.std.specs.List.{AllByRecursion}
use Rattle.std.specs.Char.{digit_value}
use Rattle.mof_values.specs.Fold.{SameName}
use Rattle.mof_values.specs.declared.instance.Instance.{Instance}
use Rattle.mof_values.specs.declared.instance.Property.{Property}
use Rattle.mof_values.specs.declared.value.Scalar.{Scalar}
use Rattle.mof_values.specs.declared.value.Value.TheVariants.{Many}
use Rattle.mof_syntax.specs.Characters.{digit_of, quote, backslash, dollar, plus_sign, minus_sign, comma, semicolon, equals_sign, left_brace, right_brace}
use Rattle.mof_syntax.specs.Separators.{Separators}
use Rattle.mof_syntax.specs.Strings.{is_surrogate, HexDigits, Escape, Quoted}
use Rattle.mof_syntax.specs.Tokens.{Identifier, Lexeme, Word, AliasName, Number, LeftBrace, RightBrace, EqualsSign, Semicolon, Comma, Lexes}
use Rattle.mof_syntax.specs.Grammar.{NoLiteral, Initializer, ValueInitializers, AliasClause}
use Rattle.mof_syntax.specs.Limits.{properties_limit, IsShortName, PropertyFits, ValueFits}
use Rattle.mof_codec.specs.declared.values.marks.Mark.{Mark}
use Rattle.mof_codec.specs.declared.values.marks.Mark.TheVariants as marks

-- tokens

-- after the character, where it comes first
abbrev pub char_rest : ℕ → List ℕ → Option (List ℕ)
char_rest code [] = None
char_rest code (c ∷ cs) = if c == code then Some cs else None

abbrev pub lexeme_of : Mark → Lexeme
lexeme_of marks.LeftBrace = LeftBrace
lexeme_of marks.RightBrace = RightBrace
lexeme_of marks.EqualsSign = EqualsSign
lexeme_of marks.Semicolon = Semicolon
lexeme_of marks.Comma = Comma

abbrev pub code_of : Mark → ℕ
code_of marks.LeftBrace = left_brace
code_of marks.RightBrace = right_brace
code_of marks.EqualsSign = equals_sign
code_of marks.Semicolon = semicolon
code_of marks.Comma = comma

abbrev pub IsMark : Mark → List Lexeme → List Lexeme → Type 0
IsMark mark us ts = us ≡ lexeme_of mark ∷ ts

-- a word that is the keyword by fold
abbrev pub IsKeyword : List ℕ → List Lexeme → List Lexeme → Type 0
IsKeyword keyword us ts = (w : List ℕ) × (us ≡ Word w ∷ ts) × SameName w keyword

abbrev pub IsWord : List Lexeme → List ℕ → List Lexeme → Type 0
IsWord us name ts = us ≡ Word name ∷ ts

abbrev pub IsAlias : List Lexeme → List ℕ → List Lexeme → Type 0
IsAlias us name ts = us ≡ AliasName name ∷ ts

abbrev pub IsNumber : List Lexeme → ℤ → List Lexeme → Type 0
IsNumber us z ts = us ≡ Number z ∷ ts

abbrev pub NoIdentifier : List ℕ → Type 0
NoIdentifier cs = (name rest : List ℕ) → Identifier cs name rest → ⊥

abbrev pub DollarIdentifier : List ℕ → List ℕ → List ℕ → Type 0
DollarIdentifier cs name rest = (others : List ℕ) × (cs ≡ dollar ∷ others) × Identifier others name rest

abbrev pub NoDollarIdentifier : List ℕ → Type 0
NoDollarIdentifier cs = (name rest : List ℕ) → DollarIdentifier cs name rest → ⊥

-- of any length
abbrev pub AnyText : List ℕ → Type 0
AnyText text = ⊤

-- the integer of a sign and a magnitude
abbrev pub signed : Bool → ℕ → ℤ
signed true n = neg_ℤ (pos n)
signed false n = pos n

-- whether a minus comes first, and what is after a sign
abbrev pub is_negative : List ℕ → Bool
is_negative [] = false
is_negative (c ∷ cs) = c == minus_sign

abbrev pub sign_rest : List ℕ → List ℕ
sign_rest [] = []
sign_rest (c ∷ cs) = if c == minus_sign || c == plus_sign then cs else c ∷ cs

-- the number, or both are past all that the integers of a text may be
abbrev pub IsCapped : ℕ → ℕ → Type 0
IsCapped n capped = (capped ≡ n) ⊎ ((2 ^ 64 ≤ n) × (2 ^ 64 ≤ capped))

-- after separators stands a quote
pub record BeginsQuote (cs rest : List ℕ) : Type 0 where
  pub left : List ℕ
  pub separators : Separators cs left
  pub split : left ≡ quote ∷ rest

-- if tokens come first, the first is no literal
abbrev pub NoLiteralFirst : List ℕ → Type 0
NoLiteralFirst cs = (us : List Lexeme) → Lexes cs us → NoLiteral us

-- the characters after a quote are a literal, whose text is added, and then the rest
abbrev pub AddsQuoted : List ℕ → List ℕ → List ℕ → List ℕ → Type 0
AddsQuoted before cs after rest = (text : List ℕ) × Quoted cs text rest × (after ≡ before ++ text)

abbrev pub NoQuoted : List ℕ → Type 0
NoQuoted cs = (text rest : List ℕ) → Quoted cs text rest → ⊥

-- a character that stands in a literal for itself
abbrev pub is_plain : ℕ → Bool
is_plain c = not ((c == quote) || (c == backslash))

-- a literal goes on by the characters of a text, and then the rest
pub record GoesOnBy (cs text rest : List ℕ) : Type 0 where
  pub on : (more after : List ℕ) → Quoted rest more after → Quoted cs (text ++ more) after
  pub only : (whole after : List ℕ) → Quoted cs whole after → (more : List ℕ) × Quoted rest more after

-- a literal goes on by the characters up to the rest
pub record IsPlainTo (cs rest : List ℕ) : Type 0 where
  pub front : List ℕ
  pub split : cs ≡ front ++ rest
  pub goes : GoesOnBy cs front rest

-- a literal goes on by one character, itself or by an escape
abbrev pub GoesOnByOne : List ℕ → ℕ → List ℕ → Type 0
GoesOnByOne cs c rest = GoesOnBy cs (c ∷ []) rest × (length rest < length cs)

-- a literal goes on by its quote alone
abbrev pub OnlyQuoteFirst : List ℕ → Type 0
OnlyQuoteFirst cs = (text rest : List ℕ) → Quoted cs text rest → cs ≡ quote ∷ rest

abbrev pub NoEscape : List ℕ → Type 0
NoEscape cs = (value : ℕ) (rest : List ℕ) → Escape cs value rest → ⊥

-- after the x of an escape: one to four digits of a character, and the rest
pub record HexEscape (cs : List ℕ) (value : ℕ) (rest : List ℕ) : Type 0 where
  pub digit : ℕ
  pub after : List ℕ
  pub split : cs ≡ digit ∷ after
  pub is_digit : digit_of 16 digit ≡ true
  pub digits : HexDigits 3 (digit_value digit) after value rest
  pub scalar : is_surrogate value ≡ false

abbrev pub NoHexEscape : List ℕ → Type 0
NoHexEscape cs = (value : ℕ) (rest : List ℕ) → HexEscape cs value rest → ⊥

-- arrays and properties

-- after the opening brace: the elements, and the other
abbrev pub IsArray : List Lexeme → List Scalar → List Lexeme → Type 0
IsArray us elements ts = Initializer (LeftBrace ∷ us) (Many elements) ts

abbrev pub ArrayFits : List Scalar → Type 0
ArrayFits elements = ValueFits (Many elements)

abbrev pub IsProperty : List Lexeme → Property → List Lexeme → Type 0
IsProperty us p ts =
    (vs : List Lexeme) × (us ≡ Word p.name ∷ EqualsSign ∷ vs) × Initializer vs p.value (Semicolon ∷ ts)

pub record PropertiesFit (properties : List Property) : Type 0 where
  pub count : length properties ≤ properties_limit
  pub each : AllByRecursion PropertyFits properties

-- declarations

-- `instance`, `of` and the class
abbrev pub IsHead : List Lexeme → List ℕ → List Lexeme → Type 0
IsHead us class ts =
    (i : List ℕ) × (o : List ℕ) × (us ≡ Word i ∷ Word o ∷ Word class ∷ ts) × SameName i (codes "instance")
    × SameName o (codes "of")

-- an alias, or none, and the brace
abbrev pub IsNaming : List Lexeme → Option (List ℕ) → List Lexeme → Type 0
IsNaming us alias ts = AliasClause us alias (LeftBrace ∷ ts)

abbrev pub NamingFits : Option (List ℕ) → Type 0
NamingFits alias = IfSome alias IsShortName

abbrev pub IsDeclaration : List Lexeme → Instance → List Lexeme → Type 0
IsDeclaration us i ts =
    (vs ws : List Lexeme) × IsHead us i.class vs × IsNaming vs i.alias ws
    × ValueInitializers ws i.properties (Semicolon ∷ ts)
