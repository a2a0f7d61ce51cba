-- What each step of the machine over characters computes. That it takes exactly the texts of the wide grammar is proved
-- of it in proofs/.
use Rattle.std.specs.Prelude.{◌==◌, ℕ, zero, suc, ◌+◌, ◌*◌, Bool, true, false, ◌||◌, nat_le, List, [], ◌∷◌, Option, Some, None, is_some, drop, codes, if◌then◌else◌}
use Rattle.std.specs.Char.{digit_value, to_ascii_lowercase}
use Rattle.mof_values.specs.Ident.{is_first, is_next}
use Rattle.mof_syntax.specs.Characters.{line_feed, quote, dollar, star, comma, slash, digit_zero, semicolon, equals_sign, backslash, left_brace, right_brace, is_blank, digit_of, is_x, is_b, is_sign}
use Rattle.mof_syntax.specs.Strings.{short_escape, is_surrogate}
use Rattle.mof_codec.specs.declared.machine.state.Keyword.{Keyword}
use Rattle.mof_codec.specs.declared.machine.state.Keyword.TheVariants as keywords
use Rattle.mof_codec.specs.declared.machine.state.Place.{Place}
use Rattle.mof_codec.specs.declared.machine.state.Place.TheVariants.{Start, AfterInstance, AfterOf, AfterClass, AfterAs, AfterAlias, Body, AfterBody, AfterName, AfterEquals, AfterStrings, AfterValue, InArray, AfterComma, AfterElementStrings, AfterElement}
use Rattle.mof_codec.specs.declared.machine.state.Numeral.{Numeral}
use Rattle.mof_codec.specs.declared.machine.state.Numeral.TheVariants as numerals
use Rattle.mof_codec.specs.declared.machine.characters.Kind.{Kind}
use Rattle.mof_codec.specs.declared.machine.characters.Kind.TheVariants as kinds
use Rattle.mof_codec.specs.declared.machine.state.Half.{Half}
use Rattle.mof_codec.specs.declared.machine.state.Half.TheVariants as halves
use Rattle.mof_codec.specs.declared.machine.state.State.{State}
use Rattle.mof_codec.specs.declared.machine.state.Event.{Event}
use Rattle.mof_codec.specs.declared.machine.state.Event.TheVariants.{Quiet, Declaration, Property, Element}

abbrev pub mark : Event → Place → Half → Option State
mark e p h = Some (record { place = p; half = h; begun = e })

abbrev pub go : Place → Half → Option State
go p h = mark Quiet p h

-- the letters of a keyword, in lower case
abbrev pub letters : Keyword → List ℕ
letters keywords.Instance = codes "instance"
letters keywords.Of = codes "of"
letters keywords.As = codes "as"
letters keywords.True = codes "true"
letters keywords.False = codes "false"
letters keywords.Null = codes "null"

abbrev pub kind_of : ℕ → Kind
kind_of c =
    if is_first c then kinds.Letter
    else if digit_of 10 c then kinds.Digit
    else if is_sign c then kinds.Sign
    else if c == quote then kinds.Quote
    else if c == dollar then kinds.Dollar
    else if c == left_brace then kinds.LeftBrace
    else if c == right_brace then kinds.RightBrace
    else if c == equals_sign then kinds.EqualsSign
    else if c == semicolon then kinds.Semicolon
    else if c == comma then kinds.Comma
    else if is_blank c then kinds.Blank
    else if c == slash then kinds.Slash
    else kinds.Other

abbrev pub head_of : List ℕ → Option ℕ
head_of [] = None
head_of (l ∷ ls) = Some l

-- the letter of the keyword that comes next, if one does
abbrev pub keyed : Option ℕ → Event → Keyword → ℕ → Place → ℕ → Option State
keyed None e k n p c = None
keyed (Some l) e k n p c = if to_ascii_lowercase c == l then mark e p (halves.Key k (n + 1)) else None

abbrev pub first_letter : Event → Keyword → Place → ℕ → Option State
first_letter e k p c = keyed (head_of (letters k)) e k 0 p c

abbrev pub number_begun : Event → Place → ℕ → Option State
number_begun e p c =
    if c == digit_zero then mark e p (halves.Integer numerals.Zero)
    else if c == 49 then mark e p (halves.Integer numerals.Bits)
    else if digit_of 10 c then mark e p (halves.Integer numerals.Decimal)
    else None

abbrev pub value_word : Event → Place → ℕ → Option State
value_word e p c =
    if to_ascii_lowercase c == 116 then mark e p (halves.Key keywords.True 1)
    else if to_ascii_lowercase c == 102 then mark e p (halves.Key keywords.False 1)
    else if to_ascii_lowercase c == 110 then mark e p (halves.Key keywords.Null 1)
    else None

-- a literal leads to one place, any other single value to another
abbrev pub scalar_begun : Event → Place → Place → Kind → ℕ → Option State
scalar_begun e s p kinds.Letter c = value_word e p c
scalar_begun e s p kinds.Digit c = number_begun e p c
scalar_begun e s p kinds.Sign c = mark e p (halves.Integer numerals.Sign)
scalar_begun e s p kinds.Quote c = mark e s halves.Literal
scalar_begun e s p kinds.Dollar c = mark e p halves.Alias
scalar_begun e s p _ c = None

abbrev pub opened : Place → Kind → ℕ → Option State
opened Start kinds.Letter c = first_letter Declaration keywords.Instance AfterInstance c
opened AfterInstance kinds.Letter c = first_letter Quiet keywords.Of AfterOf c
opened AfterOf kinds.Letter c = go AfterClass halves.Name
opened AfterClass kinds.LeftBrace c = go Body halves.Gap
opened AfterClass kinds.Letter c = first_letter Quiet keywords.As AfterAs c
opened AfterAs kinds.Dollar c = go AfterAlias halves.Alias
opened AfterAlias kinds.LeftBrace c = go Body halves.Gap
opened Body kinds.RightBrace c = go AfterBody halves.Gap
opened Body kinds.Letter c = mark Property AfterName halves.Name
opened AfterBody kinds.Semicolon c = go Start halves.Gap
opened AfterName kinds.EqualsSign c = go AfterEquals halves.Gap
opened AfterEquals kinds.LeftBrace c = go InArray halves.Gap
opened AfterEquals k c = scalar_begun Quiet AfterStrings AfterValue k c
opened AfterStrings kinds.Quote c = go AfterStrings halves.Literal
opened AfterStrings kinds.Semicolon c = go Body halves.Gap
opened AfterValue kinds.Semicolon c = go Body halves.Gap
opened InArray kinds.RightBrace c = go AfterValue halves.Gap
opened InArray k c = scalar_begun Element AfterElementStrings AfterElement k c
opened AfterComma k c = scalar_begun Element AfterElementStrings AfterElement k c
opened AfterElementStrings kinds.Quote c = go AfterElementStrings halves.Literal
opened AfterElementStrings kinds.Comma c = go AfterComma halves.Gap
opened AfterElementStrings kinds.RightBrace c = go AfterValue halves.Gap
opened AfterElement kinds.Comma c = go AfterComma halves.Gap
opened AfterElement kinds.RightBrace c = go AfterValue halves.Gap
opened _ _ c = None

abbrev pub gapped : Place → Kind → ℕ → Option State
gapped p kinds.Blank c = go p halves.Gap
gapped p kinds.Slash c = go p halves.Slash
gapped p k c = opened p k c

-- the first character of a token or a separator
unfoldable pub begin : Place → ℕ → Option State
begin p c = gapped p (kind_of c) c

-- the character after a token that ends with an identifier character
abbrev pub ended : Place → ℕ → Option State
ended p c = if is_next c then None else begin p c

abbrev pub numbered : Numeral → Place → ℕ → Option State
numbered numerals.Sign p c = number_begun Quiet p c
numbered numerals.Zero p c =
    if is_x c then go p (halves.Integer numerals.Prefix)
    else if digit_of 2 c then go p (halves.Integer numerals.ZeroBits)
    else if digit_of 8 c then go p (halves.Integer numerals.Octal)
    else if is_b c then go p (halves.Integer numerals.Binary)
    else ended p c
numbered numerals.ZeroBits p c =
    if digit_of 2 c then go p (halves.Integer numerals.ZeroBits)
    else if digit_of 8 c then go p (halves.Integer numerals.Octal)
    else if is_b c then go p (halves.Integer numerals.Binary)
    else ended p c
numbered numerals.Octal p c = if digit_of 8 c then go p (halves.Integer numerals.Octal) else ended p c
numbered numerals.Bits p c =
    if digit_of 2 c then go p (halves.Integer numerals.Bits)
    else if digit_of 10 c then go p (halves.Integer numerals.Decimal)
    else if is_b c then go p (halves.Integer numerals.Binary)
    else ended p c
numbered numerals.Decimal p c = if digit_of 10 c then go p (halves.Integer numerals.Decimal) else ended p c
numbered numerals.Prefix p c = if digit_of 16 c then go p (halves.Integer numerals.Hexadecimal) else None
numbered numerals.Hexadecimal p c = if digit_of 16 c then go p (halves.Integer numerals.Hexadecimal) else ended p c
numbered numerals.Binary p c = ended p c

abbrev pub quoted : Place → ℕ → Option State
quoted p c = if c == quote then go p halves.Gap else if c == backslash then go p halves.Escape else go p halves.Literal

abbrev pub key_on : Option ℕ → Keyword → ℕ → Place → ℕ → Option State
key_on None k n p c = ended p c
key_on (Some l) k n p c = keyed (Some l) Quiet k n p c

-- no escape stands for it
abbrev pub is_no_char : ℕ → Bool
is_no_char v = is_surrogate v || nat_le 65536 v

abbrev pub digit_on : ℕ → ℕ → Place → ℕ → Option State
digit_on zero v p c = quoted p c
digit_on (suc n) v p c =
    if digit_of 16 c then (if is_no_char (v * 16 + digit_value c) then None else go p (halves.Digits n (v * 16 + digit_value c)))
    else quoted p c

-- the state after one more character
abbrev pub step : Half → Place → ℕ → Option State
step halves.Gap p c = begin p c
step halves.Slash p c = if c == slash then go p halves.Line else if c == star then go p halves.Block else None
step halves.Line p c = if c == line_feed then go p halves.Gap else go p halves.Line
step halves.Block p c = if c == star then go p halves.Star else go p halves.Block
step halves.Star p c = if c == slash then go p halves.Gap else if c == star then go p halves.Star else go p halves.Block
step halves.Name p c = if is_next c then go p halves.Name else begin p c
step halves.Alias p c = if is_first c then go p halves.Name else None
step (halves.Key k n) p c = key_on (head_of (drop n (letters k))) k n p c
step (halves.Integer f) p c = numbered f p c
step halves.Literal p c = quoted p c
step halves.Escape p c = if is_some (short_escape c) then go p halves.Literal else if is_x c then go p halves.EscapeX else None
step halves.EscapeX p c = if digit_of 16 c then go p (halves.Digits 3 (digit_value c)) else None
step (halves.Digits n v) p c = digit_on n v p c

abbrev pub key_read : Option ℕ → Bool
key_read None = true
key_read (Some l) = false

-- no token and no comment is half read
abbrev pub is_whole : Half → Bool
is_whole halves.Gap = true
is_whole halves.Line = true
is_whole halves.Name = true
is_whole (halves.Key k n) = key_read (head_of (drop n (letters k)))
is_whole (halves.Integer numerals.Sign) = false
is_whole (halves.Integer numerals.Prefix) = false
is_whole (halves.Integer f) = true
is_whole _ = false
