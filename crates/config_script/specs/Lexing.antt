-- The tokens as code finds them: what comes first in a text and what is left after it, computed. That these are the
-- tokens of the definitions is proved of them in proofs/.
use Rattle.std.specs.Prelude.{◌==◌, ℕ, Bool, true, false, ◌||◌, List, [], ◌∷◌, ◌++◌, Option, Some, None, option_map, codes, if◌then◌else◌}
use Rattle.std.specs.Borrow.{Bor}
use Rattle.std.specs.Str.{chars}
use Rattle.mof_values.specs.Fold.{same_name}
use Rattle.mof_values.specs.Ident.{is_first, is_next}
use Rattle.mof_syntax.specs.Characters.{digit_of, is_blank}
use Rattle.mof_syntax.specs.Scanning.{after, stopped}
use Rattle.config_script.specs.declared.token.Token.TheVariants as tokens
use Rattle.config_script.specs.declared.token.Token as code
use Rattle.config_script.specs.Digits.{signed}
use Rattle.config_script.specs.Named.{name_chars, number_value}
use Rattle.config_script.specs.Tokens.{Token, Word, Text, Integer, True, False, Null, LeftBrace, RightBrace, EqualsSign, Semicolon, Comma, ArrayBegin, ArrayEnd}

-- what a token of the code stands for
abbrev pub token_of : code.Token → Token
token_of (tokens.Word text) = Word (chars text.now)
token_of (tokens.Text name) = Text (name_chars name)
token_of (tokens.Integer number) = Integer (number_value number)
token_of tokens.True = True
token_of tokens.False = False
token_of tokens.Null = Null
token_of tokens.LeftBrace = LeftBrace
token_of tokens.RightBrace = RightBrace
token_of tokens.EqualsSign = EqualsSign
token_of tokens.Semicolon = Semicolon
token_of tokens.Comma = Comma
token_of tokens.ArrayBegin = ArrayBegin
token_of tokens.ArrayEnd = ArrayEnd

-- a token, and what is left
abbrev pub Lexed : Type 0
Lexed = Option (Token × List ℕ)

abbrev pub lexed : Token → List ℕ → Lexed
lexed t rest = Some (t, rest)

abbrev pub lexed_of : Option (code.Token × Bor (List ℕ)) → Lexed
lexed_of found = option_map (λ x. (token_of x.0, chars x.1.now)) found

-- some characters, and what is left
abbrev pub Split : Type 0
Split = Option (List ℕ × List ℕ)

abbrev pub split : List ℕ → List ℕ → Split
split front rest = Some (front, rest)

abbrev pub split_of : Option (Bor (List ℕ) × Bor (List ℕ)) → Split
split_of found = option_map (λ x. (chars x.0.now, chars x.1.now)) found

abbrev pub as_token : (List ℕ → Token) → Split → Lexed
as_token f found = option_map (λ x. (f x.0, x.1)) found

-- with characters in front
abbrev pub onto : List ℕ → Split → Split
onto front found = option_map (λ x. (front ++ x.0, x.1)) found

-- the characters of the class that come first
abbrev pub taken : (ℕ → Bool) → List ℕ → List ℕ
taken p [] = []
taken p (c ∷ cs) = if p c then c ∷ taken p cs else []

abbrev pub identifier_in : List ℕ → Split
identifier_in [] = None
identifier_in (c ∷ cs) = if is_first c then Some (c ∷ taken is_next cs, after is_next cs) else None

abbrev pub digits_rest : List ℕ → Option (List ℕ)
digits_rest [] = None
digits_rest (c ∷ cs) =
    if c == 48 then stopped cs
    else if digit_of 10 c then stopped (after (digit_of 10) cs)
    else None

abbrev pub with_rest : List ℕ → Option (List ℕ) → Split
with_rest front rest = option_map (λ r. (front, r)) rest

abbrev pub digits_in : List ℕ → Split
digits_in [] = None
digits_in (c ∷ cs) =
    if c == 48 then with_rest (48 ∷ []) (stopped cs)
    else if digit_of 10 c then with_rest (c ∷ taken (digit_of 10) cs) (stopped (after (digit_of 10) cs))
    else None

abbrev pub verbatim_in : List ℕ → Split
verbatim_in [] = None
verbatim_in (c ∷ []) = if c == 39 then Some ([], []) else None
verbatim_in (c ∷ d ∷ cs) =
    if c == 39 then (if d == 39 then onto (39 ∷ []) (verbatim_in cs) else Some ([], d ∷ cs))
    else onto (c ∷ []) (verbatim_in (d ∷ cs))

-- from the first apostrophe on
abbrev pub from_apostrophe : List ℕ → List ℕ
from_apostrophe [] = []
from_apostrophe (c ∷ cs) = if c == 39 then c ∷ cs else from_apostrophe cs

-- after an apostrophe that comes first
abbrev pub apostrophe_rest : List ℕ → Option (List ℕ)
apostrophe_rest [] = None
apostrophe_rest (c ∷ cs) = if c == 39 then Some cs else None

abbrev pub quoted_in : List ℕ → Split
quoted_in [] = None
quoted_in (c ∷ cs) =
    if c == 34 then Some ([], cs)
    else if c == 36 || c == 96 then None
    else onto (c ∷ []) (quoted_in cs)

abbrev pub constant_named : List ℕ → List ℕ → Lexed
constant_named name rest =
    if same_name name (codes "true") then Some (True, rest)
    else if same_name name (codes "false") then Some (False, rest)
    else if same_name name (codes "null") then Some (Null, rest)
    else None

abbrev pub constant_of : Split → Lexed
constant_of None = None
constant_of (Some x) = constant_named x.0 x.1

abbrev pub constant_in : List ℕ → Lexed
constant_in cs = constant_of (identifier_in cs)

abbrev pub array_begin_in : List ℕ → Lexed
array_begin_in [] = None
array_begin_in (c ∷ cs) = if c == 40 then Some (ArrayBegin, cs) else None

abbrev pub integer_in : Bool → List ℕ → Lexed
integer_in negative cs = as_token (λ ds. Integer (signed negative ds)) (digits_in cs)

-- the token that comes first
abbrev pub first_token : List ℕ → Lexed
first_token [] = None
first_token (c ∷ cs) =
    if c == 123 then Some (LeftBrace, cs)
    else if c == 125 then Some (RightBrace, cs)
    else if c == 61 then Some (EqualsSign, cs)
    else if c == 59 then Some (Semicolon, cs)
    else if c == 44 then Some (Comma, cs)
    else if c == 41 then Some (ArrayEnd, cs)
    else if c == 64 then array_begin_in cs
    else if c == 39 then as_token Text (verbatim_in cs)
    else if c == 34 then as_token Text (quoted_in cs)
    else if c == 36 then constant_in cs
    else if c == 45 then integer_in true cs
    else if digit_of 10 c then integer_in false (c ∷ cs)
    else as_token Word (identifier_in (c ∷ cs))

-- after the separators that come first, and whether a line feed is among them or came before. `within` says whether a
-- comment goes on
abbrev pub separated : Bool → Bool → List ℕ → Bool × List ℕ
separated fed within [] = (fed, [])
separated fed true (c ∷ cs) = if c == 10 then separated true false cs else separated fed true cs
separated fed false (c ∷ cs) =
    if c == 10 then separated true false cs
    else if is_blank c then separated fed false cs
    else if c == 35 then separated fed true cs
    else (fed, c ∷ cs)
