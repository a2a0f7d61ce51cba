-- What is after a construct is the end of the characters that it was read from.
use Rattle.std.proofs.Common.{◌≡◌, ◌<◌, ◌≤◌, ◌+◌, ℕ, Bool, List, [], ◌∷◌, ◌++◌, length, refl, sym, ap, ◌∙◌, append_assoc, length-append, arith}
use Rattle.mof_values.specs.Ident.{is_next}
use Rattle.mof_syntax.specs.Characters.{EndsWith, digit_of, Run, stop, more}
use Rattle.mof_syntax.specs.Separators.{LineComment, at_end, at_feed, over, BlockComment, shut, inside, Separator, blank, line, block, Separators, none, another}
use Rattle.mof_syntax.specs.Strings.{HexDigits, full, ended, digit, Escape, short, hexadecimal, Quoted, closed, plain, escaped}
use Rattle.mof_syntax.specs.Integers.{Magnitude, decimal_value, octal_value, hex_value, binary_value, IntegerValue, unsigned, plus, minus}
use Rattle.mof_syntax.specs.Tokens.{Identifier, identifier, Lexeme, IsToken, word, alias, literal, integer, left_brace_mark, right_brace_mark, equals_mark, semicolon_mark, comma_mark}

-- some characters, and then the rest
abbrev pub EndsWithin : List ℕ → List ℕ → Type 0
EndsWithin cs rest = (c : ℕ) × (front : List ℕ) × (cs ≡ c ∷ (front ++ rest))

all_of : (cs : List ℕ) → EndsWith cs cs
all_of cs = ([], refl)

next : (c : ℕ) (cs rest : List ℕ) → EndsWith cs rest → EndsWith (c ∷ cs) rest
next c cs rest e = (c ∷ e.0, ap (λ (xs : List ℕ). c ∷ xs) e.1)

within : (c : ℕ) (cs rest : List ℕ) → EndsWith cs rest → EndsWithin (c ∷ cs) rest
within c cs rest e = (c, e.0, ap (λ (xs : List ℕ). c ∷ xs) e.1)

pub weak : (cs rest : List ℕ) → EndsWithin cs rest → EndsWith cs rest
weak cs rest e = (e.0 ∷ e.1, e.2)

join : (cs mid rest : List ℕ) → EndsWith cs mid → EndsWith mid rest → EndsWith cs rest
join cs mid rest a b = (a.0 ++ b.0, a.1 ∙ ap (λ (xs : List ℕ). a.0 ++ xs) b.1 ∙ sym (append_assoc a.0 b.0 rest))

pub run_ends : (p : ℕ → Bool) (cs run rest : List ℕ) → Run p cs run rest → EndsWith cs rest
run_ends p cs run rest (stop r) = all_of r
run_ends p cs run rest (more c us v r e on) = next c us r (run_ends p us v r on)

run_within : (p : ℕ → Bool) (cs rest : List ℕ) (d : ℕ) (ds : List ℕ) → Run p cs (d ∷ ds) rest → EndsWithin cs rest
run_within p cs rest d ds (more c us v r e on) = within c us r (run_ends p us v r on)

join_within : (cs mid rest : List ℕ) → EndsWithin cs mid → EndsWith mid rest → EndsWithin cs rest
join_within cs mid rest a b = (a.0, a.1 ++ b.0, a.2 ∙ ap (λ (xs : List ℕ). a.0 ∷ (a.1 ++ xs)) b.1 ∙ ap (λ (xs : List ℕ). a.0 ∷ xs) (sym (append_assoc a.1 b.0 rest)))

line_ends : (cs rest : List ℕ) → LineComment cs rest → EndsWith cs rest
line_ends cs rest at_end = all_of []
line_ends cs rest (at_feed r) = all_of (10 ∷ r)
line_ends cs rest (over c us r e l) = next c us r (line_ends us r l)

block_ends : (cs rest : List ℕ) → BlockComment cs rest → EndsWith cs rest
block_ends cs rest (shut r) = next 42 (47 ∷ r) r (next 47 r r (all_of r))
block_ends cs rest (inside c us r apart b) = next c us r (block_ends us r b)

pub separator_ends : (cs rest : List ℕ) → Separator cs rest → EndsWithin cs rest
separator_ends cs rest (blank c r e) = within c r r (all_of r)
separator_ends cs rest (line us r l) = within 47 (47 ∷ us) r (next 47 us r (line_ends us r l))
separator_ends cs rest (block us r b) = within 47 (42 ∷ us) r (next 42 us r (block_ends us r b))

pub separators_end : (cs rest : List ℕ) → Separators cs rest → EndsWith cs rest
separators_end cs rest (none r) = all_of r
separators_end cs rest (another us after r s ss) = join us after r (weak us after (separator_ends us after s)) (separators_end after r ss)

hex_ends : (count value : ℕ) (cs : List ℕ) (total : ℕ) (rest : List ℕ) → HexDigits count value cs total rest → EndsWith cs rest
hex_ends count value cs total rest (full v r) = all_of r
hex_ends count value cs total rest (ended n v r s) = all_of r
hex_ends count value cs total rest (digit n v d t us r e h) = next d us r (hex_ends n _ us t r h)

pub escape_ends : (cs : List ℕ) (value : ℕ) (rest : List ℕ) → Escape cs value rest → EndsWithin cs rest
escape_ends cs value rest (short e v r is) = within e r r (all_of r)
escape_ends cs value rest (hexadecimal x d v us r isx isd h ok) = within x (d ∷ us) r (next d us r (hex_ends 3 _ us v r h))

quoted_ends : (cs text rest : List ℕ) → Quoted cs text rest → EndsWith cs rest
quoted_ends cs text rest (closed r) = next 34 r r (all_of r)
quoted_ends cs text rest (plain c us t r no_quote no_escape q) = next c us r (quoted_ends us t r q)
quoted_ends cs text rest (escaped v us after t r e q) = next 92 us r (join us after r (weak us after (escape_ends us v after e)) (quoted_ends after t r q))

identifier_ends : (cs name rest : List ℕ) → Identifier cs name rest → EndsWithin cs rest
identifier_ends cs name rest (identifier c us tail r e run s) = within c us r (run_ends is_next us tail r run)

magnitude_ends : (cs : List ℕ) (n : ℕ) (rest : List ℕ) → Magnitude cs n rest → EndsWithin cs rest
magnitude_ends cs n rest (decimal_value d us ds r nz is run) = within d us r (run_ends (digit_of 10) us ds r run)
magnitude_ends cs n rest (octal_value us ds r run) = within 48 us r (run_ends (digit_of 8) us ds r run)
magnitude_ends cs n rest (hex_value x d us ds r is run) = within 48 (x ∷ us) r (next x us r (run_ends (digit_of 16) us (d ∷ ds) r run))
magnitude_ends cs n rest (binary_value d b us ds r run is) = join_within us (b ∷ r) r (run_within (digit_of 2) us (b ∷ r) d ds run) (next b r r (all_of r))

integer_ends : (cs : List ℕ) (rest : List ℕ) (z : _) → IntegerValue cs z rest → EndsWithin cs rest
integer_ends cs rest z (unsigned us n r m) = magnitude_ends us n r m
integer_ends cs rest z (plus us n r m) = within 43 us r (weak us r (magnitude_ends us n r m))
integer_ends cs rest z (minus us n r m) = within 45 us r (weak us r (magnitude_ends us n r m))

pub token_ends : (cs : List ℕ) (t : Lexeme) (rest : List ℕ) → IsToken cs t rest → EndsWithin cs rest
token_ends cs t rest (word us name r i) = identifier_ends us name r i
token_ends cs t rest (alias us name r i) = within 36 us r (weak us r (identifier_ends us name r i))
token_ends cs t rest (literal us text r q) = within 34 us r (quoted_ends us text r q)
token_ends cs t rest (integer us z r i s) = integer_ends us r z i
token_ends cs t rest (left_brace_mark r) = within 123 r r (all_of r)
token_ends cs t rest (right_brace_mark r) = within 125 r r (all_of r)
token_ends cs t rest (equals_mark r) = within 61 r r (all_of r)
token_ends cs t rest (semicolon_mark r) = within 59 r r (all_of r)
token_ends cs t rest (comma_mark r) = within 44 r r (all_of r)

-- places

pub EndsWith-length : (cs rest : List ℕ) → EndsWith cs rest → length rest ≤ length cs
EndsWith-length cs rest e =
    let sum : length cs ≡ length e.0 + length rest = ap length e.1 ∙ length-append e.0 rest in
    omega arith

pub EndsWithin-length : (cs rest : List ℕ) → EndsWithin cs rest → length rest < length cs
EndsWithin-length cs rest e =
    let sum : length cs ≡ length (e.0 ∷ e.1) + length rest = ap length e.2 ∙ length-append (e.0 ∷ e.1) rest in
    omega arith
