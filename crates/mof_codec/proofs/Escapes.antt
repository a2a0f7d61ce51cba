-- Escapes and the characters of literals.
use Rattle.std.proofs.Common.{◌≡◌, ◌<◌, ◌≤◌, ◌+◌, ◌*◌, ℕ, zero, suc, true, false, List, ◌∷◌, length, Some, None, refl, sym, ap, subst, ◌∙◌, arith}
use Rattle.std.specs.Prelude.{◌==◌}
use Rattle.std.proofs.lemmas.Bool.{true≢false}
use Rattle.std.proofs.lemmas.Bool.Decides.{nat_tests}
use Rattle.std.proofs.lemmas.Option.{none-some}
use Rattle.std.specs.Char.{digit_value, IsScalar}
use Rattle.mof_syntax.specs.Characters.{quote, backslash, digit_of, is_x}
use Rattle.mof_syntax.specs.Strings.{short_escape, is_surrogate, HexDigits, full, ended, digit, Escape, short, hexadecimal, plain, escaped}
use Rattle.mof_syntax.specs.Scanning.{hex_tail, BeginsWithDigit}
use Rattle.mof_syntax.proofs.Scans.{hex-read, read-hex, escape-read}
use Rattle.mof_syntax.proofs.Literals.{SameLiteral-start, goes_on_plain, goes_on_escaped}
use Rattle.mof_syntax.proofs.Suffixes.{EndsWithin-length, escape_ends}
use Rattle.mof_codec.specs.Values.{HexEscape, NoHexEscape, NoEscape, GoesOnByOne}

-- digits of an escape are below 16 ^ 4

bound_of : ℕ → ℕ → ℕ
bound_of zero b = b
bound_of (suc n) b = bound_of n (b * 16)

bound_grows : (n b : ℕ) → b ≤ bound_of n b
unfolding bound_of
bound_grows zero b = omega arith
bound_grows (suc n) b = omega (arith, bound_grows n (b * 16))

below_bound : (count value : ℕ) (cs : List ℕ) (total : ℕ) (rest : List ℕ) (b : ℕ) → value < b → HexDigits count value cs total rest → total < bound_of count b
unfolding bound_of
below_bound count value cs total rest b h (full v r) = h
below_bound count value cs total rest b h (ended n v r s) = omega (arith, bound_grows n b)
below_bound count value cs total rest b h (digit n v d t us r e more) = below_bound n (v * 16 + digit_value d) us t r (b * 16) (next v d b h e) more
  where
    next : (x y z : ℕ) → x < z → digit_of 16 y ≡ true → x * 16 + digit_value y < z * 16
    next x y z below is = let small : digit_value y < 16 = grind (arith, nat_tests) in omega arith

hex_small : (d : ℕ) (cs : List ℕ) (value : ℕ) (rest : List ℕ) → digit_of 16 d ≡ true → HexDigits 3 (digit_value d) cs value rest → value < 65536
unfolding bound_of
hex_small d cs value rest e h =
    let first : digit_value d < 16 = grind (arith, nat_tests) in
    below_bound 3 (digit_value d) cs value rest 16 first h

scalar_from : (v : ℕ) → v < 65536 → is_surrogate v ≡ false → IsScalar v
scalar_from v small e = grind (arith, nat_tests)

scalar_to : (v : ℕ) → IsScalar v → is_surrogate v ≡ false
scalar_to v s = grind (arith, nat_tests)

-- after an x

pub hex_escape_there : (cs after rest : List ℕ) (first value c : ℕ) → BeginsWithDigit cs first after → value ≡ (hex_tail 3 first after).0 → rest ≡ (hex_tail 3 first after).1
    → IsScalar value → c ≡ value → HexEscape cs c rest
hex_escape_there cs after rest first value c b is_value is_rest scalar same = record {
  digit = b.digit;
  after = after;
  split = b.split;
  is_digit = b.is_digit;
  digits = subst (λ (n : ℕ). HexDigits 3 n after c rest) (sym b.is_value)
      (subst (λ (n : ℕ). HexDigits 3 first after n rest) (sym (same ∙ is_value)) (subst (λ (xs : List ℕ). HexDigits 3 first after (hex_tail 3 first after).0 xs) (sym is_rest) (read-hex 3 first after)));
  scalar = rw same (scalar_to value scalar);
}

pub hex_escape_absent : (cs after : List ℕ) (first value : ℕ) → BeginsWithDigit cs first after → value ≡ (hex_tail 3 first after).0 → (IsScalar value → ⊥) → NoHexEscape cs
hex_escape_absent cs after first value b is_value other v rest h =
    let at : h.digit ≡ b.digit = head_same h.digit b.digit h.after after (sym h.split ∙ b.split) in
    let on : h.after ≡ after = tail_same h.digit b.digit h.after after (sym h.split ∙ b.split) in
    let start : digit_value h.digit ≡ first = ap digit_value at ∙ b.is_value in
    let total : (hex_tail 3 (digit_value h.digit) h.after).0 ≡ v = (hex-read 3 (digit_value h.digit) v h.after rest h.digits).0 in
    let here : v ≡ value = sym total ∙ ap (λ (n : ℕ). (hex_tail 3 n h.after).0) start ∙ ap (λ (xs : List ℕ). (hex_tail 3 first xs).0) on ∙ sym is_value in
    other (subst IsScalar here (scalar_from v (hex_small h.digit h.after v rest h.is_digit h.digits) h.scalar))
  where
    head_same : (x y : ℕ) (xs ys : List ℕ) → x ∷ xs ≡ y ∷ ys → x ≡ y
    head_same x y xs ys e = cc

    tail_same : (x y : ℕ) (xs ys : List ℕ) → x ∷ xs ≡ y ∷ ys → xs ≡ ys
    tail_same x y xs ys e = cc

-- after a backslash

pub escape_short : (cs rest : List ℕ) (c value : ℕ) → cs ≡ c ∷ rest → short_escape c ≡ Some value → Escape cs value rest
escape_short cs rest c value e is = subst (λ (xs : List ℕ). Escape xs value rest) (sym e) (short c value rest is)

pub escape_hex : (cs others : List ℕ) (c value : ℕ) (rest : List ℕ) → cs ≡ c ∷ others → is_x c ≡ true → HexEscape others value rest → Escape cs value rest
escape_hex cs others c value rest e is h =
    subst (λ (xs : List ℕ). Escape xs value rest) (sym (e ∙ ap (λ (xs : List ℕ). c ∷ xs) h.split)) (hexadecimal c h.digit value h.after rest is h.is_digit h.digits h.scalar)

data EscapeCase (c : ℕ) (others : List ℕ) (value : ℕ) (rest : List ℕ) : Type 0 where
  at_short : short_escape c ≡ Some value → EscapeCase c others value rest
  at_hex : is_x c ≡ true → HexEscape others value rest → EscapeCase c others value rest

escape_case : (c : ℕ) (others : List ℕ) (value : ℕ) (rest : List ℕ) → Escape (c ∷ others) value rest → EscapeCase c others value rest
escape_case c others value rest (short d v r is) = at_short is
escape_case c others value rest (hexadecimal x d v us r isx isd h ok) = at_hex isx (record { digit = d; after = us; split = refl; is_digit = isd; digits = h; scalar = ok })

absent_case : (c : ℕ) (others : List ℕ) (value : ℕ) (rest : List ℕ) → short_escape c ≡ None → (is_x c ≡ true → NoHexEscape others) → EscapeCase c others value rest → ⊥
absent_case c others value rest e absent (at_short is) = none-some value (sym e ∙ is)
absent_case c others value rest e absent (at_hex is h) = absent is value rest h

pub escape_absent : (cs others : List ℕ) (c : ℕ) → cs ≡ c ∷ others → short_escape c ≡ None → (is_x c ≡ true → NoHexEscape others) → NoEscape cs
escape_absent cs others c e no_short absent value rest i =
    absent_case c others value rest no_short absent (escape_case c others value rest (subst (λ (xs : List ℕ). Escape xs value rest) e i))

pub x_absent : (c : ℕ) (others : List ℕ) → is_x c ≡ false → is_x c ≡ true → NoHexEscape others
x_absent c others e h = absurd (true≢false (sym h ∙ e))

-- the characters of a literal

pub goes_on_by_plain : (cs rest : List ℕ) (c : ℕ) → cs ≡ c ∷ rest → (c == quote) ≡ false → (c == backslash) ≡ false → GoesOnByOne cs c rest
goes_on_by_plain cs rest c e no_quote no_escape = subst (λ (xs : List ℕ). GoesOnByOne xs c rest) (sym e) (
  record {
    on = λ text after q. plain c rest text after no_quote no_escape q;
    only = λ text after q. (goes_on_plain (c ∷ rest) rest c no_quote no_escape (SameLiteral-start (c ∷ rest))).only after (text, q);
  },
  omega arith,
)

pub goes_on_by_escape : (cs others rest : List ℕ) (c value : ℕ) → cs ≡ c ∷ others → c ≡ backslash → Escape others value rest → GoesOnByOne cs value rest
goes_on_by_escape cs others rest c value e is i = subst (λ (xs : List ℕ). GoesOnByOne xs value rest) (sym (e ∙ ap (λ (d : ℕ). d ∷ others) is)) (
  record {
    on = λ text after q. escaped value others rest text after i q;
    only = λ text after q.
        (goes_on_escaped (backslash ∷ others) others rest (escape-read others value rest i) (SameLiteral-start (backslash ∷ others))).only after (text, q);
  },
  (let less : length rest < length others = EndsWithin-length others rest (escape_ends others value rest i) in omega arith),
)
