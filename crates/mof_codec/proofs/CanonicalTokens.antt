-- What is written of a text, an integer or a name is one token.
use Rattle.std.proofs.Common.{◌≡◌, ◌<◌, ◌+◌, ◌*◌, ◌/◌, ◌%◌, ◌^◌, inl, inr, ℕ, zero, suc, true, false, ◌&&◌, nat_lt, List, [], ◌∷◌, ◌++◌, length, get_or, Some, refl, sym, subst, arith, append_assoc, ℤ, pos, negsuc}
use Rattle.std.specs.Prelude.{◌==◌, nat_le}
use Rattle.std.specs.List.{flat_map, list_all}
use Rattle.std.specs.Char.{digit_value}
use Rattle.std.specs.Fmt.{decimal}
use Rattle.std.specs.Str.Parse.{AllDigits, digits_value}
use Rattle.std.proofs.lemmas.Bool.{and_parts}
use Rattle.std.proofs.lemmas.Bool.Decides.{nat_tests}
use Rattle.std.proofs.lemmas.Fmt.{decimal_is_IsNumeral, decimal_digit, first_decimal}
use Rattle.std.proofs.lemmas.Int.{ints}
use Rattle.mof_values.specs.Ident.{is_first, is_next, IsIdent}
use Rattle.mof_syntax.specs.Canonical.{hex_glyph, literal_char, canonical_literal}
use Rattle.mof_syntax.specs.Characters.{quote, backslash, dollar, digit_zero, digit_of, Run, stop, more, Stops}
use Rattle.mof_syntax.specs.Strings.{short_escape, HexDigits, full, digit, Escape, short, hexadecimal, Quoted, closed, plain, escaped}
use Rattle.mof_syntax.specs.Integers.{Magnitude, decimal_value, octal_value, IntegerValue, unsigned, minus}
use Rattle.mof_syntax.specs.Limits.{IsInRange}
use Rattle.mof_syntax.specs.Numerals.{numeral, signed_numeral}
use Rattle.mof_syntax.proofs.Numerals.{numeral_decimal}
use Rattle.mof_syntax.specs.Tokens.{Identifier, identifier, Word, AliasName, Literal, Number, IsToken, word, alias, literal, integer}
use Rattle.mof_syntax.proofs.Scans.{test_or}
use Rattle.mof_codec.proofs.MarkFronts.{equal}
use Rattle.mof_values.specs.declared.limits.TheConstants.{MAX_IDENTIFIER}

-- characters of literals

glyph_value : (d : ℕ) → d < 16 → digit_value (hex_glyph d) ≡ d
glyph_value d h = grind (arith, nat_tests)

control_digits : (c : ℕ) (rest : List ℕ) → c < 32 → HexDigits 3 0 (48 ∷ hex_glyph (c / 16) ∷ hex_glyph (c % 16) ∷ rest) c rest
control_digits c rest h =
    let high : digit_value (hex_glyph (c / 16)) ≡ c / 16 = glyph_value (c / 16) (omega arith) in
    let low : digit_value (hex_glyph (c % 16)) ≡ c % 16 = glyph_value (c % 16) (omega arith) in
    let first : digit_of 16 (hex_glyph (c / 16)) ≡ true = is_digit (c / 16) high (omega arith) in
    let second : digit_of 16 (hex_glyph (c % 16)) ≡ true = is_digit (c % 16) low (omega arith) in
    let total : (0 * 16 + digit_value (hex_glyph (c / 16))) * 16 + digit_value (hex_glyph (c % 16)) ≡ c = omega (arith, high, low) in
    digit 2 0 48 c (hex_glyph (c / 16) ∷ hex_glyph (c % 16) ∷ rest) rest refl
    (digit 1 0 (hex_glyph (c / 16)) c (hex_glyph (c % 16) ∷ rest) rest first
    (digit 0 (0 * 16 + digit_value (hex_glyph (c / 16))) (hex_glyph (c % 16)) c rest rest second
    (subst (λ (n : ℕ). HexDigits 0 n rest c rest) (sym total) (full c rest))))
  where
    is_digit : (d : ℕ) → digit_value (hex_glyph d) ≡ d → d < 16 → digit_of 16 (hex_glyph d) ≡ true
    is_digit d e below = grind (arith, nat_tests)

control_there : (c : ℕ) (rest : List ℕ) → c < 32 → Escape (120 ∷ 48 ∷ 48 ∷ hex_glyph (c / 16) ∷ hex_glyph (c % 16) ∷ rest) c rest
control_there c rest h = hexadecimal 120 48 c (48 ∷ hex_glyph (c / 16) ∷ hex_glyph (c % 16) ∷ rest) rest refl refl (control_digits c rest h) (grind (arith, nat_tests))

pub quoted_char : (c : ℕ) (cs text rest : List ℕ) → Quoted cs text rest → Quoted (literal_char c ++ cs) (c ∷ text) rest
quoted_char c cs text rest q =
    elim (test_or (c == 8)) [
      | inl is ↦ at_short 8 98 refl refl (equal c 8 is)
      | inr n8 ↦
          elim (test_or (c == 9)) [
            | inl is ↦ at_short 9 116 refl refl (equal c 9 is)
            | inr n9 ↦
                elim (test_or (c == 10)) [
                  | inl is ↦ at_short 10 110 refl refl (equal c 10 is)
                  | inr n10 ↦
                      elim (test_or (c == 12)) [
                        | inl is ↦ at_short 12 102 refl refl (equal c 12 is)
                        | inr n12 ↦
                            elim (test_or (c == 13)) [
                              | inl is ↦ at_short 13 114 refl refl (equal c 13 is)
                              | inr n13 ↦
                                  elim (test_or (c == 34)) [
                                    | inl is ↦ at_short 34 34 refl refl (equal c 34 is)
                                    | inr n34 ↦
                                        elim (test_or (c == 92)) [
                                          | inl is ↦ at_short 92 92 refl refl (equal c 92 is)
                                          | inr n92 ↦
                                              elim (test_or (nat_lt c 32)) [
                                                | inl low ↦ rw (n8, n9, n10, n12, n13, n34, n92, low) (escaped c (120 ∷ 48 ∷ 48 ∷ hex_glyph (c / 16) ∷ hex_glyph (c % 16) ∷ cs) cs text rest (control_there c cs (below c low)) q)
                                                | inr high ↦ rw (n8, n9, n10, n12, n13, n34, n92, high) (plain c cs text rest n34 n92 q)
                                              ]
                                        ]
                                  ]
                            ]
                      ]
                ]
          ]
    ]
  where
    at_short : (v e : ℕ) → literal_char v ≡ backslash ∷ e ∷ [] → short_escape e ≡ Some v → c ≡ v → Quoted (literal_char c ++ cs) (c ∷ text) rest
    at_short v e written stands is =
        subst (λ (x : ℕ). Quoted (literal_char x ++ cs) (x ∷ text) rest) (sym is)
        (subst (λ (xs : List ℕ). Quoted (xs ++ cs) (v ∷ text) rest) (sym written) (escaped v (e ∷ cs) cs text rest (short e v cs stands) q))

    below : (x : ℕ) → nat_lt x 32 ≡ true → x < 32
    below x h = grind (arith, nat_tests)

pub quoted_text : (text rest : List ℕ) → Quoted (flat_map literal_char text ++ quote ∷ rest) text rest
quoted_text [] rest = closed rest
quoted_text (c ∷ text) rest =
    subst (λ (xs : List ℕ). Quoted xs (c ∷ text) rest) (sym (append_assoc (literal_char c) (flat_map literal_char text) (quote ∷ rest)))
    (quoted_char c (flat_map literal_char text ++ quote ∷ rest) text rest (quoted_text text rest))

pub literal_token : (text rest : List ℕ) → IsToken (canonical_literal text ++ rest) (Literal text) rest
literal_token text rest =
    subst (λ (xs : List ℕ). IsToken (quote ∷ xs) (Literal text) rest) (sym (append_assoc (flat_map literal_char text) (quote ∷ []) rest))
    (literal (flat_map literal_char text ++ quote ∷ rest) text rest (quoted_text text rest))

-- integers

decimal_run : (ds rest : List ℕ) → AllDigits 10 ds → Run (digit_of 10) (ds ++ rest) ds rest
decimal_run [] rest all = stop rest
decimal_run (d ∷ ds) rest all = more d (ds ++ rest) ds rest (is_digit d all.0) (decimal_run ds rest all.1)
  where
    is_digit : (x : ℕ) → digit_value x < 10 → digit_of 10 x ≡ true
    is_digit x h = grind (arith, nat_tests)

magnitude_of : (ds rest : List ℕ) → AllDigits 10 ds → 48 < get_or ds 0 0 → Magnitude (ds ++ rest) (digits_value 10 ds) rest
magnitude_of [] rest all first = absurd (omega arith)
magnitude_of (d ∷ ds) rest all first = decimal_value d (ds ++ rest) ds rest (no_zero d first) (is_digit d all.0) (decimal_run ds rest all.1)
  where
    no_zero : (x : ℕ) → 48 < x → (x == digit_zero) ≡ false
    no_zero x h = grind (arith, nat_tests)

    is_digit : (x : ℕ) → digit_value x < 10 → digit_of 10 x ≡ true
    is_digit x h = grind (arith, nat_tests)

magnitude_there : (n : ℕ) (rest : List ℕ) → n < 2 ^ 64 → Magnitude (decimal n ++ rest) n rest
magnitude_there zero rest small =
    subst (λ (xs : List ℕ). Magnitude (xs ++ rest) 0 rest) (sym (decimal_digit 0 (omega arith))) (octal_value rest [] rest (stop rest))
magnitude_there (suc n) rest small =
    let all = decimal_is_IsNumeral (suc n) small in
    subst (λ (x : ℕ). Magnitude (decimal (suc n) ++ rest) x rest) all.1
    (magnitude_of (decimal (suc n)) rest all.0.1 (first_decimal (suc n) (omega arith) small))

numeral_there : (n : ℕ) (rest : List ℕ) → n < 2 ^ 64 → Magnitude (numeral n ++ rest) n rest
numeral_there n rest small = subst (λ (xs : List ℕ). Magnitude (xs ++ rest) n rest) (sym (numeral_decimal n (omega arith))) (magnitude_there n rest small)

integer_there : (z : ℤ) (rest : List ℕ) → IsInRange z → IntegerValue (signed_numeral z ++ rest) z rest
integer_there (pos n) rest h = unsigned (numeral n ++ rest) n rest (numeral_there n rest (omega (arith, ints, h)))
integer_there (negsuc n) rest h = minus (numeral (suc n) ++ rest) (suc n) rest (numeral_there (suc n) rest (omega (arith, ints, h)))

pub integer_token : (z : ℤ) (rest : List ℕ) → IsInRange z → Stops is_next rest → IsToken (signed_numeral z ++ rest) (Number z) rest
integer_token z rest h s = integer (signed_numeral z ++ rest) z rest (integer_there z rest h) s

-- names

next_run : (cs rest : List ℕ) → list_all is_next cs ≡ true → Run is_next (cs ++ rest) cs rest
next_run [] rest all = stop rest
next_run (c ∷ cs) rest all = let p = and_parts (is_next c) (list_all is_next cs) all in more c (cs ++ rest) cs rest p.0 (next_run cs rest p.1)

identifier_there : (name rest : List ℕ) → IsIdent name → Stops is_next rest → Identifier (name ++ rest) name rest
identifier_there [] rest h s = absurd (nothing h)
  where
    nothing : false ≡ true → ⊥
    nothing e = cc
identifier_there (c ∷ cs) rest h s =
    let p = and_parts (is_first c && list_all is_next cs) (nat_le (length (c ∷ cs)) MAX_IDENTIFIER) h in
    let q = and_parts (is_first c) (list_all is_next cs) p.0 in
    identifier c (cs ++ rest) cs rest q.0 (next_run cs rest q.1) s

pub word_token : (name rest : List ℕ) → IsIdent name → Stops is_next rest → IsToken (name ++ rest) (Word name) rest
word_token name rest h s = word (name ++ rest) name rest (identifier_there name rest h s)

pub alias_token : (name rest : List ℕ) → IsIdent name → Stops is_next rest → IsToken (dollar ∷ name ++ rest) (AliasName name) rest
alias_token name rest h s = alias (name ++ rest) name rest (identifier_there name rest h s)
