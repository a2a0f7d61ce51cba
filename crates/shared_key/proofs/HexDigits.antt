-- Hexadecimal digits and their letters in upper case.
use Rattle.std.proofs.Common.{◌≡◌, ℕ, zero, suc, ◌+◌, ◌*◌, ◌/◌, ◌%◌, ◌<◌, ◌==◌, ◌&&◌, nat_lt, Bool, true, List, [], ◌∷◌, length, map, slice_index, Option, Some, None, Result, Ok, Err, refl, sym, ◌∙◌, ap, arith, inl, inr}
use Rattle.std.specs.Char.{to_ascii_uppercase}
use Rattle.std.specs.Option.{option_map_or}
use Rattle.std.specs.Prelude.{IfSome}
use Rattle.std.specs.Result.{result_ok}
use Rattle.std.proofs.lemmas.Bool.{and_parts, cases_lt, eqb-true, ltb-true}
use Rattle.hex.specs.Hex.{◌>>=◌, decode_pairs, decode_sized, digit_or_error, encode_with, hex_digit_value, lower_digits, pair_value, upper_digits}
use Rattle.hex.specs.declared.error.FromHexError.{FromHexError}
use Rattle.hex.proofs.HexLemmas.{decode_of-even, decode_sized-ok, decode_sized-twice}

-- ---- tests of each number below a bound, which compute

abbrev all_pass : (ℕ → Bool) → ℕ → Bool
all_pass p zero = true
all_pass p (suc n) = p n && all_pass p n

all_pass-at : (p : ℕ → Bool) (n k : ℕ) → all_pass p n ≡ true → k < n → p k ≡ true
all_pass-at p zero k h lt = absurd (omega arith)
all_pass-at p (suc n) k h lt =
    let parts = and_parts (p n) (all_pass p n) h in
    elim (cases_lt k n) [
      | inl below ↦ all_pass-at p n k parts.1 below
      | inr top ↦
          let e : k ≡ n = omega arith in
          rw e parts.0
    ]

-- ---- writing

abbrev is_raised : ℕ → Bool
is_raised d = to_ascii_uppercase (slice_index lower_digits d) == slice_index upper_digits d

raised : (d : ℕ) → d < 16 → to_ascii_uppercase (slice_index lower_digits d) ≡ slice_index upper_digits d
raised d lt = eqb-true _ _ (all_pass-at is_raised 16 d refl lt)

-- the text with lower-case letters, in upper case
pub encode_lower-raised : (bytes : List ℕ) → ((i : ℕ) → slice_index bytes i < 256)
    → map to_ascii_uppercase (encode_with lower_digits bytes) ≡ encode_with upper_digits bytes
unfolding encode_with
encode_lower-raised [] fits = refl
encode_lower-raised (b ∷ rest) fits =
    let byte : b < 256 = fits 0 in
    let high : b / 16 < 16 = omega arith in
    let low : b % 16 < 16 = omega arith in
    rw (raised (b / 16) high, raised (b % 16) low, encode_lower-raised rest (λ i. fits (suc i))) refl

-- ---- reading

-- a digit of this value is, in upper case, the digit at that place of the table
abbrev is_spelled : ℕ → ℕ → Bool
is_spelled c v = nat_lt v 16 && (to_ascii_uppercase c == slice_index upper_digits v)

abbrev spells : ℕ → Bool
spells c = option_map_or (is_spelled c) (hex_digit_value c) true

small_digit : (c v : ℕ) → hex_digit_value c ≡ Some v → c < 103
small_digit c v h = grind arith

digit_spelled : (c v : ℕ) → hex_digit_value c ≡ Some v → (v < 16) × (to_ascii_uppercase c ≡ slice_index upper_digits v)
digit_spelled c v h =
    let test : spells c ≡ true = all_pass-at spells 103 c refl (small_digit c v h) in
    let passed : is_spelled c v ≡ true = sym (ap (λ value. option_map_or (is_spelled c) value true) h) ∙ test in
    let parts = and_parts (nat_lt v 16) _ passed in
    (ltb-true v 16 parts.0, eqb-true _ _ parts.1)

-- the two values of a pair that read
pair_values : (a b i v : ℕ) (high low : Option ℕ)
    → (digit_or_error a i high >>= λ h. digit_or_error b (i + 1) low >>= λ l. Ok (h * 16 + l)) ≡ Ok v
    → (h : ℕ) × (l : ℕ) × (high ≡ Some h) × (low ≡ Some l) × (h * 16 + l ≡ v)
pair_values a b i v (Some h) (Some l) e = (h, l, refl, refl, cc e)
pair_values a b i v (Some h) None e = cc e
pair_values a b i v None low e = cc e

-- the byte and the bytes after it that read
byte_values : (first : Result ℕ FromHexError) (others : Result (List ℕ) FromHexError) (bytes : List ℕ)
    → (first >>= λ byte. others >>= λ rest. Ok (byte ∷ rest)) ≡ Ok bytes
    → (byte : ℕ) × (rest : List ℕ) × (first ≡ Ok byte) × (others ≡ Ok rest) × (byte ∷ rest ≡ bytes)
byte_values (Ok byte) (Ok rest) bytes e = (byte, rest, refl, refl, cc e)
byte_values (Ok byte) (Err fault) bytes e = cc e
byte_values (Err fault) others bytes e = cc e

pair_spelled : (a b i v : ℕ) → pair_value a b i ≡ Ok v
    → (to_ascii_uppercase a ≡ slice_index upper_digits (v / 16)) × (to_ascii_uppercase b ≡ slice_index upper_digits (v % 16))
pair_spelled a b i v h =
    let p = pair_values a b i v (hex_digit_value a) (hex_digit_value b) h in
    let high = digit_spelled a p.0 p.2 in
    let low = digit_spelled b p.1 p.3 in
    let sum : p.0 * 16 + p.1 ≡ v = p.4 in
    let of_high : v / 16 ≡ p.0 = omega arith in
    let of_low : v % 16 ≡ p.1 = omega arith in
    (rw of_high high.1, rw of_low low.1)

pairs_spelled : (i : ℕ) (text bytes : List ℕ) → decode_pairs i text ≡ Ok bytes
    → map to_ascii_uppercase text ≡ encode_with upper_digits bytes
unfolding decode_pairs encode_with
pairs_spelled i [] bytes h = let none : [] ≡ bytes = cc h in rw (← none) refl
pairs_spelled i (a ∷ []) bytes h = cc h
pairs_spelled i (a ∷ b ∷ text) bytes h =
    let p = byte_values (pair_value a b i) (decode_pairs (i + 2) text) bytes h in
    let pair = pair_spelled a b i p.0 p.2 in
    let rest = pairs_spelled (i + 2) text p.1 p.3 in
    rw (← p.4) (rw (pair.0, pair.1, rest) refl)

-- a text that reads is, in upper case, the text of its bytes
decode_sized-raised : (text : List ℕ) (n : ℕ) (bytes : List ℕ) → decode_sized text n ≡ Ok bytes
    → map to_ascii_uppercase text ≡ encode_with upper_digits bytes
decode_sized-raised text n bytes h =
    let len = decode_sized-ok text n bytes h in
    let even : length text % 2 ≡ 0 = omega arith in
    pairs_spelled 0 text bytes (sym (decode_of-even text even) ∙ sym (decode_sized-twice text n len) ∙ h)

if_ok : (r : Result (List ℕ) FromHexError) (P : List ℕ → Type 0) → ((bytes : List ℕ) → r ≡ Ok bytes → P bytes)
    → IfSome (result_ok r) P
if_ok (Ok bytes) P h = h bytes refl
if_ok (Err fault) P h = tt

pub decoded-raised : (text : List ℕ) (n : ℕ)
    → IfSome (result_ok (decode_sized text n)) (λ bytes. map to_ascii_uppercase text ≡ encode_with upper_digits bytes)
decoded-raised text n = if_ok (decode_sized text n) _ (decode_sized-raised text n)
