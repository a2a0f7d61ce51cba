-- How long bytes are once they are escaped.
use Rattle.std.proofs.Common.{◌≡◌, ℕ, ◌+◌, ◌*◌, ◌/◌, ◌%◌, ◌<◌, ◌≤◌, Bool, true, false, cond, ◌||◌, ◌==◌, nat_lt, List, [], ◌∷◌, ◌++◌, length, refl, arith}
use Rattle.std.proofs.lemmas.Bool.{ltb-true, ltb-false, eqb-true, le-ltb}
use Rattle.std.proofs.lemmas.List.{length-append}
use Rattle.std.specs.Char.{digit_char}
use Rattle.std.specs.List.{AllByRecursion}
use Rattle.json.specs.Print.{escape_letter, escape_byte, escape}

-- no control characters
abbrev pub AreShown : List ℕ → Type 0
AreShown bytes = AllByRecursion (λ x. 32 ≤ x) bytes

pub shown-append : (xs ys : List ℕ) → AreShown xs → AreShown ys → AreShown (xs ++ ys)
shown-append [] ys h k = k
shown-append (x ∷ xs) ys h k = (h.0, shown-append xs ys h.1 k)

pub shown-either : (b : Bool) (xs ys : List ℕ) → AreShown xs → AreShown ys → AreShown (cond b xs ys)
shown-either true xs ys h k = h
shown-either false xs ys h k = k

-- ---- sizes

byte_size : (a b : Bool) (letter x : ℕ) (long : List ℕ) → length long ≤ 6 → length (cond a (92 ∷ letter ∷ []) (cond b long (x ∷ []))) ≤ 6
byte_size true b letter x long h = omega arith
byte_size false true letter x long h = h
byte_size false false letter x long h = omega arith

shown_byte_size : (a b : Bool) (letter x : ℕ) (long : List ℕ) → b ≡ false → length (cond a (92 ∷ letter ∷ []) (cond b long (x ∷ []))) ≤ 2
shown_byte_size true b letter x long h = omega arith
shown_byte_size false true letter x long h = cc h
shown_byte_size false false letter x long h = omega arith

-- a byte becomes six at most
pub escaped_size : (bytes : List ℕ) → length (escape bytes) ≤ 6 * length bytes
unfolding escape_byte
escaped_size [] = omega arith
escaped_size (x ∷ bytes) =
    let one : length (escape_byte x) ≤ 6 = byte_size (nat_lt 0 (escape_letter x)) (nat_lt x 32) (escape_letter x) x (92 ∷ 117 ∷ 48 ∷ 48 ∷ digit_char (x / 16) ∷ digit_char (x % 16) ∷ []) (omega arith) in
    omega (arith, one, escaped_size bytes, length-append (escape_byte x) (escape bytes))

-- and two at most, where it is no control character
pub shown_size : (bytes : List ℕ) → AreShown bytes → length (escape bytes) ≤ 2 * length bytes
unfolding escape_byte
shown_size [] h = omega arith
shown_size (x ∷ bytes) h =
    let one : length (escape_byte x) ≤ 2 = shown_byte_size (nat_lt 0 (escape_letter x)) (nat_lt x 32) (escape_letter x) x (92 ∷ 117 ∷ 48 ∷ 48 ∷ digit_char (x / 16) ∷ digit_char (x % 16) ∷ []) (le-ltb x 32 h.0) in
    omega (arith, one, shown_size bytes h.1, length-append (escape_byte x) (escape bytes))

-- ---- escapes have no control characters

pub glyph_shown : (b : Bool) (d : ℕ) → 32 ≤ cond b (48 + d) (87 + d)
glyph_shown true d = omega arith
glyph_shown false d = omega arith

quote_shown : (x : ℕ) (a b : Bool) → (x == 34) ≡ a → (x == 92) ≡ b → (rest : ℕ) → (0 < rest → 32 ≤ rest) → 0 < cond (a || b) x rest → 32 ≤ cond (a || b) x rest
quote_shown x true b is also rest h some = omega (arith, eqb-true x 34 is)
quote_shown x false true is also rest h some = omega (arith, eqb-true x 92 also)
quote_shown x false false is also rest h some = h some

letters_shown : (a b c d e : Bool) → 0 < cond a 98 (cond b 102 (cond c 110 (cond d 114 (cond e 116 0)))) → 32 ≤ cond a 98 (cond b 102 (cond c 110 (cond d 114 (cond e 116 0))))
letters_shown true b c d e some = omega arith
letters_shown false true c d e some = omega arith
letters_shown false false true d e some = omega arith
letters_shown false false false true e some = omega arith
letters_shown false false false false true some = omega arith
letters_shown false false false false false some = absurd (omega (arith, some))

letter_shown : (x : ℕ) → 0 < escape_letter x → 32 ≤ escape_letter x
letter_shown x some = quote_shown x (x == 34) (x == 92) refl refl _ (letters_shown (x == 8) (x == 12) (x == 10) (x == 13) (x == 9)) some

byte_shown : (x : ℕ) (a b : Bool) → nat_lt 0 (escape_letter x) ≡ a → nat_lt x 32 ≡ b
    → AreShown (cond a (92 ∷ escape_letter x ∷ []) (cond b (92 ∷ 117 ∷ 48 ∷ 48 ∷ digit_char (x / 16) ∷ digit_char (x % 16) ∷ []) (x ∷ [])))
byte_shown x true b is also = (omega arith, (letter_shown x (ltb-true 0 (escape_letter x) is), tt))
byte_shown x false true is also =
    (omega arith, (omega arith, (omega arith, (omega arith, (glyph_shown (nat_lt (x / 16) 10) (x / 16), (glyph_shown (nat_lt (x % 16) 10) (x % 16), tt))))))
byte_shown x false false is also = (ltb-false x 32 also, tt)

pub escape_shown : (bytes : List ℕ) → AreShown (escape bytes)
unfolding escape_byte
escape_shown [] = tt
escape_shown (x ∷ bytes) =
    let one : AreShown (escape_byte x) = byte_shown x (nat_lt 0 (escape_letter x)) (nat_lt x 32) refl refl in
    shown-append (escape_byte x) (escape bytes) one (escape_shown bytes)
