-- Integer literals of each base (DSP0004, "Integer constants", and integerValue in its annex).
use Rattle.std.specs.Prelude.{◌≡◌, ℕ, true, false, ◌==◌, List, ◌∷◌, ℤ, pos, neg_ℤ}
use Rattle.std.specs.Str.Parse.{digits_value}
use Rattle.mof_syntax.specs.Characters.{digit_zero, plus_sign, minus_sign, digit_of, is_x, is_b, Run}

-- the digits of a literal, their value, and the rest
pub data Magnitude : List ℕ → ℕ → List ℕ → Type 0 where
  decimal_value : (d : ℕ) (cs ds rest : List ℕ) → (d == digit_zero) ≡ false → digit_of 10 d ≡ true → Run (digit_of 10) cs ds rest
      → Magnitude (d ∷ cs) (digits_value 10 (d ∷ ds)) rest
  -- 0 alone too
  octal_value : (cs ds rest : List ℕ) → Run (digit_of 8) cs ds rest → Magnitude (digit_zero ∷ cs) (digits_value 8 ds) rest
  hex_value : (x d : ℕ) (cs ds rest : List ℕ) → is_x x ≡ true → Run (digit_of 16) cs (d ∷ ds) rest
      → Magnitude (digit_zero ∷ x ∷ cs) (digits_value 16 (d ∷ ds)) rest
  binary_value : (d b : ℕ) (cs ds rest : List ℕ) → Run (digit_of 2) cs (d ∷ ds) (b ∷ rest) → is_b b ≡ true
      → Magnitude cs (digits_value 2 (d ∷ ds)) rest

-- a literal with or without a sign, its value, and the rest
pub data IntegerValue : List ℕ → ℤ → List ℕ → Type 0 where
  unsigned : (cs : List ℕ) (n : ℕ) (rest : List ℕ) → Magnitude cs n rest → IntegerValue cs (pos n) rest
  plus : (cs : List ℕ) (n : ℕ) (rest : List ℕ) → Magnitude cs n rest → IntegerValue (plus_sign ∷ cs) (pos n) rest
  minus : (cs : List ℕ) (n : ℕ) (rest : List ℕ) → Magnitude cs n rest → IntegerValue (minus_sign ∷ cs) (neg_ℤ (pos n)) rest
