-- Integers in decimal, of any size, without leading zeros: DSP0004, "decimalValue".
use Rattle.std.specs.Prelude.{ℕ, zero, suc, ◌+◌, ◌/◌, ◌%◌, List, [], ◌∷◌, ◌++◌, ℤ, pos, negsuc}

-- the digits of n, none for 0, as far as so many divisions by 10 give them
abbrev pub leading_digits : ℕ → ℕ → List ℕ
leading_digits divisions zero = []
leading_digits zero (suc n) = []
leading_digits (suc divisions) (suc n) = leading_digits divisions (suc n / 10) ++ (48 + suc n % 10) ∷ []

-- no number takes more divisions than it says
abbrev pub numeral : ℕ → List ℕ
numeral n = leading_digits n (n / 10) ++ (48 + n % 10) ∷ []

abbrev pub signed_numeral : ℤ → List ℕ
signed_numeral (pos n) = numeral n
signed_numeral (negsuc n) = 45 ∷ numeral (suc n)
