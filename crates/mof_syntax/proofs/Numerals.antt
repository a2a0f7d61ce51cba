-- A number in decimal, digit by digit, and as std writes it.
use Rattle.std.proofs.Common.{◌≡◌, ◌≤◌, ◌<◌, ◌+◌, ◌*◌, ◌/◌, ◌%◌, ◌^◌, ℕ, zero, suc, List, [], ◌∷◌, ◌++◌, refl, sym, ap, ap₂, ◌∙◌, arith, ℤ, pos, negsuc}
use Rattle.std.specs.Fmt.{decimal, signed_decimal}
use Rattle.std.proofs.lemmas.Fmt.{decimal_digit, decimal_step_wide, decimal_by_steps_wide}
use lib.Signed.{mag}
use Rattle.mof_syntax.specs.Numerals.{leading_digits, numeral, signed_numeral}

-- how many divisions there may be does not matter where they are enough
enough : (j k n : ℕ) → n ≤ j → n ≤ k → leading_digits j n ≡ leading_digits k n
enough j k zero p q = refl
enough zero k (suc n) p q = absurd (omega arith)
enough (suc j) zero (suc n) p q = absurd (omega arith)
enough (suc j) (suc k) (suc n) p q = ap (λ (ds : List ℕ). ds ++ (48 + suc n % 10) ∷ []) (enough j k (suc n / 10) (omega arith) (omega arith))

pub numeral_digit : (n : ℕ) → n < 10 → numeral n ≡ (48 + n) ∷ []
numeral_digit n h =
    let none : n / 10 ≡ 0 = omega arith in
    let same : n % 10 ≡ n = omega arith in
    ap (λ (q : ℕ). leading_digits n q ++ (48 + n % 10) ∷ []) none ∙ ap (λ (d : ℕ). (48 + d) ∷ []) same

-- the digits of a number, followed by one more
pub numeral_step : (n d : ℕ) → 0 < n → d < 10 → numeral (n * 10 + d) ≡ numeral n ++ (48 + d) ∷ []
numeral_step zero d some small = absurd (omega arith)
numeral_step (suc n) d some small =
    let front : (suc n * 10 + d) / 10 ≡ suc n = omega arith in
    let last : (suc n * 10 + d) % 10 ≡ d = omega arith in
    ap₂ (λ (q r : ℕ). leading_digits (suc n * 10 + d) q ++ (48 + r) ∷ []) front last
    ∙ ap (λ (ds : List ℕ). ds ++ (48 + d) ∷ []) (enough (suc n * 10 + d) (suc (suc n)) (suc n) (omega arith) (omega arith) ∙ spelled)
  where
    spelled : leading_digits (suc (suc n)) (suc n) ≡ numeral (suc n)
    spelled = ap (λ (ds : List ℕ). ds ++ (48 + suc n % 10) ∷ []) (enough (suc n) (suc n) (suc n / 10) (omega arith) (omega arith))

pub numeral_decimal : (n : ℕ) → n < 10 ^ 64 → numeral n ≡ decimal n
numeral_decimal = decimal_by_steps_wide (λ n ds. numeral n ≡ ds) numeral_digit (λ n ds l h.
    let whole : n / 10 * 10 + n % 10 ≡ n = omega arith in
    ap numeral (sym whole) ∙ numeral_step (n / 10) (n % 10) (omega arith) (omega arith) ∙ ap (λ (xs : List ℕ). xs ++ (48 + n % 10) ∷ []) h)

pub signed_numeral_decimal : (z : ℤ) → mag z < 2 ^ 128 → signed_numeral z ≡ signed_decimal z
signed_numeral_decimal (pos n) h = numeral_decimal n (omega arith)
signed_numeral_decimal (negsuc n) h = ap (λ (ds : List ℕ). 45 ∷ ds) (numeral_decimal (suc n) (omega arith))
