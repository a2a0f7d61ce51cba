-- Digits, as far as they were read, and magnitudes up to the cap.
use Rattle.std.proofs.Common.{◌≡◌, ◌<◌, ◌≤◌, ◌+◌, ◌*◌, ◌^◌, inl, inr, ℕ, true, false, List, [], ◌∷◌, length, refl, sym, subst, ◌∙◌, arith, mul-le-mul_left}
use Rattle.std.proofs.lemmas.Bool.Decides.{nat_tests}
use Rattle.std.specs.Char.{digit_value}
use Rattle.std.specs.Str.Parse.{digits_value, digits_value_after}
use Rattle.mof_syntax.specs.Characters.{digit_of}
use Rattle.mof_syntax.specs.Scanning.{run_of}
use Rattle.mof_codec.specs.Values.{IsCapped}

pub record DigitsSoFar (base : ℕ) (all left : List ℕ) (value : ℕ) : Type 0 where
  pub number : ℕ
  pub capped : IsCapped number value
  pub most : value ≤ 2 ^ 64
  pub same : digits_value base (run_of (digit_of base) all) ≡ digits_value_after base number (run_of (digit_of base) left)

pub digits_start : (base : ℕ) (all : List ℕ) → DigitsSoFar base all all 0
digits_start base all = record { number = 0; capped = inl refl; most = omega arith; same = refl }

pub digits_end : (base : ℕ) (all left : List ℕ) (value : ℕ) → DigitsSoFar base all left value → length left < 1 → IsCapped (digits_value base (run_of (digit_of base) all)) value
digits_end base all [] value s e = subst (λ (n : ℕ). IsCapped n value) (sym s.same) s.capped
digits_end base all (c ∷ cs) value s e = absurd (omega arith)

pub digits_stop : (base : ℕ) (all left rest : List ℕ) (c value : ℕ) → DigitsSoFar base all left value → left ≡ c ∷ rest → digit_of base c ≡ false
    → IsCapped (digits_value base (run_of (digit_of base) all)) value
digits_stop base all left rest c value s split e =
    let here : digits_value_after base s.number (run_of (digit_of base) left) ≡ s.number = rw (split, e) refl in
    subst (λ (n : ℕ). IsCapped n value) (sym (s.same ∙ here)) s.capped

capped_on : (base n value d total : ℕ) → 2 ≤ base → IsCapped n value → IsCapped (value * base + d) total → IsCapped (n * base + d) total
capped_on base n value d total some (inl same) more = subst (λ (m : ℕ). IsCapped (m * base + d) total) same more
capped_on base n value d total some (inr past) more = inr (past_on n past.0, past_total more)
  where
    grows : (m : ℕ) → m ≤ m * base
    grows m = let h : m * 1 ≤ m * base = mul-le-mul_left m (omega arith) in omega arith

    past_on : (m : ℕ) → 2 ^ 64 ≤ m → 2 ^ 64 ≤ m * base + d
    past_on m h = omega (arith, grows m)

    past_total : IsCapped (value * base + d) total → 2 ^ 64 ≤ total
    past_total (inl is) = let h = past_on value past.1 in omega arith
    past_total (inr both) = both.1

pub digits_next : (base : ℕ) (all left rest : List ℕ) (c value total : ℕ) → 2 ≤ base → DigitsSoFar base all left value → left ≡ c ∷ rest → digit_of base c ≡ true
    → IsCapped (value * base + digit_value c) total → total ≤ 2 ^ 64 → DigitsSoFar base all rest total
digits_next base all left rest c value total some s split e capped most = record {
  number = s.number * base + digit_value c;
  capped = capped_on base s.number value (digit_value c) total some s.capped capped;
  most = most;
  same = s.same ∙ rw (split, e) refl;
}

pub told_digit : (base c : ℕ) → digit_value c < base → digit_of base c ≡ true
told_digit base c h = grind (arith, nat_tests)
