-- What a clock in memory gives.
use Rattle.std.proofs.Common.{◌≡◌, ℕ, List, [], ◌∷◌, Bool, true, false, Option, Some, None, Result, drop, refl, sym, ◌∙◌, ap, if◌then◌else◌}
use Rattle.std.specs.Result.{result_ok}
use Rattle.dsc_outside.specs.Causes.{one_more}
use Rattle.dsc_outside.specs.Clock.{TakesReading}
use Rattle.memory_outside.specs.Memory.{CallCount, is_to_fail}
use Rattle.memory_outside.specs.MemoryClock.{coming, first_reading, given}

-- how often calls have failed is of no account
coming_recounted : (calls : CallCount) (faults : ℕ) (readings : List (Option ℕ)) → coming (record calls { faults = faults }) readings ≡ coming calls readings
coming_recounted calls faults [] = refl
coming_recounted calls faults (reading ∷ readings) = ap (λ (l : List (Option ℕ)). given calls reading ∷ l) (coming_recounted (record calls { begun = one_more calls.begun }) faults readings)

pub given_failing : (calls : CallCount) (reading : Option ℕ) → is_to_fail calls ≡ true → given calls reading ≡ None
given_failing calls reading is = rw is refl

pub given_none : (calls : CallCount) (reading : Option ℕ) → reading ≡ None → given calls reading ≡ None
given_none calls reading is = rw is (same (is_to_fail calls))
  where
    same : (b : Bool) → ◌≡◌ {A = Option ℕ} (if b then None else None) None
    same true = refl
    same false = refl

-- the next reading is taken, and is none or is not given
pub reading_fails : {E : Type 0} (calls inner after : CallCount) (faults : ℕ) (readings rest : List (Option ℕ)) (result : Result ℕ E)
    → inner ≡ calls → rest ≡ drop 1 readings → after ≡ record inner { begun = one_more inner.begun; faults = faults } → given calls (first_reading readings) ≡ None → result_ok result ≡ None
    → TakesReading (Some (coming calls readings)) (Some (coming after rest)) result
reading_fails calls inner after faults [] rest result same left counted none fails = (ap (λ (l : List (Option ℕ)). Some (coming after l)) left, fails)
reading_fails calls inner after faults (reading ∷ readings) rest result same left counted none fails = (
  ap (λ (l : List (Option ℕ)). Some (coming after l)) left
      ∙ ap (λ (k : CallCount). Some (coming k readings)) (counted ∙ ap (λ (k : CallCount). record k { begun = one_more k.begun; faults = faults }) same)
      ∙ ap Some (coming_recounted (record calls { begun = one_more calls.begun }) faults readings),
  fails ∙ sym none,
)
