-- A clock in memory.
use Rattle.std.specs.Prelude.{◌≡◌, ◌≤◌, ℕ, List, [], ◌∷◌, All, IfSome, Option, Some, None, Result, drop, if◌then◌else◌, is_some}
use Rattle.std.specs.Result.{result_ok}
use Rattle.dsc_outside.specs.Causes.{one_more}
use Rattle.dsc_outside.specs.Clock.{last_moment}
use Rattle.memory_outside.specs.Memory.{CallCount, counted, is_to_fail, with_fault}

pub record ClockInMemory : Type 0 where
  -- the readings that are left, in order; none is a failure
  pub readings : List (Option ℕ)
  pub calls : CallCount

abbrev pub AreReadings : List (Option ℕ) → Type 0
AreReadings readings = All (λ reading. IfSome reading (λ t. t ≤ last_moment)) readings

-- the first of them
abbrev pub first_reading : List (Option ℕ) → Option ℕ
first_reading [] = None
first_reading (reading ∷ readings) = reading

-- what the next call gives of that reading
abbrev pub given : CallCount → Option ℕ → Option ℕ
given calls reading = if is_to_fail calls then None else reading

-- what the calls give of these readings, one each
abbrev pub coming : CallCount → List (Option ℕ) → List (Option ℕ)
coming calls [] = []
coming calls (reading ∷ readings) = given calls reading ∷ coming (record calls { begun = one_more calls.begun }) readings

-- the same of a clock, as a clause of every clock takes it
abbrev pub exposed_readings : ClockInMemory → Option (List (Option ℕ))
exposed_readings clock = Some (coming clock.calls clock.readings)

-- the first reading is taken; the call fails exactly where it is to fail, or where that is no moment
pub record GivesReading {E : Type 0} (old : ClockInMemory) (result : Result ℕ E) (new : ClockInMemory) : Type 0 where
  pub gives : result_ok result ≡ given old.calls (first_reading old.readings)
  pub rest : new.readings ≡ drop 1 old.readings
  pub count : new.calls ≡ (if is_to_fail old.calls then counted old.calls else if is_some (first_reading old.readings) then counted old.calls else with_fault (counted old.calls))
