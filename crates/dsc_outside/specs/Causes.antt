-- What a call that failed shows.
use Rattle.std.specs.Prelude.{ℕ, ◌+◌, ◌-◌, ◌^◌, ◌≤◌, min, Result, Ok, Err, OnErr, IsErrOf}
use Rattle.dsc_terms.specs.Counts.{Rose}

-- a count of 64 bits after one more; it stands still at its last value
abbrev pub one_more : ℕ → ℕ
one_more n = min (n + 1) (2 ^ 64 - 1)

-- the count after a call: one more where it failed
abbrev pub count_after : {T E : Type 0} → ℕ → Result T E → ℕ
count_after before (Ok value) = before
count_after before (Err error) = one_more before

-- the count of faults never falls, and where the call failed it rose
pub record HasCause {T E : Type 0} (before now : ℕ) (result : Result T E) : Type 0 where
  pub later : before ≤ now
  pub failed : OnErr result (Rose before now)

-- the same where one error alone is a fault
pub record HasCauseOf {T E : Type 0} (fault : E) (before now : ℕ) (result : Result T E) : Type 0 where
  pub later : before ≤ now
  pub failed : IsErrOf result fault → Rose before now
