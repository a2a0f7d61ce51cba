-- How the calls of a form in memory go.
use Rattle.std.specs.Prelude.{ℕ, List, Bool, ◌==◌, if◌then◌else◌}
use Rattle.std.specs.List.{list_any}
use Rattle.dsc_outside.specs.Causes.{one_more}

pub record CallCount : Type 0 where
  -- how many began, which is the number of the next one
  pub begun : ℕ
  -- the numbers of those that are to fail
  pub failing : List ℕ
  -- how many failed
  pub faults : ℕ

-- before the first call
abbrev pub uncalled : List ℕ → CallCount
uncalled failing = record { begun = 0; failing = failing; faults = 0 }

-- the next call is one of those that are to fail
abbrev pub is_to_fail : CallCount → Bool
is_to_fail calls = list_any (λ number. number == calls.begun) calls.failing

abbrev pub with_fault : CallCount → CallCount
with_fault calls = record calls { faults = one_more calls.faults }

-- after the next call, which failed where it was to fail
abbrev pub counted : CallCount → CallCount
counted calls = record calls { begun = one_more calls.begun; faults = if is_to_fail calls then one_more calls.faults else calls.faults }
