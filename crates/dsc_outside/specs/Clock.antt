-- What a clock gives.
use Rattle.std.specs.Prelude.{◌≡◌, ℕ, List, [], ◌∷◌, Option, Some, None, Result}
use Rattle.std.specs.Result.{result_ok}
use Rattle.dsc_outside.specs.declared.clock.TheConstants.{LAST_MOMENT}

-- the greatest moment, in seconds since 1970-01-01T00:00:00Z
abbrev pub last_moment : ℕ
last_moment = LAST_MOMENT

-- where the readings are shown, the first of them is taken, a moment or none where the clock fails; with none left it fails. A clock that does not show them shows nothing afterwards either
abbrev pub TakesReading : {E : Type 0} → Option (List (Option ℕ)) → Option (List (Option ℕ)) → Result ℕ E → Type 0
TakesReading None after result = after ≡ None
TakesReading (Some []) after result = (after ≡ Some []) × (result_ok result ≡ None)
TakesReading (Some (reading ∷ rest)) after result = (after ≡ Some rest) × (result_ok result ≡ reading)
