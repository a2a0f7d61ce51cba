-- A reading of a clock.
use Rattle.std.proofs.Common.{◌≡◌, ℕ, List, [], ◌∷◌, Option, Some, None, Result, Ok, Err, ap, subst}
use Rattle.std.specs.Result.{result_ok}
use Rattle.dsc_outside.specs.Clock.{TakesReading}
use Rattle.dsc_node.specs.Readings.{Gave, Took}

pub gave : {E : Type 0} (before after : Option (List (Option ℕ))) (result : Result ℕ E) → TakesReading before after result → Gave before (result_ok result)
gave None after result taken = tt
gave (Some []) after result taken = taken.1
gave (Some (reading ∷ rest)) after result taken = taken.1

pub took : {E : Type 0} (before after : Option (List (Option ℕ))) (result : Result ℕ E) → TakesReading before after result → Took 1 before after
took None after result taken = taken
took (Some []) after result taken = taken.0
took (Some (reading ∷ rest)) after result taken = taken.0

pub gave_some : {E : Type 0} (before after : Option (List (Option ℕ))) (result : Result ℕ E) (time : ℕ) → result ≡ Ok time → TakesReading before after result → Gave before (Some time)
gave_some before after result time is taken = subst (λ (given : Option ℕ). Gave before given) (ap result_ok is) (gave before after result taken)

pub gave_none : {E : Type 0} (before after : Option (List (Option ℕ))) (result : Result ℕ E) (error : E) → result ≡ Err error → TakesReading before after result → Gave before None
gave_none before after result error is taken = subst (λ (given : Option ℕ). Gave before given) (ap result_ok is) (gave before after result taken)
