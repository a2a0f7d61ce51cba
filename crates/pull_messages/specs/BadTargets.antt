-- What is answered of a text that is no target.
use Rattle.std.specs.Prelude.{ℕ, Result, Ok, Err, ⊤}
use Rattle.pull_messages.specs.declared.target_error.TargetError.{TargetError}
use Rattle.pull_messages.specs.declared.target_error.TargetError.TheVariants.{BadTarget, Memory}

-- the fact holds of the place, where the answer names one
abbrev pub IfBad : {T : Type 0} → Result T TargetError → (ℕ → Type 0) → Type 0
IfBad (Ok x) P = ⊤
IfBad (Err (BadTarget at)) P = P at
IfBad (Err Memory) P = ⊤
