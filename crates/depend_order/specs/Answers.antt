-- What is answered for places and their dependencies.
use Rattle.std.specs.Prelude.{ℕ, List, Result, Ok, Err, ⊤}
use Rattle.depend_order.specs.declared.error.OrderError.{OrderError}
use Rattle.depend_order.specs.declared.error.OrderError.TheVariants.{Cycle, Memory}

-- the fact holds of the cycle, where the answer names one
abbrev pub IfCycle : {T : Type 0} → Result T OrderError → (List ℕ → Type 0) → Type 0
IfCycle (Ok order) P = ⊤
IfCycle (Err (Cycle cycle)) P = P cycle
IfCycle (Err Memory) P = ⊤

-- the fact holds, where the answer names a cycle
abbrev pub OnCycle : {T : Type 0} → Result T OrderError → Type 0 → Type 0
OnCycle result P = IfCycle result (λ _. P)
