-- What is known of the cycle that an answer names gives what follows from it.
use Rattle.std.proofs.Common.{ℕ, List, Result, Ok, Err}
use Rattle.depend_order.specs.Answers.{IfCycle}
use Rattle.depend_order.specs.declared.error.OrderError.{OrderError}
use Rattle.depend_order.specs.declared.error.OrderError.TheVariants.{Cycle, Memory}

pub IfCycle-weaker : {T : Type 0} (r : Result T OrderError) (P Q : List ℕ → Type 0) → ((cycle : List ℕ) → P cycle → Q cycle) → IfCycle r P → IfCycle r Q
IfCycle-weaker (Ok order) P Q f h = h
IfCycle-weaker (Err (Cycle cycle)) P Q f h = f cycle h
IfCycle-weaker (Err Memory) P Q f h = h
