-- Which status an input allows.
use Rattle.std.specs.Prelude.{◌≡◌, ℕ, List, Option, Result, Ok, Err, IfSome, ⊤}
use Rattle.dsc_terms.specs.Counts.{Rose}
use Rattle.dsc_node.specs.declared.status.InputError.{InputError}
use Rattle.dsc_node.specs.declared.status.Status.{Status}
use Rattle.dsc_node.specs.declared.status.Status.TheVariants.{Done, NotCompliant, InputRefused, ReadFault, WriteFault, Memory}
use Rattle.lcm_program.specs.Input.{Reading}

-- an input that is read is used, unless a read failed or memory ran out
abbrev pub UsesInput : Status → ℕ → ℕ → Type 0
UsesInput Done before now = ⊤
UsesInput (NotCompliant count) before now = ⊤
UsesInput WriteFault before now = ⊤
UsesInput ReadFault before now = Rose before now
UsesInput Memory before now = ⊤
UsesInput _ before now = ⊥

-- one that is refused is refused with its error, unless a read failed or memory ran out
abbrev pub RefusesInput : InputError → Status → ℕ → ℕ → Type 0
RefusesInput error (InputRefused given) before now = given ≡ error
RefusesInput error ReadFault before now = Rose before now
RefusesInput error Memory before now = ⊤
RefusesInput error _ before now = ⊥

abbrev pub Allows : {A : Type 0} → Result A InputError → Status → ℕ → ℕ → Type 0
Allows (Ok value) status before now = UsesInput status before now
Allows (Err error) status before now = RefusesInput error status before now

-- whatever the input, where it is shown, is read as allows the status
abbrev pub EachAllows : {A : Type 0} → Reading A → Option (List ℕ) → Status → ℕ → ℕ → Type 0
EachAllows {A} reads input status before now = IfSome input (λ all. (answer : Result A InputError) → reads all answer → Allows answer status before now)
