-- Runs of programs, as calls add them.
use Rattle.std.specs.Prelude.{ℕ, List, [], ◌∷◌, ◌++◌, Option, Some, None, option_map, Result, Ok, Err}
use Rattle.command_kind.specs.declared.spawner.Run.{Run}
use Rattle.command_kind.specs.declared.spawner.SpawnError.{SpawnError}
use Rattle.command_kind.specs.declared.spawner.SpawnError.TheVariants.{Failed, Memory}

-- a program with these arguments, and its exit status, where it gave one
abbrev pub ran : List ℕ → List (List ℕ) → Option ℕ → Run
ran program words status = record { program = program; words = words; status = status }

-- what a call runs: the program once, or nothing out of memory
abbrev pub run_of : List ℕ → List (List ℕ) → Result ℕ SpawnError → List Run
run_of program words (Ok status) = ran program words (Some status) ∷ []
run_of program words (Err Failed) = ran program words None ∷ []
run_of program words (Err Memory) = []

-- the runs after these were added, where they are shown
abbrev pub with_runs : Option (List Run) → List Run → Option (List Run)
with_runs shown added = option_map (λ runs. runs ++ added) shown
