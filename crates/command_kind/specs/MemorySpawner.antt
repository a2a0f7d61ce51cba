-- A spawner in memory.
use Rattle.std.specs.Prelude.{◌≡◌, ◌⊎◌, ℕ, List, [], ◌∷◌, ◌++◌, Some, None, Result, Ok, Err}
use Rattle.dsc_outside.specs.Causes.{one_more}
use Rattle.command_kind.specs.Spawning.{ran}
use Rattle.command_kind.specs.declared.spawner.Run.{Run}
use Rattle.command_kind.specs.declared.spawner.SpawnError.{SpawnError}
use Rattle.command_kind.specs.declared.spawner.SpawnError.TheVariants.{Failed, Memory}

pub record SpawnerInMemory : Type 0 where
  -- the statuses that are left, in order
  pub statuses : List ℕ
  pub runs : List Run
  pub faults : ℕ

-- before the first run
abbrev pub unrun : List ℕ → SpawnerInMemory
unrun statuses = record { statuses = statuses; runs = []; faults = 0 }

-- the next status is given, or, where none is left, the run fails
abbrev pub GivesNext : List ℕ → SpawnerInMemory → List ℕ → List (List ℕ) → Result ℕ SpawnError → SpawnerInMemory → Type 0
GivesNext [] before program words result after =
    (result ≡ Err Failed)
    × (after ≡ record { statuses = []; runs = before.runs ++ ran program words None ∷ []; faults = one_more before.faults })
GivesNext (status ∷ rest) before program words result after =
    (result ≡ Ok status)
    × (after ≡ record { statuses = rest; runs = before.runs ++ ran program words (Some status) ∷ []; faults = before.faults })

-- what comes of the next run; out of memory, nothing was done
abbrev pub RunsNext : SpawnerInMemory → List ℕ → List (List ℕ) → Result ℕ SpawnError → SpawnerInMemory → Type 0
RunsNext before program words result after =
    GivesNext before.statuses before program words result after ⊎ ((result ≡ Err Memory) × (after ≡ before))
