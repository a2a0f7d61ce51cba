-- Completeness of runs: a run of valid input that nothing disturbs serves all its connections.
use Rattle.std.specs.Prelude.{◌≡◌, ◌⊎◌, ℕ, List, [], Some}
use Rattle.clap.specs.Words.{fault_of}
use Rattle.dsc_outside.specs.declared.disk.Disk.{Ghosts}
use Rattle.dsc_terms.specs.Counts.{Rose}
use Rattle.pull_store.specs.Stands.{Stands}
use Rattle.pull_store.specs.declared.row.Row.{Row}
use Rattle.serve_words.specs.Words.{serve_app}
use Rattle.pull_serving.specs.Serving.{Outside, ServiceOf}
use Rattle.pull_serving.specs.Turn.{Answering}
use Rattle.pull_serving.specs.declared.status.ServeStatus.{ServeStatus}
use Rattle.pull_serving.specs.declared.status.ServeStatus.TheVariants.{Done, Memory}

-- the arguments keep the rules of the command line, and the disk shows an image that stands for rows
pub record IsValidRun {D : Type 0} (d : Ghosts D) (arguments : List (List ℕ)) (before : D) : Type 0 where
  pub accepted : fault_of serve_app arguments ≡ []
  pub held : List ℕ
  pub shown : d.shown before ≡ Some held
  pub rows : List Row
  pub stands : Stands held rows

-- no count of faults rose, of the disk, of the door, or of the output
pub record NothingFailed {D : Type 0} (d : Ghosts D) (old new : Outside D) : Type 0 where
  pub disk : Rose (d.faults old.disk) (d.faults new.disk) → ⊥
  pub door : Rose old.around.door_faults new.around.door_faults → ⊥
  pub output : Rose old.output.faults new.output.faults → ⊥

-- whatever the service, the run ends as done, or memory ran out
abbrev pub ValidRunsComplete : {D : Type 0} → Answering → Ghosts D → Type 0
ValidRunsComplete {D = D} how d =
    (arguments : List (List ℕ)) (old new : Outside D) (status : ServeStatus) → ServiceOf how d arguments old new status → IsValidRun d arguments old.disk → NothingFailed d old new
    → (status ≡ Done) ⊎ (status ≡ Memory)
