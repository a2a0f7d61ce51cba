-- A whole run of the server.
use Rattle.std.specs.Prelude.{◌≡◌, ◌≢◌, ◌⊎◌, ◌≤◌, ℕ, List, [], Option}
use Rattle.clap.specs.Words.{fault_of}
use Rattle.dsc_outside.specs.declared.disk.Disk.{Ghosts}
use Rattle.dsc_outside.specs.declared.ends.Ends as ends
use Rattle.dsc_outside.specs.Disk.{From}
use Rattle.gate_log.specs.Log.{AtAnyMoment}
use Rattle.pull_outside.specs.Shelf.{Contents}
use Rattle.pull_outside.specs.declared.door.Door as doors
use Rattle.pull_outside.specs.declared.shelf.Shelf as shelves
use Rattle.pull_exchange.specs.Exchange.{Writes}
use Rattle.pull_store.specs.declared.error.PullError.{PullError}
use Rattle.pull_store.specs.Stands.{KeepsRows}
use Rattle.pull_store.specs.Store.{IsOpened, StoreTerm, Unopened}
use Rattle.serve_words.specs.declared.words.ServeWords.{ServeWords}
use Rattle.serve_words.specs.Words.{AreValues, serve_app}
use Rattle.pull_serving.specs.declared.status.ServeStatus.{ServeStatus}
use Rattle.pull_serving.specs.declared.status.ServeStatus.TheVariants as statuses
use Rattle.pull_serving.specs.Status.{status_of}
use Rattle.pull_serving.specs.Printing.{Output, Printed, output_of, refusal_line}
use Rattle.pull_server.specs.Answers.{Replies}
use Rattle.pull_serving.specs.Turn.{Answering, state}
use Rattle.pull_serving.specs.Turns.{Doorway, IsRun, Visits, doorway_of}

-- what is known of the door and the shelf
pub record Around : Type 0 where
  pub door : Doorway
  pub door_faults : ℕ
  pub shelf : Option Contents
  pub shelf_faults : ℕ

-- what the server reaches: the disk, and what is known of the rest
pub record Outside (D : Type 0) : Type 0 where
  pub disk : D
  pub around : Around
  pub output : Output

abbrev pub around_of : {G C S : Type 0} → doors.Ghosts G C → shelves.Ghosts S → G → S → Around
around_of g s door shelf = record { door = doorway_of g door; door_faults = g.faults door; shelf = s.holds shelf; shelf_faults = s.faults shelf }

abbrev pub outside_of : {G C S D K : Type 0} → doors.Ghosts G C → shelves.Ghosts S → ends.Ghosts K → G → S → D → K → Outside D
outside_of g s k door shelf disk output = record { disk = disk; around = around_of g s door shelf; output = output_of k output }

-- The run of an opened store: the rows that the disk read as, and the turns. A crash at any moment leaves rows that an image stood for
-- before, or rows that one of the turns may leave.
pub record IsOpenedRun {D : Type 0} (how : Answering) (d : Ghosts D) (count : ℕ) (before after : D) (around around_after : Around) (out out_after : Output) (status : ServeStatus) : Type 0 where
  pub disk : D
  pub opened : StoreTerm
  pub last : StoreTerm
  pub is_opened : IsOpened d before disk opened
  pub later : d.faults before ≤ d.faults disk
  pub run : IsRun how d disk after around.shelf (state d disk opened around.shelf_faults) (state d after last around_after.shelf_faults) around.door around_after.door
      (Printed count (state d after last around_after.shelf_faults) around.door_faults around_after.door_faults out out_after status)
  pub any_moment : AtAnyMoment d before after (λ image. From KeepsRows (d.images before) image ⊎ Visits around.shelf (state d disk opened around.shelf_faults) run.turns image)
  pub shelf : around_after.shelf ≡ around.shelf

-- the line of the refusal was written, or the output failed
abbrev pub WritesRefusal : ServeStatus → Output → Output → Type 0
WritesRefusal status old new = Writes old.held new.held (refusal_line status) old.faults new.faults

-- the arguments were refused, or memory ran out for them; or the store was not opened; or it was, and connections were served
pub data ServiceOf {D : Type 0} (how : Answering) (d : Ghosts D) (arguments : List (List ℕ)) (old new : Outside D) : ServeStatus → Type 0 where
  refused : fault_of serve_app arguments ≢ [] → new.disk ≡ old.disk → new.around ≡ old.around → WritesRefusal statuses.Usage old.output new.output
      → ServiceOf how d arguments old new statuses.Usage
  no_memory : new ≡ old → ServiceOf how d arguments old new statuses.Memory
  unopened : (values : ServeWords) (error : PullError) → AreValues arguments values → Unopened d old.disk new.disk error
      → AtAnyMoment d old.disk new.disk (From KeepsRows (d.images old.disk)) → new.around ≡ old.around → WritesRefusal (status_of error) old.output new.output
      → ServiceOf how d arguments old new (status_of error)
  ran : (values : ServeWords) (status : ServeStatus) → AreValues arguments values
      → IsOpenedRun how d values.connections old.disk new.disk old.around new.around old.output new.output status
      → ServiceOf how d arguments old new status

-- the same of the pull server's own answer table
abbrev pub Service : {D : Type 0} → Ghosts D → List (List ℕ) → Outside D → Outside D → ServeStatus → Type 0
Service d arguments old new status = ServiceOf Replies d arguments old new status
