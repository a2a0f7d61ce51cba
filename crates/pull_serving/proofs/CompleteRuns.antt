-- A run of valid input that nothing disturbs serves all its connections.
use Rattle.std.proofs.Common.{◌≡◌, ◌⊎◌, inl, inr, ℕ, ◌≤◌, Bool, true, false, List, [], ◌∷◌, Option, Some, IfSome, refl, sym, ap, ◌∙◌, subst, arith}
use Rattle.std.proofs.lemmas.Bool.{false≢true}
use Rattle.std.proofs.Math.Nat.{le_refl, le_trans}
use Rattle.dsc_terms.specs.Counts.{Rose}
use Rattle.dsc_outside.specs.declared.disk.Disk.{Ghosts}
use Rattle.pull_outside.specs.Shelf.{Contents}
use Rattle.pull_store.specs.declared.error.PullError.{PullError}
use Rattle.pull_store.specs.declared.error.PullError.TheVariants as errors
use Rattle.pull_store.specs.Stands.{FailsAt}
use Rattle.pull_store.specs.Store.{Unopened, is_spent}
use Rattle.pull_store.proofs.Failing.{failing_for_none}
use Rattle.pull_serving.specs.declared.status.ServeStatus.{ServeStatus}
use Rattle.pull_serving.specs.declared.status.ServeStatus.TheVariants as statuses
use Rattle.pull_serving.specs.CompleteRuns.{IsValidRun, NothingFailed, ValidRunsComplete}
use Rattle.pull_serving.specs.Serving.{IsOpenedRun, Outside, ServiceOf, no_memory, ran, refused, unopened}
use Rattle.pull_serving.specs.Status.{status_of}
use Rattle.pull_serving.specs.Turn.{Answering, State, Turn}
use Rattle.pull_serving.specs.Turns.{Runs}
use Rattle.pull_serving.proofs.Ends.{rose_earlier}

rose_before : (before mid after : ℕ) → mid ≤ after → Rose before mid → Rose before after
rose_before before mid after later rose = le_trans rose later

-- ---- a store that is spent at the end of a run

module _ (how : Answering) (shelf : Option Contents) where
  counts_later : (turns : List Turn) (first last : State) → Runs how shelf first turns last → first.disk_faults ≤ last.disk_faults
  counts_later [] first last same = subst (λ (s : State). first.disk_faults ≤ s.disk_faults) (sym same) (le_refl first.disk_faults)
  counts_later (t ∷ turns) first last (begins, fresh, turn, more) =
      le_trans (subst (λ (s : State). s.disk_faults ≤ t.after.disk_faults) begins turn.disk_count) (counts_later turns t.after last more)

  -- the disk's count rose in one of its turns
  spent_rose : (turns : List Turn) (first last : State) → Runs how shelf first turns last → is_spent first.store ≡ false → is_spent last.store ≡ true → Rose first.disk_faults last.disk_faults
  spent_rose [] first last same fresh over = absurd (false≢true (sym fresh ∙ ap (λ (s : State). is_spent s.store) (sym same) ∙ over))
  spent_rose (t ∷ turns) first last (begins, _, turn, more) fresh over =
      by (is_spent t.after.store) refl (λ still. spent_rose turns t.after last more still over)
    where
      by : (spent : Bool) → is_spent t.after.store ≡ spent → (is_spent t.after.store ≡ false → Rose t.after.disk_faults last.disk_faults) → Rose first.disk_faults last.disk_faults
      by true is later =
          let here = (turn.spent (subst (λ (s : State). is_spent s.store ≡ false) (sym begins) fresh) is).0 in
          rose_before first.disk_faults t.after.disk_faults last.disk_faults (counts_later turns t.after last more)
          (subst (λ (s : State). Rose s.disk_faults t.after.disk_faults) begins here)
      by false is later =
          rose_earlier first.disk_faults t.after.disk_faults last.disk_faults (subst (λ (s : State). s.disk_faults ≤ t.after.disk_faults) begins turn.disk_count) (later is)

-- ---- a run

abbrev EndsWell : ServeStatus → Type 0
EndsWell status = (status ≡ statuses.Done) ⊎ (status ≡ statuses.Memory)

module _ {D : Type 0} (how : Answering) (d : Ghosts D) (arguments : List (List ℕ)) (old new : Outside D) (valid : IsValidRun d arguments old.disk) (nothing : NothingFailed d old new) where
  not_refused : (error : PullError) → Unopened d old.disk new.disk error → EndsWell (status_of error)
  not_refused errors.Disk rose = absurd (nothing.disk rose)
  not_refused (errors.NotAStore at) is =
      absurd (failing_for_none valid.held at valid.rows (subst (λ (o : Option (List ℕ)). IfSome o (λ held. FailsAt held at)) valid.shown is.fails) valid.stands)
  not_refused errors.Memory is = inr refl
  not_refused errors.Spent is = absurd is
  not_refused errors.Agents is = absurd is
  not_refused errors.NoAgent is = absurd is
  not_refused (errors.Full need capacity) is = absurd is

  run_ends : (count : ℕ) (status : ServeStatus) → IsOpenedRun how d count old.disk new.disk old.around new.around old.output new.output status → EndsWell status
  run_ends count statuses.Done run = inl refl
  run_ends count statuses.DiskFault run =
      absurd (nothing.disk (rose_earlier (d.faults old.disk) (d.faults run.disk) (d.faults new.disk) run.later
      (spent_rose how old.around.shelf run.run.turns _ _ run.run.runs run.is_opened.kept.unspent run.run.printed.1)))
  run_ends count statuses.DoorFault run = absurd (nothing.door run.run.printed.2)
  run_ends count statuses.WriteFault run = absurd (nothing.output run.run.printed.1)
  run_ends count statuses.Usage run = absurd run.run.printed
  run_ends count (statuses.NotAStore at) run = absurd run.run.printed
  run_ends count statuses.Memory run = inr refl

  completes : (status : ServeStatus) → ServiceOf how d arguments old new status → EndsWell status
  completes _ (refused faulty disk around line) = absurd (faulty valid.accepted)
  completes _ (no_memory same) = inr refl
  completes _ (unopened values error are is moments around line) = not_refused error is
  completes _ (ran values status are run) = run_ends values.connections status run

pub valid_runs_complete : {D : Type 0} (how : Answering) (d : Ghosts D) → ValidRunsComplete how d
valid_runs_complete how d arguments old new status service valid nothing = completes how d arguments old new valid nothing status service
