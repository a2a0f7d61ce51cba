-- A run over a store that was opened.
use Rattle.std.proofs.Common.{◌≡◌, ◌⊎◌, inl, inr, ◌≤◌, ℕ, List}
use Rattle.dsc_outside.specs.declared.disk.Disk.{Ghosts}
use Rattle.dsc_outside.specs.Disk.{From}
use Rattle.dsc_outside.proofs.Moments.{then_on, weaker}
use Rattle.gate_log.specs.Log.{AtAnyMoment}
use Rattle.pull_store.specs.Stands.{KeepsRows}
use Rattle.pull_store.specs.Store.{IsOpened, StoreTerm}
use Rattle.pull_serving.specs.declared.status.ServeStatus.{ServeStatus}
use Rattle.pull_serving.specs.Printing.{Output, Printed}
use Rattle.pull_serving.specs.Serving.{Around, IsOpenedRun}
use Rattle.pull_serving.specs.Turn.{Answering, state}
use Rattle.pull_serving.specs.Turns.{IsRun, Visits}

pub opened_run : {D : Type 0} (how : Answering) (d : Ghosts D) (count : ℕ) (before mid after : D) (old new : Around) (out out_after : Output) (status : ServeStatus) (opened last : StoreTerm)
    → IsOpened d before mid opened → d.faults before ≤ d.faults mid → AtAnyMoment d before mid (From KeepsRows (d.images before))
    → IsRun how d mid after old.shelf (state d mid opened old.shelf_faults) (state d after last new.shelf_faults) old.door new.door
    (Printed count (state d after last new.shelf_faults) old.door_faults new.door_faults out out_after status)
    → new.shelf ≡ old.shelf → IsOpenedRun how d count before after old new out out_after status
opened_run how d count before mid after old new out out_after status opened last is later opening run same =
    let first = state d mid opened old.shelf_faults in
    record {
      disk = mid;
      opened = opened;
      last = last;
      is_opened = is;
      later = later;
      run = run;
      any_moment = then_on d.moment d.left_since before mid after (λ (image : List ℕ). From KeepsRows (d.images before) image ⊎ Visits old.shelf first run.turns image) (Visits old.shelf first run.turns)
          (weaker d.moment d.left_since before mid (From KeepsRows (d.images before)) (λ (image : List ℕ). From KeepsRows (d.images before) image ⊎ Visits old.shelf first run.turns image) opening (λ c here. inl here))
          run.any_moment (λ c here. inr here);
      shelf = same;
    }
