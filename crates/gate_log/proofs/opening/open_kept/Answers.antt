use Rattle.std.proofs.Common.{ℕ, List, Result, Ok, Err, sym, subst}
use Rattle.std.specs.Prelude.{IfErr, IfOk}
use Rattle.dsc_outside.specs.declared.disk.Disk.{Ghosts}
use Rattle.dsc_outside.specs.Disk.{From}
use Rattle.gate_log.specs.declared.shape.Shape.{Shape}
use Rattle.gate_log.specs.declared.error.LogError.{LogError}
use Rattle.gate_log.specs.Log.{AtAnyMoment, Keeps, LogTerm}
use Rattle.gate_log.specs.Kept.{IsOpenedBy, ReadsTo, RefusesOnly, UnopenedBy}
use Rattle.gate_log.specs.Replay.{Opened, Unopened}
use Rattle.gate_log.proofs.Leading.{keeps_by, opened_by, unopened_by}
use Rattle.gate_log.proofs.opening.open_kept.Goals as goal

module _ {D X : Type 0} (shape : Shape) (Leads : List (List ℕ) → X → Type 0) (d : Ghosts D) (old new : D) (Took : List (List ℕ) → Type 0) (Refused : List (List ℕ) → List ℕ → Type 0) where
  opened_if : (r : Result LogTerm LogError) → IfOk r (Opened d old new shape Took) → IfOk r (λ log. (value : X) → ReadsTo Leads Took value → IsOpenedBy d old new shape Leads log value)
  opened_if (Ok log) opened = λ value reads. opened_by shape Leads d old new Took Refused value reads log opened
  opened_if (Err e) opened = tt

  unopened_if : {T : Type 0} (r : Result T LogError) → IfErr r (Unopened d old new shape Took Refused) → IfErr r (λ e. (value : X) → ReadsTo Leads Took value → RefusesOnly Leads Refused → UnopenedBy d old new shape Leads e)
  unopened_if (Ok v) unopened = tt
  unopened_if (Err e) unopened = λ value reads refuses. unopened_by shape Leads d old new Took Refused value reads refuses e unopened

pub returns-clause-opened : goal.returns-clause-opened
returns-clause-opened g c =
    opened_if g.K.LoggedState.shape g.K.LoggedState.leads g.D.Disk c.args.disk.now c.replay_log.new.disk (g.R.Replay.took c.replay_log.new.replay) (g.R.Replay.refused c.replay_log.new.replay) c.replay_log.result
    (subst (λ (s : Shape). IfOk c.replay_log.result (Opened g.D.Disk c.args.disk.now c.replay_log.new.disk s (g.R.Replay.took c.replay_log.new.replay))) (sym c.requires.shape) c.replay_log.ensures.ok)

pub returns-clause-cause : goal.returns-clause-cause
returns-clause-cause g c =
    unopened_if g.K.LoggedState.shape g.K.LoggedState.leads g.D.Disk c.args.disk.now c.replay_log.new.disk (g.R.Replay.took c.replay_log.new.replay) (g.R.Replay.refused c.replay_log.new.replay) c.replay_log.result
    (subst (λ (s : Shape). IfErr c.replay_log.result (Unopened g.D.Disk c.args.disk.now c.replay_log.new.disk s (g.R.Replay.took c.replay_log.new.replay) (g.R.Replay.refused c.replay_log.new.replay))) (sym c.requires.shape) c.replay_log.ensures.refused)

pub returns-clause-any_moment : goal.returns-clause-any_moment
returns-clause-any_moment g c =
    keeps_by g.K.LoggedState.shape g.K.LoggedState.leads g.D.Disk c.args.disk.now c.replay_log.new.disk
    (subst (λ (s : Shape). AtAnyMoment g.D.Disk c.args.disk.now c.replay_log.new.disk (From (Keeps s) (g.D.Disk.images c.args.disk.now))) (sym c.requires.shape) c.replay_log.ensures.any_moment)
