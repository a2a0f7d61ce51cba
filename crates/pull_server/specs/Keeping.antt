-- What comes of a registration or a report that is to be kept; for private clauses.
use Rattle.std.specs.Prelude.{◌≡◌, ◌⊎◌, ◌≤◌, ℕ, true, false, List, Some, None, Result, Ok, Err, IfOk, OnErr}
use Rattle.dsc_terms.specs.Counts.{Rose}
use Rattle.dsc_outside.specs.declared.disk.Disk.{Ghosts}
use Rattle.gate_log.specs.Standing.{StandsAtAnyMoment}
use Rattle.mof_values.specs.declared.memory.Memory.{Memory}
use Rattle.http_frames.specs.declared.message.Reply.{Reply}
use Rattle.pull_store.specs.declared.row.Row.{Row}
use Rattle.pull_store.specs.declared.change.Change.{Change}
use Rattle.pull_store.specs.declared.change.Refusal.TheVariants.{TooMany}
use Rattle.pull_store.specs.declared.error.PullError.{PullError}
use Rattle.pull_store.specs.declared.error.PullError.TheVariants as errors
use Rattle.pull_store.specs.Rows.{after, refusal}
use Rattle.pull_store.specs.Stands.{Stands}
use Rattle.pull_store.specs.Store.{StoreTerm, IsKept, IsReady, Untouched, WasTried, is_spent}
use Rattle.pull_server.specs.Asked.{is_full_for}
use Rattle.pull_server.specs.Replies.{plain}

-- the reply that answers it
abbrev pub Tells : {T : Type 0} → Result T PullError → ℕ → Result Reply Memory → Type 0
Tells (Ok v) code result = result ≡ Ok (plain code)
Tells (Err errors.Spent) code result = result ≡ Ok (plain 500)
Tells (Err errors.Disk) code result = result ≡ Ok (plain 500)
Tells (Err errors.Agents) code result = result ≡ Ok (plain 503)
Tells (Err (errors.Full need capacity)) code result = result ≡ Ok (plain 507)
Tells (Err errors.NoAgent) code result = result ≡ Ok (plain 404)
Tells (Err (errors.NotAStore at)) code result = result ≡ Ok (plain 500)
Tells (Err errors.Memory) code result = IfOk result (λ reply. ⊥)

-- what the reply says of the store
pub data KeptBy (old : StoreTerm) (change : Change) (code : ℕ) (rose : Type 0) (reply : Reply) (new : StoreTerm) : Type 0 where
  made : WasTried old change → reply ≡ plain code → new.rows ≡ after change old.rows → is_spent new ≡ false → KeptBy old change code rose reply new
  was_spent : is_spent old ≡ true → reply ≡ plain 500 → new ≡ old → KeptBy old change code rose reply new
  crowded : is_spent old ≡ false → refusal change old.rows ≡ Some TooMany → reply ≡ plain 503 → new ≡ old → KeptBy old change code rose reply new
  overfull : is_spent old ≡ false → refusal change old.rows ≡ None → is_full_for old (Some change) ≡ true
      → reply ≡ plain 507 → new ≡ old → KeptBy old change code rose reply new
  failed : is_spent old ≡ false → rose → reply ≡ plain 500 → new.rows ≡ old.rows → KeptBy old change code rose reply new

-- the rows before the change, or after it where it was accepted and fits
abbrev pub MayKeep : StoreTerm → Change → List Row → Type 0
MayKeep old change rows = (rows ≡ old.rows) ⊎ (WasTried old change × (rows ≡ after change old.rows))

-- the store and the disk after it
pub record Keeps {D : Type 0} (d : Ghosts D) (old : StoreTerm) (change : Change) (code : ℕ) (before : D) (result : Result Reply Memory) (new : StoreTerm) (now : D) : Type 0 where
  pub ready : IsReady d now new
  pub reply : IfOk result (λ reply. KeptBy old change code (Rose (d.faults before) (d.faults now)) reply new)
  pub rows : MayKeep old change new.rows
  pub any_moment : IsKept d before old → StandsAtAnyMoment d before now Stands (MayKeep old change)
  pub spent : is_spent old ≡ false → is_spent new ≡ true → Rose (d.faults before) (d.faults now) × IfOk result (λ reply. reply ≡ plain 500)
  pub count : d.faults before ≤ d.faults now
  pub refused : OnErr result (Untouched old new before now)
  pub rests : is_spent old ≡ true → Untouched old new before now
