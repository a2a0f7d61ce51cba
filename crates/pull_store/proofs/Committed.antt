-- What a change of the log makes of a store.
use Rattle.std.proofs.Common.{◌≡◌, inl, inr, ℕ, ◌+◌, false, List, [], ◌∷◌, ◌++◌, length, None, Err, refl, sym, ◌∙◌, ap, subst, arith}
use Rattle.std.specs.List.{AllByRecursion}
use Rattle.dsc_outside.specs.declared.disk.Disk.{Ghosts}
use Rattle.dsc_outside.proofs.Moments.{started}
use Rattle.gate_log.specs.Text.{IsLive, cells}
use Rattle.gate_log.specs.Log.{LogTerm}
use Rattle.gate_log.specs.Standing.{AllStand, StandsAtAnyMoment}
use Rattle.gate_log.specs.Kept.{Counts, IsEither, LeadsAnew}
use Rattle.gate_log.proofs.Cells.{text_live}
use Rattle.gate_log.proofs.Leading.{is_kept_by, kept_stands as stands_by, still_by}
use Rattle.gate_log.proofs.OneByOne.{cells_both}
use Rattle.pull_store.specs.declared.row.Row.{Row}
use Rattle.pull_store.specs.declared.change.Change.{Change}
use Rattle.pull_store.specs.declared.error.PullError.{PullError}
use Rattle.pull_store.specs.declared.error.PullError.TheVariants.{Spent, Agents, NoAgent, Full, Disk, NotAStore, Memory}
use Rattle.pull_store.specs.Rows.{row_of, after, refusal, rows_without}
use Rattle.pull_store.specs.Bodies.{body_of, bodies_of_row, bodies_of_rows}
use Rattle.pull_store.specs.Sound.{AreRows, IsInSize, IsRow}
use Rattle.pull_store.specs.Stands.{Leads, Stands, pull_shape}
use Rattle.pull_store.specs.Steps.{agent_of, with_row, Makes}
use Rattle.pull_store.specs.Store.{AddsCell, StoreTerm, IsKept, IsReady, Changed, Written, whole_need, is_spent}
use Rattle.pull_store.proofs.Building.{replays_push, rows_read, bodies_append}
use Rattle.pull_store.proofs.Leaving.{left_none}
use Rattle.pull_store.proofs.SoundSteps.{sound_with, placed_after}

module _ (rows : List Row) (change : Change) (in_size : IsInSize change) (accepted : refusal change rows ≡ None) where
  -- one body more
  pub appended : (body : List ℕ) → body ≡ body_of change → Counts Leads (body ∷ []) rows (after change rows)
  appended body spells = λ all replays. replays_push [] rows (after change rows) all body replays
      (record { change = change; spells = spells; changes = record { size = in_size; accepted = accepted; is = refl } })

  module _ (row : Row) (sound : AreRows rows) (makes : Makes change (row_of (agent_of change) rows) row) (front rest : List Row) (parts : with_row row rows ≡ front ++ row ∷ rest) where
    -- the rows after the change, in parts of which none is left out
    pub are_parts : rows_without [] (front ++ row ∷ rest) ≡ after change rows
    are_parts = left_none (front ++ row ∷ rest) ∙ sym parts ∙ placed_after change rows row makes

    sound_parts : AreRows (rows_without [] (front ++ row ∷ rest))
    sound_parts = subst AreRows (parts ∙ sym (left_none (front ++ row ∷ rest))) (sound_with change rows row sound in_size accepted makes)

    pub each_part : AllByRecursion IsRow (rows_without [] (front ++ row ∷ rest))
    each_part = sound_parts.each

    -- the rows, written into an empty bank
    pub rewritten : LeadsAnew Leads (bodies_of_rows (rows_without [] (front ++ row ∷ rest))) rows (after change rows)
    rewritten = subst (λ (new : List Row). Leads (bodies_of_rows (rows_without [] (front ++ row ∷ rest))) new) are_parts (rows_read (rows_without [] (front ++ row ∷ rest)) sound_parts)

    pub needs : length (cells (bodies_of_rows (rows_without [] front))) + length (cells (bodies_of_row row)) + length (cells (bodies_of_rows (rows_without [] rest))) + 1 ≡ whole_need (after change rows)
    needs = omega (
      arith,
      ap (λ (l : List Row). length (cells (bodies_of_rows l))) are_parts,
      ap (λ (l : List Row). length (cells (bodies_of_rows l))) (left_none (front ++ row ∷ rest)),
      ap (λ (l : List Row). length (cells (bodies_of_rows l))) (left_none front),
      ap (λ (l : List Row). length (cells (bodies_of_rows l))) (left_none rest),
      ap (λ (bodies : List (List ℕ)). length (cells bodies)) (bodies_append front (row ∷ rest)),
      cells_both (bodies_of_rows front) (bodies_of_row row ++ bodies_of_rows rest),
      cells_both (bodies_of_row row) (bodies_of_rows rest),
    )

module _ {D : Type 0} (d : Ghosts D) where
  -- every image of a store's disk stands for its rows
  pub kept_stands : (disk : D) (store : StoreTerm) → IsKept d disk store → AllStand d disk Stands (λ rows. rows ≡ store.rows)
  kept_stands disk store kept = stands_by pull_shape Leads d disk store.log store.rows kept

  pub is_kept : (disk : D) (store : StoreTerm) → IsReady d disk store → is_spent store ≡ false → IsKept d disk store
  is_kept disk store ready unspent = is_kept_by pull_shape Leads d disk store.log store.rows ready unspent

  pub still_moment : (disk : D) (store : StoreTerm) (next : List Row) → ((c : List ℕ) → d.left_since disk (d.moment disk) c → d.images disk c) → IsKept d disk store
      → StandsAtAnyMoment d disk disk Stands (IsEither store.rows next)
  still_moment disk store next now kept = still_by pull_shape Leads d disk store.log store.rows next now kept

  -- a disk that was not touched
  pub still_cell : (disk : D) (log new : LogTerm) (change : Change) (e : PullError) → ((c : List ℕ) → d.left_since disk (d.moment disk) c → d.images disk c)
      → AddsCell {T = Unit {0}} d disk disk log change (Err e) new
  still_cell disk log new change e now = record {
    log = tt;
    same_bank = λ bodies of. started d.moment d.left_since disk (IsLive log.second) (λ c left. text_live log.shape log.second log.closed c bodies (of.each c (now c left)));
  }

  pub changed_of : (before now : D) (log new : LogTerm) (rows : List Row) (change : Change) (e : PullError) → log.spent ≡ false → refusal change rows ≡ None
      → Written {T = Unit {0}} d log rows change before now (Err e) new → Changed {T = Unit {0}} d (record { log = log; rows = rows }) change before now (Err e) (record { log = new; rows = rows })
  changed_of before now log new rows change Disk unspent accepted written = (record { unspent = unspent; accepted = accepted; capacity = written.0 }, written.1, refl, written.2)
  changed_of before now log new rows change (Full need capacity) unspent accepted written =
      (unspent, accepted, written.0, record { store = ap (λ (l : LogTerm). record { log = l; rows = rows }) written.1; disk = written.2 })
  changed_of before now log new rows change Spent unspent accepted written = absurd written
  changed_of before now log new rows change Agents unspent accepted written = absurd written
  changed_of before now log new rows change NoAgent unspent accepted written = absurd written
  changed_of before now log new rows change (NotAStore at) unspent accepted written = absurd written
  changed_of before now log new rows change Memory unspent accepted written = absurd written

  pub ready_of : (before now : D) (log new : LogTerm) (rows : List Row) (change : Change) (e : PullError) → IsKept d before (record { log = log; rows = rows })
      → Written {T = Unit {0}} d log rows change before now (Err e) new → IsReady d now (record { log = new; rows = rows })
  ready_of before now log new rows change Disk kept written = inl written.2
  ready_of before now log new rows change (Full need capacity) kept written =
      inr (subst (λ (l : LogTerm). IsKept d now (record { log = l; rows = rows })) (sym written.1) (subst (λ (disk : D). IsKept d disk (record { log = log; rows = rows })) (sym written.2) kept))
  ready_of before now log new rows change Spent kept written = absurd written
  ready_of before now log new rows change Agents kept written = absurd written
  ready_of before now log new rows change NoAgent kept written = absurd written
  ready_of before now log new rows change (NotAStore at) kept written = absurd written
  ready_of before now log new rows change Memory kept written = absurd written
