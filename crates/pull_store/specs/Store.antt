-- A store, the disk that it is of, and what its calls answer.
use Rattle.std.specs.Prelude.{◌≡◌, ◌⊎◌, ℕ, ◌+◌, ◌<◌, ◌≤◌, Bool, true, false, List, length, Some, None, Result, Ok, Err, OnOk, ⊤}
use Rattle.dsc_outside.specs.declared.disk.Disk.{Ghosts}
use Rattle.dsc_terms.specs.Counts.{Rose}
use Rattle.gate_log.specs.Text.{cells, need_of}
use Rattle.gate_log.specs.Calls.{StaysInBank}
use Rattle.gate_log.specs.Log.{LogTerm, grown, capacity_in}
use Rattle.gate_log.specs.Kept.{IsKeptBy, IsOpenedBy, NotOpenedBy}
use Rattle.pull_store.specs.declared.row.Row.{Row}
use Rattle.pull_store.specs.declared.change.Change.{Change}
use Rattle.pull_store.specs.declared.change.Refusal.TheVariants as refusals
use Rattle.pull_store.specs.declared.error.PullError.{PullError}
use Rattle.pull_store.specs.declared.error.PullError.TheVariants.{Spent, Agents, NoAgent, Full, Disk, NotAStore, Memory}
use Rattle.pull_store.specs.Rows.{after, refusal, rows_without}
use Rattle.pull_store.specs.Bodies.{body_of, bodies_of_rows}
use Rattle.pull_store.specs.Stands.{Leads, pull_shape}

-- what contracts see of a store
pub record StoreTerm : Type 0 where
  pub log : LogTerm
  pub rows : List Row

abbrev pub is_spent : StoreTerm → Bool
is_spent store = store.log.spent

-- the store is of the disk: its log is, and the log's bodies lead to its rows
abbrev pub IsKept : {D : Type 0} → Ghosts D → D → StoreTerm → Type 0
IsKept d disk store = IsKeptBy d disk pull_shape Leads store.log store.rows

-- it is so, or a call answered Disk
abbrev pub IsReady : {D : Type 0} → Ghosts D → D → StoreTerm → Type 0
IsReady d disk store = (is_spent store ≡ true) ⊎ IsKept d disk store

-- ---- capacity

-- the bytes that rows take in a bank: their cells, and one gate
abbrev pub whole_need : List Row → ℕ
whole_need rows = length (cells (bodies_of_rows rows)) + 1

abbrev pub bank_capacity : ℕ
bank_capacity = pull_shape.bank

-- the cell fits the live bank
abbrev pub HasCapacity : StoreTerm → Change → Type 0
HasCapacity store change = need_of (body_of change) ≤ capacity_in store.log

-- neither does the cell fit, nor do the rows after the change fit a bank
pub record IsFull (store : StoreTerm) (change : Change) (need capacity : ℕ) : Type 0 where
  pub cell : capacity_in store.log < need_of (body_of change)
  pub needs : need ≡ whole_need (after change store.rows)
  pub bank : capacity ≡ bank_capacity
  pub rows : capacity < need

-- ---- answers

-- the change was accepted and fits
pub record WasTried (old : StoreTerm) (change : Change) : Type 0 where
  pub unspent : is_spent old ≡ false
  pub accepted : refusal change old.rows ≡ None
  pub capacity : HasCapacity old change ⊎ (whole_need (after change old.rows) ≤ bank_capacity)

-- nothing was touched
pub record Untouched {D : Type 0} (old new : StoreTerm) (before after : D) : Type 0 where
  pub store : new ≡ old
  pub disk : after ≡ before

-- what an answer to a change says, of the store and of the disk with its count
abbrev pub Changed : {T D : Type 0} → Ghosts D → StoreTerm → Change → D → D → Result T PullError → StoreTerm → Type 0
Changed d old change before now (Ok v) new = WasTried old change × (new.rows ≡ after change old.rows) × (is_spent new ≡ false)
Changed d old change before now (Err Spent) new = (is_spent old ≡ true) × Untouched old new before now
Changed d old change before now (Err Agents) new = (is_spent old ≡ false) × (refusal change old.rows ≡ Some refusals.TooMany) × Untouched old new before now
Changed d old change before now (Err NoAgent) new = (is_spent old ≡ false) × (refusal change old.rows ≡ Some refusals.Unknown) × Untouched old new before now
Changed d old change before now (Err (Full need capacity)) new =
    (is_spent old ≡ false) × (refusal change old.rows ≡ None) × IsFull old change need capacity × Untouched old new before now
Changed d old change before now (Err Disk) new = WasTried old change × Rose (d.faults before) (d.faults now) × (new.rows ≡ old.rows) × (is_spent new ≡ true)
Changed d old change before now (Err Memory) new = (is_spent old ≡ false) × (refusal change old.rows ≡ None) × Untouched old new before now
Changed d old change before now (Err (NotAStore at)) new = ⊥

-- what the steps that write say
abbrev pub Written : {T D : Type 0} → Ghosts D → LogTerm → List Row → Change → D → D → Result T PullError → LogTerm → Type 0
Written d log rows change before now (Ok v) new = HasCapacity (record { log = log; rows = rows }) change ⊎ (whole_need (after change rows) ≤ bank_capacity)
Written d log rows change before now (Err Disk) new =
    (HasCapacity (record { log = log; rows = rows }) change ⊎ (whole_need (after change rows) ≤ bank_capacity)) × Rose (d.faults before) (d.faults now) × (new.spent ≡ true)
Written d log rows change before now (Err (Full need capacity)) new = IsFull (record { log = log; rows = rows }) change need capacity × (new ≡ log) × (now ≡ before)
Written d log rows change before now (Err Spent) new = ⊥
Written d log rows change before now (Err Agents) new = ⊥
Written d log rows change before now (Err NoAgent) new = ⊥
Written d log rows change before now (Err (NotAStore at)) new = ⊥
Written d log rows change before now (Err Memory) new = ⊥

-- what a change does whose cell fits the live bank: after Ok the log has grown by that cell alone, and a crash at any
-- moment leaves this bank live
pub record AddsCell {T D : Type 0} (d : Ghosts D) (before now : D) (old : LogTerm) (change : Change) (result : Result T PullError) (new : LogTerm) : Type 0 where
  pub log : OnOk result (new ≡ grown old (need_of (body_of change)))
  pub same_bank : StaysInBank d before now old

-- ---- agents that leave

-- The rows of all other agents do not fit a bank. Rows that an image stands for fit one, so this is only over a disk that shows
-- nothing.
pub record IsFullWithout {D : Type 0} (d : Ghosts D) (disk : D) (store : StoreTerm) (agents : List ℕ) (need capacity : ℕ) : Type 0 where
  pub needs : need ≡ whole_need (rows_without agents store.rows)
  pub bank : capacity ≡ bank_capacity
  pub rows : capacity < need
  pub hidden : d.shown disk ≡ None

-- what an answer to agents being forgotten says, of the store and of the disk with its count
abbrev pub Forgot : {T D : Type 0} → Ghosts D → StoreTerm → List ℕ → D → D → Result T PullError → StoreTerm → Type 0
Forgot d old agents before now (Ok v) new = (is_spent old ≡ false) × (new.rows ≡ rows_without agents old.rows) × (is_spent new ≡ false)
Forgot d old agents before now (Err Spent) new = (is_spent old ≡ true) × Untouched old new before now
Forgot d old agents before now (Err (Full need capacity)) new = (is_spent old ≡ false) × IsFullWithout d before old agents need capacity × Untouched old new before now
Forgot d old agents before now (Err Disk) new = (is_spent old ≡ false) × Rose (d.faults before) (d.faults now) × (new.rows ≡ old.rows) × (is_spent new ≡ true)
Forgot d old agents before now (Err Agents) new = ⊥
Forgot d old agents before now (Err NoAgent) new = ⊥
Forgot d old agents before now (Err (NotAStore at)) new = ⊥
Forgot d old agents before now (Err Memory) new = ⊥

-- what the steps that write say
abbrev pub WrittenWithout : {T D : Type 0} → Ghosts D → LogTerm → List Row → List ℕ → D → D → Result T PullError → LogTerm → Type 0
WrittenWithout d log rows agents before now (Ok v) new = Unit {0}
WrittenWithout d log rows agents before now (Err Disk) new = Rose (d.faults before) (d.faults now) × (new.spent ≡ true)
WrittenWithout d log rows agents before now (Err (Full need capacity)) new = IsFullWithout d before (record { log = log; rows = rows }) agents need capacity × (new ≡ log) × (now ≡ before)
WrittenWithout d log rows agents before now (Err Spent) new = ⊥
WrittenWithout d log rows agents before now (Err Agents) new = ⊥
WrittenWithout d log rows agents before now (Err NoAgent) new = ⊥
WrittenWithout d log rows agents before now (Err (NotAStore at)) new = ⊥
WrittenWithout d log rows agents before now (Err Memory) new = ⊥

-- ---- an opening

-- the store is of the disk, with the rows that the disk read as
abbrev pub IsOpened : {D : Type 0} → Ghosts D → D → D → StoreTerm → Type 0
IsOpened d old new store = IsOpenedBy d old new pull_shape Leads store.log store.rows

-- the disk read as an image that stands for no rows, failing first at this place, and was left as it was
abbrev pub NotOpened : {D : Type 0} → Ghosts D → D → D → ℕ → Type 0
NotOpened d old new at = NotOpenedBy d old new pull_shape Leads at

-- the cause of an opening's error
abbrev pub Unopened : {D : Type 0} → Ghosts D → D → D → PullError → Type 0
Unopened d old new Disk = Rose (d.faults old) (d.faults new)
Unopened d old new (NotAStore at) = NotOpened d old new at
Unopened d old new Memory = ⊤
Unopened d old new Spent = ⊥
Unopened d old new Agents = ⊥
Unopened d old new NoAgent = ⊥
Unopened d old new (Full need capacity) = ⊥
