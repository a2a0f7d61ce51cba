-- What an answer says, of the reply, the rows, and the disk.
use Rattle.std.specs.Prelude.{◌≡◌, ◌⊎◌, ◌≤◌, ◌==◌, ◌||◌, ℕ, Bool, true, false, List, Option, Some, None, Result, Ok, IfOk, OnErr}
use Rattle.dsc_terms.specs.Counts.{Rose}
use Rattle.dsc_outside.specs.declared.disk.Disk.{Ghosts}
use Rattle.pull_outside.specs.declared.shelf.Shelf as shelves
use Rattle.gate_log.specs.Standing.{AllStand, StandsAtAnyMoment}
use Rattle.mof_values.specs.declared.memory.Memory.{Memory}
use Rattle.http_frames.specs.declared.message.Request.{Request}
use Rattle.http_frames.specs.declared.message.Reply.{Reply}
use Rattle.pull_messages.specs.declared.target_kinds.Target.{Target}
use Rattle.pull_store.specs.declared.row.Row.{Row}
use Rattle.pull_store.specs.declared.change.Change.{Change}
use Rattle.pull_store.specs.declared.change.Refusal.TheVariants.{TooMany}
use Rattle.pull_store.specs.Rows.{after, refusal}
use Rattle.pull_store.specs.Stands.{Stands}
use Rattle.pull_store.specs.Store.{StoreTerm, IsKept, IsReady, Untouched, is_spent}
use Rattle.pull_outside.specs.Shelf.{Contents}
use Rattle.pull_server.specs.Asked.{Asked, Asks, IsAim, Over, asked, change_to, is_full_for, on, target_in}
use Rattle.pull_server.specs.Replies.{plain}
use Rattle.pull_server.specs.Table.{Outcome, leaves, makes, outcome_of}

-- the count of faults of the disk rose, or that of the shelf
abbrev pub AnyFaultRose : {D S : Type 0} → Ghosts D → shelves.Ghosts S → D → D → S → S → Type 0
AnyFaultRose d s disk disk_after shelf shelf_after = Rose (d.faults disk) (d.faults disk_after) ⊎ Rose (s.faults shelf) (s.faults shelf_after)

-- ---- the reply, and the rows after it

-- the rows after an outcome
abbrev pub IsAfter : Option Change → List Row → Outcome → List Row → Type 0
IsAfter change old (leaves reply) new = new ≡ old
IsAfter None old (makes reply) new = ⊥
IsAfter (Some change) old (makes reply) new = new ≡ after change old

abbrev pub reply_of : Outcome → Reply
reply_of (leaves reply) = reply
reply_of (makes reply) = reply

-- the reply and the rows after it are those of the table; or a count rose, and the reply is 500 and leaves the rows
pub data Pulled (store : StoreTerm) (shelf : Contents) (request : Request) (aim : Result Target ℕ) (rose : Type 0) (reply : Reply) (rows : List Row) : Type 0 where
  by_table : (outcome : Outcome) → outcome_of (asked store shelf request aim) ≡ Some outcome → reply ≡ reply_of outcome
      → IsAfter (on (target_in aim) (λ target. change_to target request.body)) store.rows outcome rows → Pulled store shelf request aim rose reply rows
  failed : rose → reply ≡ plain 500 → rows ≡ store.rows → Pulled store shelf request aim rose reply rows

-- the same, of the target that the request has
pub record Replies (store : StoreTerm) (shelf : Contents) (request : Request) (rose : Type 0) (reply : Reply) (rows : List Row) : Type 0 where
  pub aim : Result Target ℕ
  pub is_aim : IsAim request.target aim
  pub pulled : Pulled store shelf request aim rose reply rows

-- ---- why a change is not made

-- 503: the request asks for the registration of a new agent, while 512 have a row
pub record IsCrowded (store : StoreTerm) (request : Request) : Type 0 where
  pub change : Change
  pub asks : Asks request change
  pub unspent : is_spent store ≡ false
  pub many : refusal change store.rows ≡ Some TooMany

-- 507: the request asks for a change that is accepted, and the store answers Full to it
pub record IsOverfull (store : StoreTerm) (request : Request) : Type 0 where
  pub change : Change
  pub asks : Asks request change
  pub unspent : is_spent store ≡ false
  pub accepted : refusal change store.rows ≡ None
  pub full : is_full_for store (Some change) ≡ true

-- ---- the store and the disk

-- the change that is asked for is made
abbrev pub IsMade : Asked → Type 0
IsMade a = (reply : Reply) × (outcome_of a ≡ Some (makes reply))

-- the request asks for this change, and the table makes it
pub record Makes (store : StoreTerm) (shelf : Option Contents) (request : Request) (change : Change) : Type 0 where
  pub asks : Asks request change
  pub made : Over shelf (λ contents. IsMade (asked store contents request (Ok asks.target)))

-- the rows are as they were, or those after the change that the table makes
abbrev pub LeavesRows : StoreTerm → Option Contents → Request → List Row → Type 0
LeavesRows store shelf request rows = (rows ≡ store.rows) ⊎ ((change : Change) × Makes store shelf request change × (rows ≡ after change store.rows))

-- it says that it was done
abbrev pub is_done : ℕ → Bool
is_done code = code == 200 || code == 204

-- the change that the request asks for is made, and every image stands for the rows after it
pub record IsAcknowledged {D : Type 0} (d : Ghosts D) (request : Request) (old : StoreTerm) (now : D) (new : StoreTerm) : Type 0 where
  pub each : (change : Change) → Asks request change → (new.rows ≡ after change old.rows) × AllStand d now Stands (λ rows. rows ≡ after change old.rows)

-- the store and the disk after an answer
pub record Serves {D : Type 0} (d : Ghosts D) (request : Request) (shelf : Option Contents) (old : StoreTerm) (before : D) (result : Result Reply Memory) (new : StoreTerm) (now : D) : Type 0 where
  pub ready : IsReady d now new
  pub rows : LeavesRows old shelf request new.rows
  pub any_moment : IsKept d before old → StandsAtAnyMoment d before now Stands (LeavesRows old shelf request)
  pub acknowledged : IfOk result (λ reply. is_done reply.code ≡ true → IsAcknowledged d request old now new)
  pub undone : IfOk result (λ reply. is_done reply.code ≡ false → new.rows ≡ old.rows)
  pub spent : is_spent old ≡ false → is_spent new ≡ true → Rose (d.faults before) (d.faults now) × IfOk result (λ reply. reply ≡ plain 500)
  pub count : d.faults before ≤ d.faults now
  -- out of memory, or where the store was spent before, nothing was touched
  pub refused : OnErr result (Untouched old new before now)
  pub rests : is_spent old ≡ true → Untouched old new before now
