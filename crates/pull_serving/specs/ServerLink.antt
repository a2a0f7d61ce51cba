-- A pull server in memory as a link: its exchanges are turns over its store.
use Rattle.std.specs.Prelude.{◌≡◌, ◌≢◌, ◌≤◌, ◌<◌, ℕ, true, false, List, [], ◌∷◌, ◌++◌, length, Option, Some, Result, Ok, Err, ⊤}
use Rattle.dsc_terms.specs.Counts.{Rose}
use Rattle.dsc_outside.specs.declared.disk.Disk as disks
use Rattle.dsc_outside.specs.declared.exchange.Exchange.{Exchange}
use Rattle.dsc_outside.specs.declared.exchange.ExchangeOutcome.{ExchangeOutcome}
use Rattle.dsc_outside.specs.declared.exchange.ExchangeOutcome.TheVariants.{Answered, Failed, TooLong}
use Rattle.dsc_outside.specs.Link.{answer_limit}
use Rattle.mof_values.specs.declared.memory.Memory.{Memory}
use Rattle.pull_outside.specs.Shelf.{Contents}
use Rattle.pull_outside.specs.declared.shelf.Shelf as shelves
use Rattle.pull_store.specs.Store.{StoreTerm, is_spent}
use Rattle.pull_server.specs.Answers.{Replies}
use Rattle.pull_serving.specs.declared.connection.ConnectionEnd.{ConnectionEnd}
use Rattle.pull_serving.specs.declared.connection.ConnectionEnd.TheVariants as ends
use Rattle.pull_serving.specs.Turn.{IsTurn, State, Turn, state}

-- what a link to a server owns, and its exchanges so far
pub record ServerInMemory (D F : Type 0) : Type 0 where
  pub store : StoreTerm
  pub disk : D
  pub shelf : F
  pub exchanges : List Exchange

-- what its connections are served over
abbrev pub state_of : {D F : Type 0} → disks.Ghosts D → shelves.Ghosts F → ServerInMemory D F → State
state_of d f link = state d link.disk link.store (f.faults link.shelf)

-- the connection took all that the server wrote: a reply was made where one was due, and no call of the connection failed
abbrev pub TookAll : ConnectionEnd → ℕ → Type 0
TookAll end faults = (end ≢ ends.Memory) × (faults ≡ 0)

-- what comes of a turn whose connection took these bytes: they are the answer, or too many for one, or memory ran out
abbrev pub Gives : Turn → List ℕ → ExchangeOutcome → Type 0
Gives t taken (Answered bytes) = TookAll t.end t.went.faults × (bytes ≡ taken) × (length taken < answer_limit)
Gives t taken TooLong = TookAll t.end t.went.faults × (answer_limit ≤ length taken)
Gives t taken Failed = ⊤

-- the outcome of an exchange of which these bytes were taken, or which ran out of memory
abbrev pub IsOutcomeOf : Result (List ℕ) Memory → ExchangeOutcome → Type 0
IsOutcomeOf (Ok taken) (Answered bytes) = (bytes ≡ taken) × (length taken < answer_limit)
IsOutcomeOf (Ok taken) TooLong = answer_limit ≤ length taken
IsOutcomeOf (Ok taken) Failed = ⊤
IsOutcomeOf (Err e) (Answered bytes) = ⊥
IsOutcomeOf (Err e) TooLong = ⊥
IsOutcomeOf (Err e) Failed = ⊤

-- the exchange is this turn: its request is all that came of the connection, and its outcome what was written to it
pub record IsExchangeOf (t : Turn) (e : Exchange) : Type 0 where
  pub request : t.came.left ≡ Some e.request
  pub empty : t.came.held ≡ Some []
  pub taken : List ℕ
  pub held : t.went.held ≡ Some taken
  pub gives : Gives t taken e.outcome

-- turns over one shelf, each over what the one before it left, and the exchanges that they are
abbrev pub Answers : Option Contents → State → List Exchange → State → Type 0
Answers shelf first [] last = last ≡ first
Answers shelf first (e ∷ es) last =
    (t : Turn) × (t.before ≡ first) × IsTurn Replies shelf t × IsExchangeOf t e × Answers shelf t.after es last

-- What a link to a server may become: the shelf holds the same, exchanges are added, each answered by the table over the rows that the one before
-- it left, no count of faults fell, and the store is spent only where a count of the disk rose.
pub record Becomes {D F : Type 0} (d : disks.Ghosts D) (f : shelves.Ghosts F) (old new : ServerInMemory D F) : Type 0 where
  pub shelf : f.holds new.shelf ≡ f.holds old.shelf
  pub more : List Exchange
  pub added : new.exchanges ≡ old.exchanges ++ more
  pub answers : Answers (f.holds old.shelf) (state_of d f old) more (state_of d f new)
  pub disk_count : d.faults old.disk ≤ d.faults new.disk
  pub shelf_count : f.faults old.shelf ≤ f.faults new.shelf
  pub spent : is_spent old.store ≡ false → is_spent new.store ≡ true → Rose (d.faults old.disk) (d.faults new.disk)
