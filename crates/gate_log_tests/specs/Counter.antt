-- What the calls of a counter answer.
use Rattle.std.specs.Prelude.{◌≡◌, ◌<◌, ℕ, ◌+◌, true, false, Result, Ok, Err}
use Rattle.dsc_outside.specs.declared.disk.Disk.{Ghosts}
use Rattle.dsc_terms.specs.Counts.{Rose}
use Rattle.gate_log.specs.Kept.{NotOpenedBy}
use Rattle.gate_log_tests.specs.declared.counter.CountError.{CountError}
use Rattle.gate_log_tests.specs.declared.counter.CountError.TheVariants.{Spent, TooMany, Disk, NotACount, Memory}
use Rattle.gate_log_tests.specs.Counting.{CounterTerm, LeadsToCount, count_shape}

-- what an answer to add says
abbrev pub Counted : {T D : Type 0} → Ghosts D → D → D → CounterTerm → ℕ → Result T CountError → CounterTerm → Type 0
Counted d before now old number (Ok v) new = (old.log.spent ≡ false) × (new.count ≡ old.count + number)
Counted d before now old number (Err Spent) new = (old.log.spent ≡ true) × (new ≡ old) × (now ≡ before)
Counted d before now old number (Err TooMany) new = (old.log.spent ≡ false) × (255 < old.count + number) × (new ≡ old) × (now ≡ before)
Counted d before now old number (Err Disk) new = Rose (d.faults before) (d.faults now) × (new.count ≡ old.count) × (new.log.spent ≡ true)
Counted d before now old number (Err (NotACount at)) new = ⊥
Counted d before now old number (Err Memory) new = ⊥

-- the cause of an opening's error
abbrev pub NotOpened : {D : Type 0} → Ghosts D → D → D → CountError → Type 0
NotOpened d old new Disk = Rose (d.faults old) (d.faults new)
NotOpened d old new (NotACount at) = NotOpenedBy d old new count_shape LeadsToCount at
NotOpened d old new Memory = Unit {0}
NotOpened d old new Spent = ⊥
NotOpened d old new TooMany = ⊥
