-- How far a start has come, and what a crash at any moment of it leaves. Nothing here is about bytes.
use Rattle.std.specs.Prelude.{◌≡◌, ◌≢◌, ◌⊎◌, ℕ, ◌≤◌, List, [], ◌∷◌, ◌++◌, Option, Some, None, IfSome, Result, Ok, Err, codes}
use Rattle.dsc_outside.specs.declared.disk.Disk.{Ghosts}
use Rattle.gate_log.specs.Standing.{AllStand, Any, StandsAtAnyMoment, StoodFor}
use Rattle.node_state.specs.declared.node.Node.{Node}
use Rattle.node_state.specs.declared.event.Event.{Event}
use Rattle.node_state.specs.Table.{Step, Steps, refusal}
use Rattle.node_store.specs.declared.error.StoreError.{StoreError}
use Rattle.node_store.specs.Stands.{Stands}
use Rattle.node_store.specs.declared.error.StoreError.TheVariants as errors
use Rattle.node_store.specs.Store.{StoreTerm}
use Rattle.resource_kinds.specs.declared.entry.Entry.{Entry}
use Rattle.dsc_outside.specs.Link.{LinkView}
use Rattle.dsc_node.specs.declared.status.Status.{Status}
use Rattle.dsc_node.specs.declared.status.Status.TheVariants as statuses
use Rattle.dsc_node.specs.declared.plan.Plan.{Plan}
use Rattle.dsc_node.specs.declared.running.Over.{Over}
use Rattle.dsc_node.specs.Lines.{overlap_line, run_lines}
use Rattle.dsc_node.specs.Runs.{Run, end_line, event_of, status_after}
use Rattle.dsc_node.specs.Bringing.{events_of}
use Rattle.dsc_node.specs.Commands.{IsAllowed}
use Rattle.dsc_node.specs.Commits.{RefusedAfter, all_of}
use Rattle.dsc_node.specs.Endings.{Answers, status_of}
use Rattle.dsc_node.specs.Sending.{EndsAfterSending, Sends, Tried}
use Rattle.dsc_node.specs.Work.{Beside, Known, LeavesEntries, ReadsBefore, StartTable}

-- the node after a prefix of this work
pub record AfterPrefix (from : Node) (work : List Event) (node : Node) : Type 0 where
  pub front : List Event
  pub rest : List Event
  pub is : work ≡ front ++ rest
  pub steps : Steps from front node

-- a node for which an image stood at the beginning, or one after a prefix of the work
abbrev pub IsOnTheWay : {D : Type 0} → Ghosts D → D → Node → List Event → Node → Type 0
IsOnTheWay d begin from work node = StoodFor d begin Stands node ⊎ AfterPrefix from work node

-- so does every image at a moment since the beginning stand
abbrev pub Passes : {D : Type 0} → Ghosts D → D → D → Node → List Event → Type 0
Passes d begin now from work = AllStand d begin Stands Any → StandsAtAnyMoment d begin now Stands (IsOnTheWay d begin from work)

-- since the beginning the store was opened with the node `from`, and this work was committed
pub record SoFar {D : Type 0} (d : Ghosts D) (begin now : D) (from : Node) (work : List Event) (store : StoreTerm) : Type 0 where
  pub passes : Passes d begin now from work
  pub steps : Steps from work store.node
  pub count : d.faults begin ≤ d.faults now

-- A start ended, with events that were committed, and perhaps one whose commit answered Disk; Table says of both what was done. Each
-- event was allowed where it stands. Every image at the end stands for the node after what was committed, or, where one is broken, after that
-- too.
pub record Ended {D : Type 0} (d : Ghosts D) (begin now : D) (from : Node) (Table : List Event → Option Event → Type 0) : Type 0 where
  pub committed : List Event
  pub broken : Option Event
  pub table : Table committed broken
  pub node : Node
  pub steps : Steps from committed node
  pub allowed : IfSome broken (λ event. refusal node event ≡ None)
  pub passes : Passes d begin now from (all_of committed broken)
  pub left : AllStand d now Stands (λ end. Steps from committed end ⊎ Steps from (all_of committed broken) end)
  pub count : d.faults begin ≤ d.faults now

-- the disk's count then and now
abbrev pub disk_counts : {D : Type 0} → Ghosts D → D → D → ℕ × ℕ
disk_counts d begin now = (d.faults begin, d.faults now)

-- a call committed these events, whatever was done before it
pub record Carries {D : Type 0} (d : Ghosts D) (old now : D) (before after : StoreTerm) (events : List Event) : Type 0 where
  pub steps : Steps before.node events after.node
  pub on : (begin : D) (from : Node) (work : List Event) → SoFar d begin old from work before → SoFar d begin now from (work ++ events) after

-- a call ended the start, and Table says of the work before it, and of what was committed and broken, what it did
pub record EndsStart {D : Type 0} (d : Ghosts D) (old now : D) (before : StoreTerm) (Table : Node → ℕ × ℕ → List Event → List Event → Option Event → Type 0) : Type 0 where
  pub on : (begin : D) (from : Node) (work : List Event) → SoFar d begin old from work before → Ended d begin now from (Table from (disk_counts d begin now) work)

-- a commit of the event
abbrev pub CommitGoes : {T D : Type 0} → Ghosts D → D → D → StoreTerm → Event → Result T StoreError → StoreTerm → Type 0
CommitGoes d old now before event (Ok v) after = Carries d old now before after (event ∷ [])
CommitGoes d old now before event (Err error) after = EndsStart d old now before (λ from counts work committed broken. RefusedAfter from counts work event error committed broken)

-- the first event, if there is one
abbrev pub FirstGoes : {T D : Type 0} → Ghosts D → D → D → StoreTerm → Option Event → Result T StoreError → StoreTerm → Type 0
FirstGoes d old now before first (Ok v) after = Carries d old now before after (events_of first)
FirstGoes d old now before first (Err error) after =
    EndsStart d old now before (λ from counts work committed broken. (event : Event) × (first ≡ Some event) × RefusedAfter from counts work event error committed broken)

-- the reports of the store's node were sent
abbrev pub SendsOn : {D : Type 0} → Ghosts D → D → D → StoreTerm → LinkView → LinkView → Result (List Tried) StoreError → Type 0
SendsOn d old now before asked heard tried = EndsStart d old now before (λ from counts work committed broken. Sends from counts work before.node asked heard tried committed broken)

-- ---- the report of a run

-- the event that keeps the report of the run
abbrev pub event_to_keep : Over → Event
event_to_keep over = event_of over.end over.pending over.report

-- the run's lines, without the last
abbrev pub text_of : Over → List Entry → List ℕ
text_of over trace = run_lines over.document trace ++ overlap_line over.overlap

-- the report was kept, and what was to be sent was sent
pub record IsKeptSo (from : Node) (counts : ℕ × ℕ) (work : List Event) (node : Node) (over : Over) (trace : List Entry) (asked heard : LinkView)
    (status : Status) (lines : List ℕ) (committed : List Event) (broken : Option Event) : Type 0 where
  pub noted : Node
  pub step : Step node (event_to_keep over) noted
  pub tried : Result (List Tried) StoreError
  pub sends : Sends from counts (work ++ event_to_keep over ∷ []) noted asked heard tried committed broken
  pub ends : EndsAfterSending (status_after node.meta.reboot_if_needed over.end over.report.missed) (text_of over trace) (end_line over.end over.pending over.report.missed) tried status lines

-- its event was refused, and not for memory
pub record IsRefusedSo (from : Node) (counts : ℕ × ℕ) (work : List Event) (over : Over) (trace : List Entry) (asked heard : LinkView)
    (status : Status) (lines : List ℕ) (committed : List Event) (broken : Option Event) : Type 0 where
  pub error : StoreError
  pub memory : error ≢ errors.Memory
  pub refused : RefusedAfter from counts work (event_to_keep over) error committed broken
  pub unasked : heard ≡ asked
  pub answers : Answers (status_of error) (text_of over trace) status lines

abbrev pub KeepGoes : {D : Type 0} → Ghosts D → D → D → StoreTerm → Over → List Entry → LinkView → LinkView → Status → List ℕ → Type 0
KeepGoes d old now before over trace asked heard status lines = EndsStart d old now before (λ from counts work committed broken.
    IsKeptSo from counts work before.node over trace asked heard status lines committed broken
    ⊎ IsRefusedSo from counts work over trace asked heard status lines committed broken)

-- ---- a whole start

-- nothing was run, and what was to be sent was sent
pub record IsNothingSo (from : Node) (counts : ℕ × ℕ) (work : List Event) (node : Node) (asked heard : LinkView)
    (status : Status) (lines : List ℕ) (committed : List Event) (broken : Option Event) : Type 0 where
  pub tried : Result (List Tried) StoreError
  pub sends : Sends from counts work node asked heard tried committed broken
  pub ends : EndsAfterSending statuses.Done [] (codes "end nothing\n") tried status lines

abbrev pub NothingGoes : {D : Type 0} → Ghosts D → D → D → StoreTerm → LinkView → LinkView → Status → List ℕ → Type 0
NothingGoes d old now before asked heard status lines = EndsStart d old now before (λ from counts work committed broken.
    IsNothingSo from counts work before.node asked heard status lines committed broken)

-- a start of an opened store, on this machine before its run
pub record OpenedGoes {D S C : Type 0} (o : Known D S C) (plan : Plan) (old now : D) (store : StoreTerm) (before after : Beside S C) (status : Status) (lines : List ℕ) : Type 0 where
  pub ready : S
  pub run : Option Run
  pub leaves : LeavesEntries o before.machine ready
  pub ends : EndsStart o.disk old now store (λ from counts work committed broken.
      StartTable o plan from counts work store.node before after status lines ready run committed broken)

-- of a plan that the node allows, after the clock was read where the plan reads it
pub record AllowedGoes {D S C : Type 0} (o : Known D S C) (plan : Plan) (start : ℕ) (old now : D) (store : StoreTerm) (before after : Beside S C) (status : Status) (lines : List ℕ) : Type 0 where
  pub ready : S
  pub run : Option Run
  pub leaves : LeavesEntries o before.machine ready
  pub ends : EndsStart o.disk old now store (λ from counts work committed broken.
      (unread : C) → IsAllowed store.node plan → ReadsBefore o.clock plan.reads_clock start unread before.clock
      → StartTable o plan from counts work store.node (record before { clock = unread }) after status lines ready run committed broken)
