-- The table of a start: what it asks the server for, the events that it commits, the run that it makes, what it prints and how it ends.
use Rattle.std.specs.Prelude.{◌≡◌, ◌≢◌, ℕ, ◌≤◌, Bool, true, false, List, [], ◌∷◌, ◌++◌, Option, Some, None, Result, Ok, Err, codes}
use Rattle.dsc_terms.specs.Counts.{Rose}
use Rattle.dsc_outside.specs.declared.clock.Clock as clocks
use Rattle.dsc_outside.specs.declared.disk.Disk as disks
use Rattle.resource_kinds.specs.declared.machine.Machine as machines
use Rattle.resource_kinds.specs.declared.resources.Resources as resources
use Rattle.report_log.specs.declared.report.Report.{Report}
use Rattle.node_state.specs.declared.node.Node.{Node}
use Rattle.node_state.specs.declared.event.Event.{Event}
use Rattle.node_state.specs.declared.event.Why.{Why}
use Rattle.node_state.specs.Table.{Step, Steps}
use Rattle.node_store.specs.declared.error.StoreError.{StoreError}
use Rattle.node_store.specs.declared.error.StoreError.TheVariants as errors
use Rattle.dsc_outside.specs.Link.{LinkView}
use Rattle.dsc_node.specs.declared.bringing.Unbrought.{Unbrought}
use Rattle.dsc_node.specs.declared.plan.Follows.TheVariants as follows
use Rattle.dsc_node.specs.declared.plan.Plan.{Plan}
use Rattle.dsc_node.specs.declared.plan.Printed.{Printed}
use Rattle.dsc_node.specs.declared.status.Status.{Status}
use Rattle.dsc_node.specs.declared.status.Status.TheVariants as statuses
use Rattle.dsc_node.specs.Bringing.{Brought, events_of, status_of_unbrought}
use Rattle.dsc_node.specs.Commands.{IsAllowed, stops, waits, why_not}
use Rattle.dsc_node.specs.Commits.{RefusedAfter}
use Rattle.dsc_node.specs.Endings.{Answers, Ends, status_of}
use Rattle.dsc_node.specs.Lines.{IsRunText}
use Rattle.dsc_node.specs.Readings.{Gave, Took}
use Rattle.dsc_node.specs.Runs.{Reported, Run, Unended, chosen_of, end_line, event_of, status_after}
use Rattle.dsc_node.specs.Sending.{EndsAfterSending, Sends, Tried}
use Rattle.dsc_node.specs.Shown.{printed_text}

-- ---- what a start works with

-- what is known of the disk, the machine and the clock: the ghost members of their traits
pub record Known (D S C : Type 0) : Type 1 where
  pub disk : disks.Ghosts D
  pub resources : resources.Ghosts S
  pub machine : machines.Ghosts S
  pub clock : clocks.Ghosts C

abbrev pub known : {D S C : Type 0} → disks.Ghosts D → resources.Ghosts S → machines.Ghosts S → clocks.Ghosts C → Known D S C
known disk resources machine clock = record { disk = disk; resources = resources; machine = machine; clock = clock }

-- what stands beside the disk
pub record Beside (S C : Type 0) : Type 0 where
  pub machine : S
  pub link : LinkView
  pub clock : C

abbrev pub beside : {S C : Type 0} → S → LinkView → C → Beside S C
beside machine link clock = record { machine = machine; link = link; clock = clock }

-- what brings the first event leaves the machine's entries as they were, and all but its packages
pub record LeavesEntries {D S C : Type 0} (o : Known D S C) (before ready : S) : Type 0 where
  pub trace : o.resources.trace ready ≡ o.resources.trace before
  pub packages : o.machine.packages_changed before ready
  pub later : o.resources.faults before ≤ o.resources.faults ready

-- ---- the run

-- After this work, which led to this node: what is run, if anything, the event that keeps its report, and the reports that are sent. The
-- readings are those that the clock still gives, before and after.
pub data Finish {D S C : Type 0} (o : Known D S C) (from : Node) (counts : ℕ × ℕ) (work : List Event) (node : Node) (stopped : Bool)
    (readings left : Option (List (Option ℕ))) (start : ℕ) (asked heard : LinkView) (before after : S) (status : Status) (lines : List ℕ) : Option Run → List Event → Option Event → Type 0 where
  -- nothing is run
  no_run : (tried : Result (List Tried) StoreError) (committed : List Event) (broken : Option Event) → chosen_of stopped node ≡ None → after ≡ before → left ≡ readings
      → Sends from counts work node asked heard tried committed broken
      → EndsAfterSending statuses.Done [] (codes "end nothing\n") tried status lines
      → Finish o from counts work node stopped readings left start asked heard before after status lines None committed broken
  -- memory ran out before the run
  unready : after ≡ before → left ≡ readings → heard ≡ asked → Ends statuses.Memory [] status lines
      → Finish o from counts work node stopped readings left start asked heard before after status lines None work None
  -- memory ran out in the run
  unended : (run : Run) → Unended o.resources node stopped run before after → left ≡ readings → heard ≡ asked → Ends statuses.Memory [] status lines
      → Finish o from counts work node stopped readings left start asked heard before after status lines (Some run) work None
  -- the event that keeps the run's report was refused; memory was not
  report_refused : (run : Run) (report : Report) (error : StoreError) (text : List ℕ) (committed : List Event) (broken : Option Event)
      → Reported o.resources node stopped readings start run report before after → Took 1 readings left → heard ≡ asked
      → RefusedAfter from counts work (event_of run.end run.choice.pending report) error committed broken
      → error ≢ errors.Memory → IsRunText run.document (o.resources.trace after) text → Answers (status_of error) text status lines
      → Finish o from counts work node stopped readings left start asked heard before after status lines (Some run) committed broken
  -- it was committed
  report_kept : (run : Run) (report : Report) (text : List ℕ) (noted : Node) (tried : Result (List Tried) StoreError) (committed : List Event) (broken : Option Event)
      → Reported o.resources node stopped readings start run report before after → Took 1 readings left → IsRunText run.document (o.resources.trace after) text
      → Step node (event_of run.end run.choice.pending report) noted
      → Sends from counts (work ++ event_of run.end run.choice.pending report ∷ []) noted asked heard tried committed broken
      → EndsAfterSending (status_after node.meta.reboot_if_needed run.end report.missed) text (end_line run.end run.choice.pending report.missed) tried status lines
      → Finish o from counts work node stopped readings left start asked heard before after status lines (Some run) committed broken

-- ---- the table

-- a plan that reads the clock reads it once before its first event, and the reading is the start
abbrev pub ReadsBefore : {C : Type 0} → clocks.Ghosts C → Bool → ℕ → C → C → Type 0
ReadsBefore clock false start first last = last ≡ first
ReadsBefore clock true start first last = Gave (clock.coming first) (Some start) × Took 1 (clock.coming first) (clock.coming last)

-- A start, after this work (none), which led to this node; the machine is this one before the run.
pub data StartTable {D S C : Type 0} (o : Known D S C) (plan : Plan) (from : Node) (counts : ℕ × ℕ) (work : List Event) (node : Node)
    (before after : Beside S C) (status : Status) (lines : List ℕ) : S → Option Run → List Event → Option Event → Type 0 where
  not_allowed : (why : Why) → why_not node plan.needs ≡ Some why → after ≡ before → Ends (statuses.NotAllowed why) [] status lines
      → StartTable o plan from counts work node before after status lines before.machine None work None
  waiting : why_not node plan.needs ≡ None → waits node plan ≡ true → after ≡ before → Ends statuses.RebootWaiting [] status lines
      → StartTable o plan from counts work node before after status lines before.machine None work None
  clock_failed : IsAllowed node plan → plan.reads_clock ≡ true
      → Gave (o.clock.coming before.clock) None → Took 1 (o.clock.coming before.clock) (o.clock.coming after.clock) → Rose (o.clock.faults before.clock) (o.clock.faults after.clock)
      → after.machine ≡ before.machine → after.link ≡ before.link → Ends statuses.ClockFault [] status lines
      → StartTable o plan from counts work node before after status lines before.machine None work None
  -- the server did not give what it was asked for, or a pushed part is not staged with the others
  not_brought : (start : ℕ) (error : Unbrought) → IsAllowed node plan → ReadsBefore o.clock plan.reads_clock start before.clock after.clock
      → Brought o.resources o.machine node plan.brings start before.link after.link before.machine after.machine (Err error) → Ends (status_of_unbrought error) [] status lines
      → StartTable o plan from counts work node before after status lines after.machine None work None
  -- the event that was brought was refused
  first_refused : (start : ℕ) (event : Event) (error : StoreError) (committed : List Event) (broken : Option Event)
      → IsAllowed node plan → ReadsBefore o.clock plan.reads_clock start before.clock after.clock
      → Brought o.resources o.machine node plan.brings start before.link after.link before.machine after.machine (Ok (Some event))
      → RefusedAfter from counts work event error committed broken → Ends (status_of error) [] status lines
      → StartTable o plan from counts work node before after status lines after.machine None committed broken
  -- a text of the node after that event
  settled : (start : ℕ) (first : Option Event) (mid : Node) (text : Printed) → IsAllowed node plan → plan.follows ≡ follows.Text text
      → ReadsBefore o.clock plan.reads_clock start before.clock after.clock
      → Brought o.resources o.machine node plan.brings start before.link after.link before.machine after.machine (Ok first) → Steps node (events_of first) mid
      → Answers statuses.Done (printed_text text mid) status lines
      → StartTable o plan from counts work node before after status lines after.machine None (work ++ events_of first) None
  -- a run, if there was something to run
  finished : (start : ℕ) (readings : Option (List (Option ℕ))) (heard : LinkView) (ready : S) (first : Option Event) (mid : Node) (run : Option Run) (committed : List Event) (broken : Option Event)
      → IsAllowed node plan → plan.follows ≡ follows.Run → Gave (o.clock.coming before.clock) (Some start) → Took 1 (o.clock.coming before.clock) readings
      → Brought o.resources o.machine node plan.brings start before.link heard before.machine ready (Ok first) → Steps node (events_of first) mid
      → Finish o from counts (work ++ events_of first) mid (stops node plan) readings (o.clock.coming after.clock) start heard after.link ready after.machine status lines run committed broken
      → StartTable o plan from counts work node before after status lines ready run committed broken
