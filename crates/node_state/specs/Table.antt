-- The table of events: where an event is allowed, and what it makes of a node.
use Rattle.std.specs.Prelude.{◌≡◌, ℕ, ◌+◌, ◌-◌, ◌^◌, ◌==◌, Bool, true, false, not, ◌&&◌, ◌||◌, ltb, cond, List, [], ◌∷◌, ◌++◌, length, drop, map, Option, Some, None, is_some, is_none, ⊤}
use Rattle.std.specs.List.{list_any}
use Rattle.report_log.specs.declared.report.Report.{Report}
use Rattle.report_log.specs.Sizes.{ReportInSize}
use Rattle.meta_config.specs.Making.{usual}
use Rattle.node_state.specs.declared.node.Kept.{Kept}
use Rattle.node_state.specs.declared.node.Node.{Node}
use Rattle.node_state.specs.declared.event.Event.{Event}
use Rattle.node_state.specs.declared.event.Event.TheVariants as events
use Rattle.node_state.specs.declared.event.Stage.{Stage}
use Rattle.node_state.specs.declared.event.Stage.TheVariants.{Pending, Current, Previous}
use Rattle.node_state.specs.declared.event.Why.{Why}
use Rattle.node_state.specs.declared.event.Why.TheVariants.{NoAgent, HasAgent, NoServer, NoPrevious, NoPending, NoDocument, NoReboot, WrongJob, NoReport}
use Rattle.node_state.specs.StagedParts.{parts_of}
use Rattle.node_state.specs.Metas.{IsNodeMeta}
use Rattle.node_state.specs.declared.limits.TheConstants.{OLDER_REPORTS}

-- a node that nothing has happened to
abbrev pub new_node : Node
new_node = record {
  agent = None;
  meta = usual;
  registered = false;
  pending = None;
  current = None;
  previous = None;
  reboot = false;
  next_job = 1;
  reports = [];
}

-- ---- where an event is allowed

-- a condition of a row, why the event is not allowed where it fails, and what is left of the row
abbrev pub check : Bool → Why → Option Why → Option Why
check holds why rest = cond holds rest (Some why)

-- the job is the next one, and another can follow it
abbrev pub is_next : ℕ → ℕ → Bool
is_next next job = (job == next) && ltb job (2 ^ 64 - 1)

abbrev pub is_unsent : ℕ → Kept → Bool
is_unsent job kept = (kept.report.job == job) && not kept.sent

-- a report of a run
abbrev pub refusal_of_report : Node → Report → Option Why
refusal_of_report node report =
    check (is_some node.agent) NoAgent
    (check (is_some node.pending || is_some node.current) NoDocument
    (check (is_next node.next_job report.job) WrongJob None))

-- the first condition of the event's row that fails
abbrev pub refusal : Node → Event → Option Why
refusal node (events.Init agent) = check (is_none node.agent) HasAgent None
refusal node (events.SetMeta meta) = check (is_some node.agent) NoAgent None
refusal node events.Registered = check (is_some node.agent) NoAgent (check (is_some node.meta.server) NoServer None)
refusal node (events.Stage staged) = check (is_some node.agent) NoAgent None
refusal node (events.Promote report) =
    check (is_some node.agent) NoAgent (check (is_some node.pending) NoPending (check (is_next node.next_job report.job) WrongJob None))
refusal node (events.Note report) = refusal_of_report node report
refusal node (events.AskReboot report) = refusal_of_report node report
refusal node events.Boot = check node.reboot NoReboot None
refusal node (events.Sent job) = check (list_any (is_unsent job) node.reports) NoReport None
refusal node (events.Remove stage) = check (is_some node.agent) NoAgent None
refusal node events.Restore = check (is_some node.previous) NoPrevious None

-- ---- what it makes of the node

-- the newest of that number
abbrev pub newest : {X : Type 0} → ℕ → List X → List X
newest count items = drop (length items - count) items

abbrev pub unsent : Report → Kept
unsent report = record { report = report; sent = false }

-- the report is kept, with the newest of the others
abbrev pub with_report : Report → Node → Node
with_report report node = record node {
  next_job = node.next_job + 1;
  reports = newest OLDER_REPORTS node.reports ++ unsent report ∷ [];
}

-- Previous takes Current, and Current takes Pending
abbrev pub promoted : Node → Node
promoted node = record node { previous = node.current; current = node.pending; pending = None }

abbrev pub marked : ℕ → Kept → Kept
marked job kept = record { report = kept.report; sent = kept.sent || (kept.report.job == job) }

abbrev pub without : Stage → Node → Node
without Pending node = record node { pending = None }
without Current node = record node { current = None }
without Previous node = record node { previous = None }

abbrev pub after : Node → Event → Node
after node (events.Init agent) = record node { agent = Some agent }
after node (events.SetMeta meta) = record node { meta = meta; registered = false }
after node events.Registered = record node { registered = true }
after node (events.Stage staged) = record node { pending = Some (parts_of staged) }
after node (events.Promote report) = with_report report (promoted node)
after node (events.Note report) = with_report report node
after node (events.AskReboot report) = with_report report (record node { reboot = true })
after node events.Boot = record node { reboot = false }
after node (events.Sent job) = record node { reports = map (marked job) node.reports }
after node (events.Remove stage) = without stage node
after node events.Restore = record node { pending = node.previous }

-- ---- steps

-- what the event carries is as a node may have it. Of staged parts that is a fact of their type
abbrev pub IsWithin : Event → Type 0
IsWithin (events.SetMeta meta) = IsNodeMeta meta
IsWithin (events.Promote report) = ReportInSize report
IsWithin (events.Note report) = ReportInSize report
IsWithin (events.AskReboot report) = ReportInSize report
IsWithin _ = ⊤

pub record Step (old : Node) (event : Event) (new : Node) : Type 0 where
  pub within : IsWithin event
  pub allowed : refusal old event ≡ None
  pub is : new ≡ after old event

-- these events, one after another
abbrev pub Steps : Node → List Event → Node → Type 0
Steps old [] new = new ≡ old
Steps old (event ∷ events) new = (mid : Node) × Step old event mid × Steps mid events new
