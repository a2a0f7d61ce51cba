-- The reports of a node after an event: those that were kept, one of them perhaps marked as sent, and one that is added.
use Rattle.std.specs.Prelude.{ℕ, Bool, ◌==◌, ◌||◌, List, [], ◌∷◌, ◌++◌, map, Option, Some, None}
use Rattle.report_log.specs.declared.report.Report.{Report}
use Rattle.node_state.specs.declared.node.Node.{Node}
use Rattle.node_state.specs.declared.node.Kept.{Kept}
use Rattle.node_state.specs.declared.event.Event.{Event}
use Rattle.node_state.specs.declared.event.Event.TheVariants as events
use Rattle.node_state.specs.Table.{newest, unsent}
use Rattle.node_state.specs.declared.limits.TheConstants.{OLDER_REPORTS}

-- the report that the event adds
abbrev pub added : Event → Option Report
added (events.Promote report) = Some report
added (events.Note report) = Some report
added (events.AskReboot report) = Some report
added _ = None

-- the job of the report that the event marks as sent
abbrev pub sent_in : Event → Option ℕ
sent_in (events.Sent job) = Some job
sent_in _ = None

-- the reports that are kept before one that the event adds
abbrev pub kept_before : Node → Event → List Kept
kept_before node (events.Promote report) = newest OLDER_REPORTS node.reports
kept_before node (events.Note report) = newest OLDER_REPORTS node.reports
kept_before node (events.AskReboot report) = newest OLDER_REPORTS node.reports
kept_before node _ = node.reports

-- it was sent, or the event says so
abbrev pub is_sent : Option ℕ → Kept → Bool
is_sent None kept = kept.sent
is_sent (Some job) kept = kept.sent || (kept.report.job == job)

abbrev pub with_mark : Option ℕ → Kept → Kept
with_mark sent kept = record { report = kept.report; sent = is_sent sent kept }

abbrev pub at_end : Option Report → List Kept
at_end None = []
at_end (Some report) = unsent report ∷ []

abbrev pub reports_after : Node → Event → List Kept
reports_after node event = map (with_mark (sent_in event)) (kept_before node event) ++ at_end (added event)
