-- The run of a start: what is run and how, what it leaves, and its report.
use Rattle.std.specs.Prelude.{◌≡◌, ◌≢◌, ◌==◌, ℕ, ◌≤◌, Bool, true, false, ◌&&◌, cond, List, [], map, Option, Some, None, codes}
use Rattle.dsc_terms.specs.Counts.{RoseBy}
use Rattle.dsc_document.specs.declared.document.Document.{Document}
use Rattle.depend_order.specs.Documents.{IsOrderOfDocument}
use Rattle.meta_config.specs.declared.modes.ConfigMode.{ConfigMode}
use Rattle.meta_config.specs.declared.modes.ConfigMode.TheVariants.{ApplyOnly, ApplyAndMonitor, ApplyAndAutoCorrect}
use Rattle.meta_config.specs.Parts.{is_pull}
use Rattle.partial_merge.specs.declared.part.Part.{Part}
use Rattle.partial_merge.specs.Merged.{Merged}
use Rattle.resource_kinds.specs.declared.resources.Resources.{Ghosts}
use Rattle.resource_kinds.specs.Trace.{Chain, host_failures}
use Rattle.lcm_core.specs.declared.modes.RunEnd.{RunEnd}
use Rattle.lcm_core.specs.declared.modes.RunEnd.TheVariants as ends
use Rattle.lcm_core.specs.declared.modes.RunMode.{RunMode}
use Rattle.lcm_core.specs.declared.modes.RunMode.TheVariants.{Monitor, Repair}
use Rattle.lcm_core.specs.Legal.{Legal}
use Rattle.report_log.specs.declared.report.Frame.{Frame}
use Rattle.report_log.specs.declared.report.Report.{Report}
use Rattle.report_log.specs.Report.{IsReport}
use Rattle.report_log.specs.Sizes.{ReportInSize}
use Rattle.node_state.specs.declared.node.Node.{Node}
use Rattle.node_state.specs.declared.event.Event.{Event}
use Rattle.node_state.specs.declared.event.Event.TheVariants as events
use Rattle.dsc_node.specs.declared.status.Status.{Status}
use Rattle.dsc_node.specs.declared.status.Status.TheVariants as statuses
use Rattle.node_pull.specs.Marks.{mark_of}
use Rattle.dsc_node.specs.Ran.{EndsAs, IsWholeOrNone}
use Rattle.dsc_node.specs.Readings.{Gave, end_of}

-- ---- which run

-- the parts of a run, how they are run, and whether they are Pending
pub record Choice : Type 0 where
  pub parts : List Part
  pub mode : RunMode
  pub pending : Bool

abbrev pub chosen_current : ConfigMode → List Part → Option Choice
chosen_current ApplyOnly parts = None
chosen_current ApplyAndMonitor parts = Some (record { parts = parts; mode = Monitor; pending = false })
chosen_current ApplyAndAutoCorrect parts = Some (record { parts = parts; mode = Repair; pending = false })

abbrev pub chosen_among : ConfigMode → Option (List Part) → Option (List Part) → Option Choice
chosen_among mode (Some parts) current = Some (record { parts = parts; mode = Repair; pending = true })
chosen_among mode None (Some parts) = chosen_current mode parts
chosen_among mode None None = None

-- Pending is repaired; without it Current is left alone, monitored or repaired, as the configuration mode says. Nothing is run
-- where the node is to stop
abbrev pub chosen_of : Bool → Node → Option Choice
chosen_of true node = None
chosen_of false node = chosen_among node.meta.mode node.pending node.current

-- ---- what it leaves

-- a run: what was chosen, its document in the order of dependencies, and how it ended
pub record Run : Type 0 where
  pub choice : Choice
  pub document : Document
  pub order : List ℕ
  pub end : RunEnd

-- It went from one state of the machine to another, and left a trace that it may leave, with nothing left out; it ended as its last
-- entry says, and blames the machine no more often than its count of faults rose, which never falls.
pub record Ran {S : Type 0} (machine : Ghosts S) (run : Run) (before after : S) : Type 0 where
  pub merged : Merged run.choice.parts run.document
  pub is_order : IsOrderOfDocument run.document run.order
  pub legal : Legal run.document run.choice.mode run.order (machine.trace after)
  pub whole : IsWholeOrNone run.document run.choice.mode run.order run.end (machine.trace after)
  pub ended : EndsAs run.end (machine.trace after)
  pub chain : Chain machine.does machine.still run.document before (machine.trace after) after
  pub failures : RoseBy (host_failures (machine.trace after)) (machine.faults before) (machine.faults after)
  pub later : machine.faults before ≤ machine.faults after

-- ---- its report

abbrev pub frame_of : Node → Choice → ℕ → ℕ → Frame
frame_of node choice start end = record {
  job = node.next_job;
  initial = choice.pending;
  pull = is_pull node.meta.refresh;
  start = start;
  end = end;
  parts = map mark_of choice.parts;
}

-- a run in this node that came to its end, with its report
pub record Reported {S : Type 0} (machine : Ghosts S) (node : Node) (stopped : Bool) (readings : Option (List (Option ℕ))) (start : ℕ)
    (run : Run) (report : Report) (before after : S) : Type 0 where
  pub chosen : chosen_of stopped node ≡ Some run.choice
  pub ran : Ran machine run before after
  pub goes_on : run.end ≢ ends.Memory
  pub given : Option ℕ
  pub time : Gave readings given
  pub is : IsReport run.document (machine.trace after) (frame_of node run.choice start (end_of start given)) report
  pub in_size : ReportInSize report

-- a run in this node for which memory ran out: before its first Test, or in its last Test or Set
pub record Unended {S : Type 0} (machine : Ghosts S) (node : Node) (stopped : Bool) (run : Run) (before after : S) : Type 0 where
  pub chosen : chosen_of stopped node ≡ Some run.choice
  pub ran : Ran machine run before after
  pub ended : run.end ≡ ends.Memory

-- ---- what it comes to

-- the event that keeps the report
abbrev pub event_of : RunEnd → Bool → Report → Event
event_of (ends.RebootAsked place) pending report = events.AskReboot report
event_of ends.Finished pending report = cond (pending && (report.missed == 0)) (events.Promote report) (events.Note report)
event_of ends.Memory pending report = events.Note report

-- the status of a start after its run
abbrev pub status_after : Bool → RunEnd → ℕ → Status
status_after now (ends.RebootAsked place) missed = statuses.RebootAsked place now
status_after now ends.Finished missed = cond (missed == 0) statuses.Done (statuses.NotCompliant missed)
status_after now ends.Memory missed = statuses.Memory

-- the last line of a run whose report is kept
abbrev pub end_line : RunEnd → Bool → ℕ → List ℕ
end_line (ends.RebootAsked place) pending missed = codes "end reboot\n"
end_line ends.Finished pending missed = cond (pending && (missed == 0)) (codes "end promoted\n") (codes "end noted\n")
end_line ends.Memory pending missed = []
