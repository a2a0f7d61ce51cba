-- What is printed of the reports that a store keeps.
use Rattle.std.specs.Prelude.{ℕ, if◌then◌else◌, List, [], ◌++◌, length}
use Rattle.std.specs.List.{flat_map}
use Rattle.pull_store.specs.declared.row.Row.{Row}
use Rattle.pull_store.specs.declared.row.StoredReport.{StoredReport}
use Rattle.agent_class.specs.declared.class.Class.{Class}
use Rattle.agent_class.specs.Classes.{class_of_body, class_of_row}
use Rattle.agent_class.specs.LastMessage.{message_of_body}
use Rattle.agent_line.specs.Lines.{report_line}
use Rattle.store_lines.specs.Told.{class_word, is_shown, last_line}

-- the line of a report, with the class that it gives
unfoldable pub report_text : List ℕ → Row → StoredReport → List ℕ
report_text store row report = report_line store row report.job (class_word (class_of_body report.body)) (message_of_body report.body)

-- a line for each report of an agent, the oldest first
abbrev pub report_lines : List ℕ → Row → List ℕ
report_lines store row = flat_map (report_text store row) row.reports

-- those of an agent of this class, where it is shown
unfoldable pub shown_reports : List Class → Class → List ℕ → Row → List ℕ
shown_reports classes class store row = if is_shown classes class then report_lines store row else []

-- an agent's class is that of its last report
abbrev pub agent_reports : List Class → List ℕ → Row → List ℕ
agent_reports classes store row = shown_reports classes (class_of_row row) store row

abbrev pub reports_of : List Class → List ℕ → List Row → List ℕ
reports_of classes store rows = flat_map (agent_reports classes store) rows

-- a line for each report of each agent whose class is shown, the agents in the order in which they were first registered, and one of the store
abbrev pub store_reports : List Class → List ℕ → List Row → List ℕ
store_reports classes store rows = reports_of classes store rows ++ last_line store (length rows)
