-- The message of the last report of an agent.
use Rattle.std.specs.Prelude.{ℕ, List, Option, Some, None, Result, Ok, Err}
use Rattle.pull_messages.specs.declared.error.MessageError.{MessageError}
use Rattle.pull_messages.specs.declared.report.ReportMessage.{ReportMessage}
use Rattle.pull_store.specs.declared.row.Row.{Row}
use Rattle.pull_store.specs.declared.row.StoredReport.{StoredReport}
use Rattle.pull_server.specs.Messages.{report_in}
use Rattle.agent_class.specs.declared.class.Class.{Class}
use Rattle.agent_class.specs.declared.class.Class.TheVariants.{Other}
use Rattle.agent_class.specs.Classes.{class_by, last_report}

-- a body that is no report has none
abbrev pub message_said : Result ReportMessage MessageError → Option ReportMessage
message_said (Ok report) = Some report
message_said (Err error) = None

-- the message that a report was sent as
unfoldable pub message_of_body : List ℕ → Option ReportMessage
message_of_body body = message_said (report_in body)

abbrev pub message_of_report : Option StoredReport → Option ReportMessage
message_of_report None = None
message_of_report (Some report) = message_of_body report.body

-- that of the newest report of a row
abbrev pub last_message : Row → Option ReportMessage
last_message row = message_of_report (last_report row.reports)

-- for private clauses: the class by the message of a report that was sent
abbrev pub class_told : Option ReportMessage → Class
class_told None = Other
class_told (Some message) = class_by message.status
