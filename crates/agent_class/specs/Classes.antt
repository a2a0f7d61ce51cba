-- The class of an agent: what its last report says.
use Rattle.std.specs.Prelude.{ℕ, ◌-◌, List, length, slice_get, codes, if◌then◌else◌, Option, Some, None, Result, Ok, Err}
use Rattle.mof_values.specs.Fold.{same_name}
use Rattle.pull_messages.specs.declared.error.MessageError.{MessageError}
use Rattle.pull_messages.specs.declared.report.ReportMessage.{ReportMessage}
use Rattle.pull_store.specs.declared.row.Row.{Row}
use Rattle.pull_store.specs.declared.row.StoredReport.{StoredReport}
use Rattle.pull_server.specs.Messages.{report_in}
use Rattle.agent_class.specs.declared.class.Class.{Class}
use Rattle.agent_class.specs.declared.class.Class.TheVariants.{Silent, Compliant, Failed, Other}

-- by the Status of a report, whose names compare by fold
abbrev pub class_by : List ℕ → Class
class_by status = if same_name status (codes "Success") then Compliant else if same_name status (codes "Failure") then Failed else Other

-- a body that is no report is of class Other
abbrev pub class_said : Result ReportMessage MessageError → Class
class_said (Ok report) = class_by report.status
class_said (Err error) = Other

-- the class that a report gives, as it was sent
unfoldable pub class_of_body : List ℕ → Class
class_of_body body = class_said (report_in body)

-- the newest report stands last
abbrev pub last_report : List StoredReport → Option StoredReport
last_report reports = slice_get reports (length reports - 1)

abbrev pub class_of_report : Option StoredReport → Class
class_of_report None = Silent
class_of_report (Some report) = class_of_body report.body

-- the class of a row's agent
abbrev pub class_of_row : Row → Class
class_of_row row = class_of_report (last_report row.reports)
