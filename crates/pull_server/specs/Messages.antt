-- What the bodies of requests say.
use Rattle.std.specs.Prelude.{ℕ, List, [], ◌++◌, codes, if◌then◌else◌, Option, Some, None, Result, Ok, Err}
use Rattle.std.specs.Str.{is_utf8}
use Rattle.serde_json.specs.Data.{Data}
use Rattle.serde_json.specs.Read.{read}
use Rattle.pull_messages.specs.declared.error.MessageError.{MessageError}
use Rattle.pull_messages.specs.declared.error.MessageError.TheVariants.{Json, Missing, Wrong, Memory}
use Rattle.pull_messages.specs.declared.registration.Registration.{Registration}
use Rattle.pull_messages.specs.declared.query.ActionQuery.{ActionQuery}
use Rattle.pull_messages.specs.declared.report.ReportMessage.{ReportMessage}
use Rattle.pull_messages.specs.Names.{name_of}
use Rattle.pull_messages.specs.Tables.{registration_of, query_of, report_of}

-- the JSON value that a body is
unfoldable pub value_in : List ℕ → Option Data
value_in body = if is_utf8 body then read body else None

-- what a table says of it
abbrev pub said_of : {T : Type 0} → (Data → Result T MessageError) → Option Data → Result T MessageError
said_of table None = Err Json
said_of table (Some value) = table value

abbrev pub registration_in : List ℕ → Result Registration MessageError
registration_in body = said_of registration_of (value_in body)

abbrev pub query_in : List ℕ → Result ActionQuery MessageError
query_in body = said_of query_of (value_in body)

abbrev pub report_in : List ℕ → Result ReportMessage MessageError
report_in body = said_of report_of (value_in body)

-- why a body is no message of its kind, in the reply
abbrev pub fault_text : MessageError → List ℕ
fault_text Json = codes "json"
fault_text (Missing field) = codes "missing " ++ name_of field
fault_text (Wrong field) = codes "wrong " ++ name_of field
fault_text Memory = []

abbrev pub fault_of : {T : Type 0} → Result T MessageError → Option MessageError
fault_of (Ok message) = None
fault_of (Err error) = Some error
