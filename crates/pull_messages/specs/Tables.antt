-- The messages, as the tables of their members. A table is read from its top: the first row that is not kept is the refusal.
use Rattle.std.specs.Prelude.{ℕ, List, [], map, Result, Ok}
use Rattle.std.specs.List.{zip}
use Rattle.serde_json.specs.Data.{Data, no_items}
use Rattle.pull_messages.specs.declared.error.MessageError.{MessageError}
use Rattle.pull_messages.specs.declared.field.Field.{Field}
use Rattle.pull_messages.specs.declared.field.Field.TheVariants.{AgentInformation, LCMVersion, NodeName, IPAddress, ConfigurationNames, ClientStatus, Checksum, ConfigurationName, ChecksumAlgorithm, NodeStatus, Details, Status, JobId, OperationType, RefreshMode, ReportFormatVersion, ConfigurationVersion, StartTime, EndTime, RebootRequested, Errors, StatusData, Body}
use Rattle.pull_messages.specs.declared.limits.Limit.TheVariants.{Free, Short}
use Rattle.pull_messages.specs.declared.registration.Registration.{Registration}
use Rattle.pull_messages.specs.declared.query.ActionQuery.{ActionQuery}
use Rattle.pull_messages.specs.declared.query.Client.{Client}
use Rattle.pull_messages.specs.declared.action.ActionAnswer.{ActionAnswer}
use Rattle.pull_messages.specs.declared.action.Detail.{Detail}
use Rattle.pull_messages.specs.declared.report.ReportMessage.{ReportMessage}
use Rattle.pull_messages.specs.Members.{required, optional, an_object, a_text, an_id, sha256, each, texts, names, objects, few_objects}
use Rattle.pull_messages.specs.Results.{◌>>=◌}

unfoldable pub registration_of : Data → Result Registration MessageError
registration_of body = do
  top ← an_object Body body
  agent ← required an_object AgentInformation top
  version ← optional (a_text Short) [] LCMVersion agent
  name ← optional (a_text Short) [] NodeName agent
  address ← optional (a_text Short) [] IPAddress agent
  listed ← optional names [] ConfigurationNames top
  Ok (record { lcm_version = version; node_name = name; ip_address = address; names = listed })

abbrev pub client : List ℕ × List ℕ → Client
client texts = record { checksum = texts.0; name = texts.1 }

-- each member is read of all clients before the next
unfoldable pub query_of : Data → Result ActionQuery MessageError
query_of body = do
  top ← an_object Body body
  clients ← required few_objects ClientStatus top
  checksums ← each (optional (a_text Free) [] Checksum) clients
  listed ← each (optional (a_text Free) [] ConfigurationName) clients
  algorithms ← each (optional sha256 tt ChecksumAlgorithm) clients
  Ok (record { clients = map client (zip checksums listed) })

abbrev pub detail : List ℕ × List ℕ → Detail
detail texts = record { name = texts.0; status = texts.1 }

-- each member is read of all details before the next
unfoldable pub action_of : Data → Result ActionAnswer MessageError
action_of body = do
  top ← an_object Body body
  status ← required (a_text Free) NodeStatus top
  details ← optional objects no_items Details top
  listed ← each (optional (a_text Free) [] ConfigurationName) details
  statuses ← each (required (a_text Free) Status) details
  Ok (record { node = status; details = map detail (zip listed statuses) })

abbrev pub text_or_empty : Field → Data → Result (List ℕ) MessageError
text_or_empty field value = optional (a_text Free) [] field value

unfoldable pub report_of : Data → Result ReportMessage MessageError
report_of body = do
  top ← an_object Body body
  job ← required an_id JobId top
  operation ← text_or_empty OperationType top
  refresh ← text_or_empty RefreshMode top
  status ← text_or_empty Status top
  format ← text_or_empty ReportFormatVersion top
  version ← text_or_empty ConfigurationVersion top
  start ← text_or_empty StartTime top
  ended ← text_or_empty EndTime top
  reboot ← text_or_empty RebootRequested top
  errors ← optional texts [] Errors top
  status_data ← optional texts [] StatusData top
  Ok (record { job = job; operation = operation; refresh = refresh; status = status; format = format; version = version; start = start; end = ended; reboot = reboot; errors = errors; status_data = status_data })
