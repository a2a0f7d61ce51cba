-- The messages as they are written: compact JSON (RFC 8259), each object's members in byte order of their names.
use Rattle.std.specs.Prelude.{ℕ, List, map, codes, encode_utf8_all}
use Rattle.std.specs.Int.{w128, to_be_bytes}
use Rattle.uuid.specs.Text.{hyphenated_text, lower}
use Rattle.serde_json.specs.Data.{Data, string, array, object, no_members, member}
use Rattle.serde_json.specs.View.{items_of}
use Rattle.serde_json.specs.Written.{compact_text}
use Rattle.pull_messages.specs.declared.registration.Registration.{Registration}
use Rattle.pull_messages.specs.declared.query.ActionQuery.{ActionQuery}
use Rattle.pull_messages.specs.declared.query.Client.{Client}
use Rattle.pull_messages.specs.declared.action.ActionAnswer.{ActionAnswer}
use Rattle.pull_messages.specs.declared.action.Detail.{Detail}
use Rattle.pull_messages.specs.declared.report.ReportMessage.{ReportMessage}

abbrev pub text_data : List ℕ → Data
text_data text = string (encode_utf8_all text)

abbrev pub texts_data : List (List ℕ) → Data
texts_data texts = array (items_of (map text_data texts))

-- the hyphenated form in lower case (RFC 9562, section 4)
unfoldable pub id_text : ℕ → List ℕ
id_text id = hyphenated_text lower (to_be_bytes w128 id)

abbrev pub agent_data : Registration → Data
agent_data x = object
    (member (codes "IPAddress") (text_data x.ip_address)
    (member (codes "LCMVersion") (text_data x.lcm_version)
    (member (codes "NodeName") (text_data x.node_name) no_members)))

abbrev pub kind_data : Data
kind_data = object (member (codes "RegistrationMessageType") (string (codes "ConfigurationRepository")) no_members)

abbrev pub registration_data : Registration → Data
registration_data x = object
    (member (codes "AgentInformation") (agent_data x)
    (member (codes "ConfigurationNames") (texts_data x.names)
    (member (codes "RegistrationInformation") kind_data no_members)))

abbrev pub client_data : Client → Data
client_data x = object
    (member (codes "Checksum") (text_data x.checksum)
    (member (codes "ChecksumAlgorithm") (string (codes "SHA-256"))
    (member (codes "ConfigurationName") (text_data x.name) no_members)))

abbrev pub query_data : ActionQuery → Data
query_data x = object (member (codes "ClientStatus") (array (items_of (map client_data x.clients))) no_members)

abbrev pub detail_data : Detail → Data
detail_data x = object
    (member (codes "ConfigurationName") (text_data x.name)
    (member (codes "Status") (text_data x.status) no_members))

abbrev pub action_data : ActionAnswer → Data
action_data x = object
    (member (codes "Details") (array (items_of (map detail_data x.details)))
    (member (codes "NodeStatus") (text_data x.node) no_members))

abbrev pub report_data : ReportMessage → Data
report_data x = object
    (member (codes "ConfigurationVersion") (text_data x.version)
    (member (codes "EndTime") (text_data x.end)
    (member (codes "Errors") (texts_data x.errors)
    (member (codes "JobId") (string (id_text x.job))
    (member (codes "OperationType") (text_data x.operation)
    (member (codes "RebootRequested") (text_data x.reboot)
    (member (codes "RefreshMode") (text_data x.refresh)
    (member (codes "ReportFormatVersion") (text_data x.format)
    (member (codes "StartTime") (text_data x.start)
    (member (codes "Status") (text_data x.status)
    (member (codes "StatusData") (texts_data x.status_data) no_members)))))))))))

unfoldable pub registration_text : Registration → List ℕ
registration_text x = compact_text (registration_data x)

unfoldable pub query_text : ActionQuery → List ℕ
query_text x = compact_text (query_data x)

unfoldable pub action_text : ActionAnswer → List ℕ
action_text x = compact_text (action_data x)

unfoldable pub report_text : ReportMessage → List ℕ
report_text x = compact_text (report_data x)
