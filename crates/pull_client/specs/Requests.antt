-- The requests of a node, as they are written.
use Rattle.std.specs.Prelude.{ℕ, List, [], ◌∷◌, ◌++◌, codes, encode_utf8_all}
use Rattle.std.specs.Fmt.{decimal}
use Rattle.dsc_outside.specs.declared.link.Peer.{Peer}
use Rattle.meta_config.specs.declared.server.Server.{Server}
use Rattle.http_frames.specs.declared.message.Header.{Header}
use Rattle.http_frames.specs.Headers.{header}
use Rattle.http_frames.specs.Writing.{request_text}
use Rattle.pull_messages.specs.declared.target_kinds.Target.{Target}
use Rattle.pull_messages.specs.declared.target_kinds.Target.TheVariants.{Node, Action, Content, Module, SendReport}
use Rattle.pull_messages.specs.declared.registration.Registration.{Registration}
use Rattle.pull_messages.specs.declared.query.ActionQuery.{ActionQuery}
use Rattle.pull_messages.specs.declared.report.ReportMessage.{ReportMessage}
use Rattle.pull_messages.specs.TargetText.{target_text}
use Rattle.pull_messages.specs.Writing.{registration_text, query_text, report_text}
use Rattle.shared_key.specs.Signature.{signature_of}

-- the host and its port; a port 80 is left out where the request is written
abbrev pub host_text : Peer → List ℕ
host_text peer = peer.host ++ codes ":" ++ decimal peer.port

-- ---- headers

abbrev pub protocol_version : Header
protocol_version = header (codes "ProtocolVersion") (codes "2.0")

abbrev pub content_type : Header
content_type = header (codes "Content-Type") (codes "application/json")

abbrev pub date_header : List ℕ → Header
date_header date = header (codes "x-ms-date") date

-- the signature of the body and the date under the server's key
abbrev pub authorization : Server → List ℕ → List ℕ → Header
authorization server body date =
    header (codes "Authorization") (codes "Shared " ++ signature_of (encode_utf8_all server.key) body date)

-- ---- requests

-- a request to a server: its target stands below the path of the server's URL
abbrev pub written : Server → List ℕ → Target → List Header → List ℕ → List ℕ
written server method target headers body =
    request_text (record { method = method; target = target_text server.prefix target; headers = headers; body = body })
    (host_text server.peer)

abbrev pub got : Server → Target → List ℕ
got server target = written server (codes "GET") target (protocol_version ∷ []) []

abbrev pub posted : Server → Target → List ℕ → List ℕ
posted server target body = written server (codes "POST") target (protocol_version ∷ content_type ∷ []) body

abbrev pub signed_headers : Server → List ℕ → List ℕ → List Header
signed_headers server body date = protocol_version ∷ date_header date ∷ authorization server body date ∷ content_type ∷ []

-- signed, with this date
abbrev pub put : Server → Target → List ℕ → List ℕ → List ℕ
put server target body date =
    written server (codes "PUT") target (signed_headers server body date) body

-- what a node says of itself: its version is 2.0, and it gives no address
abbrev pub registration_of : List ℕ → List (List ℕ) → Registration
registration_of node_name names = record { lcm_version = codes "2.0"; node_name = node_name; ip_address = []; names = names }

abbrev pub registration_request : Server → ℕ → Registration → List ℕ → List ℕ
registration_request server agent registration date = put server (Node agent) (registration_text registration) date

abbrev pub query_request : Server → ℕ → ActionQuery → List ℕ
query_request server agent query = posted server (Action agent) (query_text query)

abbrev pub content_request : Server → ℕ → List ℕ → List ℕ
content_request server agent name = got server (Content agent name)

abbrev pub module_request : Server → List ℕ → List ℕ → List ℕ
module_request server name version = got server (Module name version)

abbrev pub report_request : Server → ℕ → ReportMessage → List ℕ
report_request server agent message = posted server (SendReport agent) (report_text message)
