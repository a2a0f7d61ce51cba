-- What is written reads back: the messages of which this is promised, and the lines that are added.
use Rattle.std.specs.Prelude.{◌≡◌, ℕ, ◌+◌, ◌<◌, ◌≤◌, true, false, List, [], ◌∷◌, ◌++◌, length, reverse, All, codes, if◌then◌else◌, ◌==◌, IsUtf8}
use Rattle.std.specs.Fmt.{decimal}
use Rattle.httparse.specs.Grammar.{IsToken, AllPass, is_uri_byte, is_value_byte, skip_ows}
use Rattle.http_frames.specs.declared.message.Header.{Header}
use Rattle.http_frames.specs.declared.message.Request.{Request}
use Rattle.http_frames.specs.declared.message.Reply.{Reply}
use Rattle.http_frames.specs.Limits.{answer_limits, head_bytes, header_lines, request_limits}
use Rattle.http_frames.specs.Framing.{needs_length, has_no_body}
use Rattle.http_frames.specs.Headers.{has_named}
use Rattle.http_frames.specs.Writing.{host_value, request_text, answer_text}
use Rattle.http_frames.specs.Frames.{IsRequestFrame, IsAnswerFrame}

-- a value as it is read back: no white space at either end
pub record IsPlainValue (value : List ℕ) : Type 0 where
  pub bytes : AllPass is_value_byte value
  pub front : skip_ows value ≡ value
  pub back : skip_ows (reverse value) ≡ reverse value

pub record IsPlainHeader (header : Header) : Type 0 where
  pub name : IsToken header.name
  pub value : IsPlainValue header.value

abbrev pub close_header : Header
close_header = record { name = codes "Connection"; value = codes "close" }

abbrev pub length_header : ℕ → Header
length_header n = record { name = codes "Content-Length"; value = decimal n }

-- ---- requests

-- the line that gives the length, where the method wants one
abbrev pub length_headers : Request → List Header
length_headers request = if needs_length request.method then length_header (length request.body) ∷ [] else []

-- the request's headers, and the lines that are added
abbrev pub sent_headers : Request → List ℕ → List Header
sent_headers request host =
    (record { name = codes "Host"; value = host_value host })
    ∷ close_header
    ∷ (request.headers ++ length_headers request)

-- the request as it is read back
abbrev pub sent : Request → List ℕ → Request
sent request host = record request { headers = sent_headers request host }

-- a request that reads back: its parts are of the grammar, it says nothing of its framing itself, it keeps the limits,
-- and only a PUT or a POST has a body
pub record IsSendable (request : Request) (host : List ℕ) : Type 0 where
  pub method : IsToken request.method
  pub target : (0 < length request.target) × AllPass is_uri_byte request.target
  pub target_text : IsUtf8 request.target
  pub host_plain : IsPlainValue (host_value host)
  pub headers_plain : All IsPlainHeader request.headers
  pub no_length : has_named (codes "content-length") request.headers ≡ false
  pub no_transfer : has_named (codes "transfer-encoding") request.headers ≡ false
  pub no_content : has_named (codes "content-encoding") request.headers ≡ false
  pub lines : length (sent_headers request host) ≤ header_lines
  pub short : length (request_text request host) ≤ head_bytes + length request.body
  pub body : length request.body ≤ request_limits.content
  pub bodied : needs_length request.method ≡ false → request.body ≡ []

-- where the request is sendable, the bytes are its frame, with the lines that are added
abbrev pub ReadsBack : Request → List ℕ → List ℕ → Type 0
ReadsBack request host bytes = IsSendable request host → IsRequestFrame bytes (sent request host)

-- ---- answers

-- the line that gives the length, unless the code is 204
abbrev pub reply_length_headers : Reply → List Header
reply_length_headers reply = if reply.code == 204 then [] else length_header (length reply.body) ∷ []

-- the reply's headers, and the lines that are added
abbrev pub reply_headers : Reply → List Header
reply_headers reply =
    close_header ∷ (record { name = codes "ProtocolVersion"; value = codes "2.0" })
    ∷ (reply.headers ++ reply_length_headers reply)

-- the reply as it is read back
abbrev pub sent_reply : Reply → Reply
sent_reply reply = record reply { headers = reply_headers reply }

-- a reply that reads back: a final code, headers of the grammar that say nothing of the framing, the limits are kept,
-- and 204 and 304 have no body
pub record IsSendableReply (reply : Reply) : Type 0 where
  pub code : (200 ≤ reply.code) × (reply.code ≤ 599)
  pub headers_plain : All IsPlainHeader reply.headers
  pub no_length : has_named (codes "content-length") reply.headers ≡ false
  pub no_transfer : has_named (codes "transfer-encoding") reply.headers ≡ false
  pub no_content : has_named (codes "content-encoding") reply.headers ≡ false
  pub lines : length (reply_headers reply) ≤ header_lines
  pub short : length (answer_text reply) ≤ head_bytes + length reply.body
  pub body : length reply.body ≤ answer_limits.content
  pub bodiless : has_no_body reply.code ≡ true → reply.body ≡ []

-- where the reply is sendable, the bytes are its frame, with the lines that are added
abbrev pub ReplyReadsBack : Reply → List ℕ → Type 0
ReplyReadsBack reply bytes = IsSendableReply reply → IsAnswerFrame bytes (sent_reply reply)
