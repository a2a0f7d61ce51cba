-- Messages as they are written (RFC 9112, sections 3 and 4). Lines end with CR LF.
use Rattle.std.specs.Prelude.{ℕ, ◌-◌, ◌&&◌, nat_le, nat_lt, List, [], ◌∷◌, ◌++◌, length, take, drop, codes, if◌then◌else◌, ◌==◌, bytes_eq, unwrap_or, encode_utf8_all}
use Rattle.std.specs.List.{flat_map}
use Rattle.std.specs.Fmt.{decimal}
use Rattle.http.specs.StatusCode.{reason_phrase}
use Rattle.http_frames.specs.declared.message.Header.{Header}
use Rattle.http_frames.specs.declared.message.Request.{Request}
use Rattle.http_frames.specs.declared.message.Reply.{Reply}
use Rattle.http_frames.specs.Framing.{needs_length}

abbrev pub crlf : List ℕ
crlf = 13 ∷ 10 ∷ []

-- name ": " value CR LF
abbrev pub header_line : List ℕ → List ℕ → List ℕ
header_line name value = name ++ (codes ": " ++ (value ++ crlf))

abbrev pub header_text : Header → List ℕ
header_text header = header_line header.name header.value

abbrev pub length_line : ℕ → List ℕ
length_line n = header_line (codes "Content-Length") (decimal n)

-- method SP target SP "HTTP/1.1" CR LF
abbrev pub request_line : List ℕ → List ℕ → List ℕ
request_line method target = method ++ (codes " " ++ (target ++ (codes " HTTP/1.1" ++ crlf)))

-- the phrase that the code has, if it is one of 100 to 999, or none
unfoldable pub phrase_of : ℕ → List ℕ
phrase_of code = if nat_le 100 code && nat_lt code 1000 then unwrap_or (reason_phrase code) [] else []

-- "HTTP/1.1" SP code SP phrase CR LF
abbrev pub status_line : ℕ → List ℕ
status_line code = codes "HTTP/1.1 " ++ (decimal code ++ (codes " " ++ (phrase_of code ++ crlf)))

-- a host without ":80", since 80 is the default port
abbrev pub without_default_port : List ℕ → List ℕ
without_default_port host =
    if bytes_eq (drop (length host - 3) host) (codes ":80") then take (length host - 3) host else host

abbrev pub host_value : List ℕ → List ℕ
host_value host = without_default_port (encode_utf8_all host)

-- PUT and POST say how long their body is
abbrev pub request_length : Request → List ℕ
request_length request = if needs_length request.method then length_line (length request.body) else []

-- each answer but 204 does
abbrev pub answer_length : Reply → List ℕ
answer_length reply = if reply.code == 204 then [] else length_line (length reply.body)

-- request line, Host, Connection, the request's headers, a length, an empty line, the body
unfoldable pub request_text : Request → List ℕ → List ℕ
request_text request host =
    request_line request.method request.target
    ++ header_line (codes "Host") (host_value host)
    ++ header_line (codes "Connection") (codes "close")
    ++ flat_map header_text request.headers
    ++ request_length request
    ++ (crlf ++ request.body)

-- status line, Connection, ProtocolVersion, the reply's headers, a length, an empty line, the body
unfoldable pub answer_text : Reply → List ℕ
answer_text reply =
    status_line reply.code
    ++ header_line (codes "Connection") (codes "close")
    ++ header_line (codes "ProtocolVersion") (codes "2.0")
    ++ flat_map header_text reply.headers
    ++ answer_length reply
    ++ (crlf ++ reply.body)
