-- How large messages may be.
use Rattle.std.specs.Prelude.{ℕ, ◌+◌}
use Rattle.http_frames.specs.declared.limits.Limits.{Limits}
use Rattle.http_frames.specs.declared.limits.TheConstants.{ANSWER_LIMITS, HEADER_LINES, HEAD_BYTES, REQUEST_LIMITS}

-- the header lines of a head
abbrev pub header_lines : ℕ
header_lines = HEADER_LINES

-- the bytes of a head
abbrev pub head_bytes : ℕ
head_bytes = HEAD_BYTES

-- a request's body: its content, and all its bytes where it comes in chunks
abbrev pub request_limits : Limits
request_limits = REQUEST_LIMITS

-- an answer's body
abbrev pub answer_limits : Limits
answer_limits = ANSWER_LIMITS

-- a request in chunks, with its head
abbrev pub request_bytes : ℕ
request_bytes = head_bytes + request_limits.chunked
