-- Heads of at most 64 header lines, which end within 16,384 bytes (RFC 9112, sections 2 to 5).
use Rattle.std.specs.Prelude.{◌≡◌, ℕ, ◌<◌, ◌≤◌, ◌⊎◌, List, [], ◌++◌, length, map, take, drop, ⊤}
use Rattle.httparse.specs.Grammar.{Field, field_value, RequestHead, ReadsRequest, print_request, EndsInTarget, ResponseHead, ReadsResponse, print_response, status_code}
use Rattle.httparse.specs.declared.spans.HeaderSpan.{HeaderSpan}
use Rattle.httparse.specs.declared.spans.RequestSpans.{RequestSpans}
use Rattle.httparse.specs.declared.spans.ResponseSpans.{ResponseSpans}
use Rattle.httparse.specs.Spans.{span_bytes}
use Rattle.http_frames.specs.declared.message.Header.{Header}
use Rattle.http_frames.specs.declared.head.RequestHead.{RequestHead as RequestStart}
use Rattle.http_frames.specs.declared.head.AnswerHead.{AnswerHead as AnswerStart}
use Rattle.http_frames.specs.declared.frame_error.FrameError.{FrameError}
use Rattle.http_frames.specs.declared.frame_error.FrameError.TheVariants as errors
use Rattle.http_frames.specs.Limits.{head_bytes, header_lines}

-- the header line as a caller sees it
abbrev pub header_of : Field → Header
header_of field = record { name = field.name; value = field_value field }

-- the header that a span covers
abbrev pub header_at : List ℕ → HeaderSpan → Header
header_at buf span = record { name = span_bytes buf span.name; value = span_bytes buf span.value }

-- the bytes are a request head of at most 64 header lines, and then rest
pub record BeginsRequest (bytes : List ℕ) (head : RequestHead) (rest : List ℕ) : Type 0 where
  pub reads : ReadsRequest bytes head rest
  pub lines : length head.fields ≤ header_lines

-- no such head is at the front of the bytes
abbrev pub LacksRequest : List ℕ → Type 0
LacksRequest bytes = (head : RequestHead) (rest : List ℕ) → ¬ (BeginsRequest bytes head rest)

-- no continuation of the bytes makes such a head
abbrev pub IsNoRequest : List ℕ → Type 0
IsNoRequest bytes = (more : List ℕ) → LacksRequest (bytes ++ more)

-- some continuation of the bytes is such a head
abbrev pub CanBeRequest : List ℕ → Type 0
CanBeRequest bytes = (more : List ℕ) × (head : RequestHead) × BeginsRequest (bytes ++ more) head []

-- the bytes hold no whole head yet. Inside a target, whether it is one is left open
pub record IsOpenRequest (bytes : List ℕ) : Type 0 where
  pub lacks : LacksRequest bytes
  pub can_be : CanBeRequest bytes ⊎ EndsInTarget bytes

-- more bytes are wanted
pub record AwaitsRequest (bytes : List ℕ) : Type 0 where
  pub short : length bytes < head_bytes
  pub is_open : IsOpenRequest bytes

-- what was read of the head at the front of the bytes
pub record IsRequestHeadOf (bytes : List ℕ) (start : RequestStart) : Type 0 where
  pub head : RequestHead
  pub begins : BeginsRequest bytes head (drop start.length bytes)
  pub length_is : start.length ≡ length (print_request head)
  pub short : start.length ≤ head_bytes
  pub method : start.method ≡ head.method
  pub target : start.target ≡ head.target
  pub headers : start.headers ≡ map header_of head.fields

-- what the spans cover
pub record IsCopyOfRequest (buf : List ℕ) (spans : List HeaderSpan) (found : RequestSpans) (start : RequestStart) : Type 0 where
  pub length_is : start.length ≡ found.len
  pub method : start.method ≡ span_bytes buf found.method
  pub target : start.target ≡ span_bytes buf found.path
  pub headers : start.headers ≡ map (header_at buf) (take found.headers spans)

-- why no head is read
abbrev pub RefusesRequestHead : List ℕ → FrameError → Type 0
RefusesRequestHead bytes errors.Head = IsNoRequest (take head_bytes bytes)
RefusesRequestHead bytes errors.HeadTooLong = (head_bytes ≤ length bytes) × IsOpenRequest (take head_bytes bytes)
RefusesRequestHead bytes errors.Memory = ⊤
RefusesRequestHead bytes errors.Coding = ⊥
RefusesRequestHead bytes errors.Length = ⊥
RefusesRequestHead bytes errors.NoLength = ⊥
RefusesRequestHead bytes errors.BodyTooLong = ⊥
RefusesRequestHead bytes (errors.Chunk at) = ⊥
RefusesRequestHead bytes (errors.Torn at) = ⊥

-- the bytes are the head of an answer, of at most 64 header lines, and then rest
pub record BeginsAnswer (bytes : List ℕ) (head : ResponseHead) (rest : List ℕ) : Type 0 where
  pub reads : ReadsResponse bytes head rest
  pub lines : length head.fields ≤ header_lines

-- no such head is at the front of the bytes
abbrev pub LacksAnswer : List ℕ → Type 0
LacksAnswer bytes = (head : ResponseHead) (rest : List ℕ) → ¬ (BeginsAnswer bytes head rest)

-- no continuation of the bytes makes such a head
abbrev pub IsNoAnswer : List ℕ → Type 0
IsNoAnswer bytes = (more : List ℕ) → LacksAnswer (bytes ++ more)

-- some continuation of the bytes is such a head
abbrev pub CanBeAnswer : List ℕ → Type 0
CanBeAnswer bytes = (more : List ℕ) × (head : ResponseHead) × BeginsAnswer (bytes ++ more) head []

-- the bytes hold no whole head yet
pub record IsOpenAnswer (bytes : List ℕ) : Type 0 where
  pub lacks : LacksAnswer bytes
  pub can_be : CanBeAnswer bytes

-- more bytes are wanted
pub record AwaitsAnswer (bytes : List ℕ) : Type 0 where
  pub short : length bytes < head_bytes
  pub is_open : IsOpenAnswer bytes

-- what was read of the head at the front of the bytes
pub record IsAnswerHeadOf (bytes : List ℕ) (start : AnswerStart) : Type 0 where
  pub head : ResponseHead
  pub begins : BeginsAnswer bytes head (drop start.length bytes)
  pub length_is : start.length ≡ length (print_response head)
  pub short : start.length ≤ head_bytes
  pub code : start.code ≡ status_code head
  pub headers : start.headers ≡ map header_of head.fields

-- what the spans cover
pub record IsCopyOfAnswer (buf : List ℕ) (spans : List HeaderSpan) (found : ResponseSpans) (start : AnswerStart) : Type 0 where
  pub length_is : start.length ≡ found.len
  pub code : start.code ≡ found.code
  pub headers : start.headers ≡ map (header_at buf) (take found.headers spans)

-- why no head is read
abbrev pub RefusesAnswerHead : List ℕ → FrameError → Type 0
RefusesAnswerHead bytes errors.Head = IsNoAnswer (take head_bytes bytes)
RefusesAnswerHead bytes errors.HeadTooLong = (head_bytes ≤ length bytes) × IsOpenAnswer (take head_bytes bytes)
RefusesAnswerHead bytes errors.Memory = ⊤
RefusesAnswerHead bytes errors.Coding = ⊥
RefusesAnswerHead bytes errors.Length = ⊥
RefusesAnswerHead bytes errors.NoLength = ⊥
RefusesAnswerHead bytes errors.BodyTooLong = ⊥
RefusesAnswerHead bytes (errors.Chunk at) = ⊥
RefusesAnswerHead bytes (errors.Torn at) = ⊥
