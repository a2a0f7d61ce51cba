-- Whole messages and their bytes (RFC 9112), and why bytes are no message.
use Rattle.std.specs.Prelude.{◌≡◌, ℕ, ◌<◌, ◌≤◌, ◌+◌, ◌⊎◌, true, false, List, [], ◌++◌, length, map, Result, Ok, Err}
use Rattle.httparse.specs.Grammar.{RequestHead, print_request, ResponseHead, print_response, status_code}
use Rattle.http_frames.specs.declared.limits.Limits.{Limits}
use Rattle.http_frames.specs.Limits.{answer_limits, head_bytes, request_limits}
use Rattle.http_frames.specs.declared.framing.Framing.{Framing}
use Rattle.http_frames.specs.declared.framing.Framing.TheVariants.{Sized, Chunked, ToEnd}
use Rattle.http_frames.specs.declared.frame_error.FrameError.{FrameError}
use Rattle.http_frames.specs.declared.frame_error.FrameError.TheVariants as errors
use Rattle.http_frames.specs.declared.message.Request.{Request}
use Rattle.http_frames.specs.declared.message.Reply.{Reply}
use Rattle.http_frames.specs.Heads.{header_of, BeginsRequest, AwaitsRequest, RefusesRequestHead, BeginsAnswer, AwaitsAnswer, RefusesAnswerHead}
use Rattle.http_frames.specs.Framing.{request_framing, answer_framing}
use Rattle.http_frames.specs.Chunks.{IsBodyWithin, CanBeBody, LacksBody, StopsWrong, StopsLong}
use Rattle.http_frames.specs.Answering.{is_interim}

-- ---- bodies

-- the bytes are a whole body of this framing, and this is its content
abbrev pub IsBody : Limits → Framing → List ℕ → List ℕ → Type 0
IsBody limits (Sized n) bytes content = (length bytes ≡ n) × (content ≡ bytes)
IsBody limits Chunked bytes content = IsBodyWithin limits bytes content
IsBody limits ToEnd bytes content = (length bytes ≤ limits.content) × (content ≡ bytes)

-- the bytes begin with a whole body; one that goes to the end takes them all
pub record FrontBody (limits : Limits) (framing : Framing) (bytes content : List ℕ) : Type 0 where
  pub body : List ℕ
  pub rest : List ℕ
  pub split : bytes ≡ body ++ rest
  pub is_body : IsBody limits framing body content
  pub to_end : framing ≡ ToEnd → rest ≡ []

-- the bytes hold no whole body yet, and some continuation of them is one within the limits
abbrev pub AwaitsBody : Limits → Framing → List ℕ → Type 0
AwaitsBody limits (Sized n) bytes = length bytes < n
AwaitsBody limits Chunked bytes = CanBeBody limits bytes × LacksBody bytes
AwaitsBody limits ToEnd bytes = ⊥

-- why the bytes are no body, in a message of which front bytes stand before them
abbrev pub RefusesChunked : Limits → ℕ → List ℕ → FrameError → Type 0
RefusesChunked limits front bytes (errors.Chunk at) = (place : ℕ) × (at ≡ front + place) × StopsWrong limits bytes place
RefusesChunked limits front bytes errors.BodyTooLong = StopsLong limits bytes
RefusesChunked limits front bytes errors.Head = ⊥
RefusesChunked limits front bytes errors.HeadTooLong = ⊥
RefusesChunked limits front bytes errors.Coding = ⊥
RefusesChunked limits front bytes errors.Length = ⊥
RefusesChunked limits front bytes errors.NoLength = ⊥
RefusesChunked limits front bytes (errors.Torn at) = ⊥
RefusesChunked limits front bytes errors.Memory = ⊥

abbrev pub RefusesBody : Limits → ℕ → Framing → List ℕ → FrameError → Type 0
RefusesBody limits front (Sized n) bytes e = ⊥
RefusesBody limits front Chunked bytes e = RefusesChunked limits front bytes e
RefusesBody limits front ToEnd bytes e = (e ≡ errors.BodyTooLong) × (limits.content < length bytes)

-- ---- requests

-- what the head says of its body
abbrev pub framing_of : RequestHead → Result Framing FrameError
framing_of head = request_framing head.method (map header_of head.fields)

-- the bytes are the head of a request, of at most 64 header lines and 16,384 bytes, and then the rest
pub record RequestFront (bytes : List ℕ) (head : RequestHead) (rest : List ℕ) : Type 0 where
  pub begins : BeginsRequest bytes head rest
  pub short : length (print_request head) ≤ head_bytes

-- the bytes are this request: its head, and its body as the head says
pub record IsRequestFrame (bytes : List ℕ) (request : Request) : Type 0 where
  pub head : RequestHead
  pub body : List ℕ
  pub front : RequestFront bytes head body
  pub method : request.method ≡ head.method
  pub target : request.target ≡ head.target
  pub headers : request.headers ≡ map header_of head.fields
  pub framing : Framing
  pub says : framing_of head ≡ Ok framing
  pub content : IsBody request_limits framing body request.body

-- the bytes begin with that request
abbrev pub BeginsWithRequest : List ℕ → Request → Type 0
BeginsWithRequest bytes request = (frame : List ℕ) × (rest : List ℕ) × (bytes ≡ frame ++ rest) × IsRequestFrame frame request

-- a whole head, and the body is not whole
pub record AwaitsRequestBody (bytes : List ℕ) : Type 0 where
  pub head : RequestHead
  pub body : List ℕ
  pub front : RequestFront bytes head body
  pub framing : Framing
  pub says : framing_of head ≡ Ok framing
  pub awaits : AwaitsBody request_limits framing body

-- more bytes are wanted
abbrev pub AwaitsRest : List ℕ → Type 0
AwaitsRest bytes = AwaitsRequest bytes ⊎ AwaitsRequestBody bytes

-- a whole head that says wrongly how its body ends
pub record RefusesRequestFraming (bytes : List ℕ) (e : FrameError) : Type 0 where
  pub head : RequestHead
  pub rest : List ℕ
  pub front : RequestFront bytes head rest
  pub says : framing_of head ≡ Err e

-- a whole head, and after it no body within the limits
pub record RefusesRequestBody (bytes : List ℕ) (e : FrameError) : Type 0 where
  pub head : RequestHead
  pub body : List ℕ
  pub front : RequestFront bytes head body
  pub framing : Framing
  pub says : framing_of head ≡ Ok framing
  pub refuses : RefusesBody request_limits (length (print_request head)) framing body e

-- why the bytes are no request
abbrev pub RefusesRequest : List ℕ → FrameError → Type 0
RefusesRequest bytes e = RefusesRequestHead bytes e ⊎ (RefusesRequestFraming bytes e ⊎ RefusesRequestBody bytes e)

-- ---- answers

-- what the head says of its body
abbrev pub answer_framing_of : ResponseHead → Result Framing FrameError
answer_framing_of head = answer_framing (status_code head) (map header_of head.fields)

-- the bytes are the head of an answer, of at most 64 header lines and 16,384 bytes, and then the rest
pub record AnswerFront (bytes : List ℕ) (head : ResponseHead) (rest : List ℕ) : Type 0 where
  pub begins : BeginsAnswer bytes head rest
  pub short : length (print_response head) ≤ head_bytes

-- the bytes are heads of interim answers (RFC 9110, section 15.2), and then the rest
pub data Interim : List ℕ → List ℕ → Type 0 where
  no_interim : (bytes : List ℕ) → Interim bytes bytes
  interim : (bytes middle rest : List ℕ) (head : ResponseHead) → AnswerFront bytes head middle → is_interim (status_code head) ≡ true
      → Interim middle rest → Interim bytes rest

-- after interim heads the head that is not interim, and then the rest
pub record LastFront (bytes : List ℕ) (head : ResponseHead) (rest : List ℕ) : Type 0 where
  pub from : List ℕ
  pub interims : Interim bytes from
  pub front : AnswerFront from head rest
  pub last : is_interim (status_code head) ≡ false

-- the bytes are this answer: interim heads, its head, and its body as the head says
pub record IsAnswerFrame (bytes : List ℕ) (reply : Reply) : Type 0 where
  pub head : ResponseHead
  pub rest : List ℕ
  pub front : LastFront bytes head rest
  pub code : reply.code ≡ status_code head
  pub headers : reply.headers ≡ map header_of head.fields
  pub framing : Framing
  pub says : answer_framing_of head ≡ Ok framing
  pub content : FrontBody answer_limits framing rest reply.body

-- the bytes end inside a head, or inside a body
pub record EndsInBody (bytes : List ℕ) : Type 0 where
  pub head : ResponseHead
  pub body : List ℕ
  pub front : LastFront bytes head body
  pub framing : Framing
  pub says : answer_framing_of head ≡ Ok framing
  pub awaits : AwaitsBody answer_limits framing body

abbrev pub IsTorn : List ℕ → Type 0
IsTorn bytes = ((rest : List ℕ) × Interim bytes rest × AwaitsAnswer rest) ⊎ EndsInBody bytes

-- the last head says wrongly how its body ends
pub record RefusesLastFraming (bytes : List ℕ) (e : FrameError) : Type 0 where
  pub head : ResponseHead
  pub rest : List ℕ
  pub front : LastFront bytes head rest
  pub says : answer_framing_of head ≡ Err e

-- after the last head stands no body within the limits
pub record RefusesLastBody (bytes : List ℕ) (e : FrameError) : Type 0 where
  pub head : ResponseHead
  pub body : List ℕ
  pub front : LastFront bytes head body
  pub framing : Framing
  pub says : answer_framing_of head ≡ Ok framing
  pub before : ℕ
  pub counts : before + length body ≡ length bytes
  pub refuses : RefusesBody answer_limits before framing body e

-- why the bytes are no answer
abbrev pub RefusesReply : List ℕ → FrameError → Type 0
RefusesReply bytes e =
    ((rest : List ℕ) × Interim bytes rest × RefusesAnswerHead rest e) ⊎ (RefusesLastFraming bytes e ⊎ RefusesLastBody bytes e)

-- why an answer is not given
abbrev pub NoAnswer : List ℕ → FrameError → Type 0
NoAnswer bytes e = (e ≡ errors.Memory) ⊎ (((e ≡ errors.Torn (length bytes)) × IsTorn bytes) ⊎ RefusesReply bytes e)
