-- What a reader of requests holds, and what it may answer.
use Rattle.std.specs.Prelude.{◌≡◌, ◌≢◌, ℕ, ◌⊎◌, Bool, true, false, List, drop, Option, Some, None, Result, Ok, Err, ⊤}
use Rattle.http_frames.specs.declared.message.Request.{Request}
use Rattle.http_frames.specs.declared.frame_error.FrameError.{FrameError}
use Rattle.http_frames.specs.declared.frame_error.FrameError.TheVariants.{Memory}
use Rattle.http_frames.specs.declared.framing.Framing.{Framing}
use Rattle.http_frames.specs.declared.head.RequestHead.{RequestHead as RequestStart}
use Rattle.http_frames.specs.declared.reader.Stage.{Stage}
use Rattle.http_frames.specs.declared.reader.Stage.TheVariants.{Head, Body, Closed}
use Rattle.http_frames.specs.declared.reader.Started.{Started}
use Rattle.http_frames.specs.declared.reader.Advance.{Advance}
use Rattle.http_frames.specs.declared.reader.Advance.TheVariants.{More, Whole, Refused, OutOfMemory}
use Rattle.http_frames.specs.Limits.{request_limits}
use Rattle.http_frames.specs.Heads.{IsRequestHeadOf, AwaitsRequest, RefusesRequestHead}
use Rattle.http_frames.specs.HeadWalks.{IsWalkedHead}
use Rattle.http_frames.specs.Framing.{request_framing}
use Rattle.http_frames.specs.Bodies.{HasWalked, body_reading}

-- the head at the front of the bytes says how its body ends, and the bytes after it read so
pub record ReadsBody (bytes : List ℕ) (start : RequestStart) (reading : Result (Option (List ℕ)) FrameError) : Type 0 where
  pub head : IsRequestHeadOf bytes start
  pub framing : Framing
  pub says : request_framing start.method start.headers ≡ Ok framing
  pub body : body_reading request_limits start.length framing (drop start.length bytes) ≡ reading

-- the request whose head and body are at the front of the bytes
pub record IsReadRequest (bytes : List ℕ) (request : Request) : Type 0 where
  pub start : RequestStart
  pub whole : ReadsBody bytes start (Ok (Some request.body))
  pub method : request.method ≡ start.method
  pub target : request.target ≡ start.target
  pub headers : request.headers ≡ start.headers

-- more bytes are wanted, of the head or of the body
abbrev pub AwaitsMore : List ℕ → Type 0
AwaitsMore bytes = AwaitsRequest bytes ⊎ ((start : RequestStart) × ReadsBody bytes start (Ok None))

-- the head says wrongly how its body ends
pub record RefusesFraming (bytes : List ℕ) (e : FrameError) : Type 0 where
  pub start : RequestStart
  pub head : IsRequestHeadOf bytes start
  pub says : request_framing start.method start.headers ≡ Err e

-- why the bytes are no request
abbrev pub Refuses : List ℕ → FrameError → Type 0
Refuses bytes e = RefusesRequestHead bytes e ⊎ (RefusesFraming bytes e ⊎ ((start : RequestStart) × ReadsBody bytes start (Err e)))

-- the bytes that were fed, and whether no request and no error came yet
pub record Fed : Type 0 where
  pub bytes : List ℕ
  pub is_open : Bool

abbrev pub is_open_stage : Stage → Bool
is_open_stage (Head walk) = true
is_open_stage (Body started) = true
is_open_stage Closed = false

abbrev pub fed : List ℕ → Stage → Fed
fed bytes stage = record { bytes = bytes; is_open = is_open_stage stage }

-- the head at the front of the bytes, what it says of the body, and the walk over that
pub record IsStarted (bytes : List ℕ) (started : Started) : Type 0 where
  pub head : IsRequestHeadOf bytes started.head
  pub framing : request_framing started.head.method started.head.headers ≡ Ok started.framing
  pub walked : HasWalked request_limits started.head.length (drop started.head.length bytes) started.walk

abbrev pub IsStageOf : List ℕ → Stage → Type 0
IsStageOf bytes (Head walk) = IsWalkedHead bytes walk
IsStageOf bytes (Body started) = IsStarted bytes started
IsStageOf bytes Closed = ⊤

-- what a step over the bytes may lead to
abbrev pub IsAdvance : List ℕ → Stage → Advance → Type 0
IsAdvance bytes stage (More next) = IsStageOf bytes next × (is_open_stage next ≡ true) × AwaitsMore bytes
IsAdvance bytes stage (Whole request) = IsReadRequest bytes request
IsAdvance bytes stage (Refused e) = Refuses bytes e × (e ≢ Memory)
IsAdvance bytes stage (OutOfMemory kept) = kept ≡ stage

-- what a whole head may lead to
abbrev pub IsStart : List ℕ → Result Started FrameError → Type 0
IsStart bytes (Ok started) = IsStarted bytes started
IsStart bytes (Err e) = Refuses bytes e × (e ≢ Memory)
