-- What came of a request, and what it means.
use Rattle.std.specs.Prelude.{◌≡◌, ◌⊎◌, ⊤, ℕ, Bool, true, false, ◌||◌, ◌==◌, List, Result, Ok, Err}
use Rattle.dsc_outside.specs.declared.exchange.ExchangeOutcome.{ExchangeOutcome}
use Rattle.dsc_outside.specs.declared.exchange.ExchangeOutcome.TheVariants as outcomes
use Rattle.http_frames.specs.declared.message.Reply.{Reply}
use Rattle.http_frames.specs.declared.frame_error.FrameError.{FrameError}
use Rattle.http_frames.specs.declared.frame_error.FrameError.TheVariants as frames
use Rattle.http_frames.specs.Frames.{IsAnswerFrame}
use Rattle.http_frames.specs.OneAnswer.{ReplyAnswer}
use Rattle.pull_client.specs.declared.error.PeerError.{PeerError}
use Rattle.pull_client.specs.declared.error.PeerError.TheVariants.{NotServed, Link, TooLong, Frame, Status, Memory}

-- the codes of an answer that is looked into
abbrev pub is_accepted : ℕ → Bool
is_accepted code = code == 200 || (code == 201 || code == 204)

-- what an outcome means, given what an accepted reply says: each row in the order in which the causes win. Memory may
-- have been refused in the place of each
pub data Heard {T : Type 0} (Says : Reply → Result T PeerError → Type 0) : ExchangeOutcome → Result T PeerError → Type 0 where
  link_failed : Heard Says outcomes.Failed (Err Link)
  too_long : Heard Says outcomes.TooLong (Err TooLong)
  no_answer : (bytes : List ℕ) (e : FrameError) → ReplyAnswer bytes (Err e) → Heard Says (outcomes.Answered bytes) (Err (Frame e))
  not_accepted : (bytes : List ℕ) (reply : Reply) → IsAnswerFrame bytes reply → is_accepted reply.code ≡ false
      → Heard Says (outcomes.Answered bytes) (Err (Status reply.code))
  accepted : (bytes : List ℕ) (reply : Reply) (result : Result T PeerError) → IsAnswerFrame bytes reply → is_accepted reply.code ≡ true
      → Says reply result → Heard Says (outcomes.Answered bytes) result
  no_memory : (outcome : ExchangeOutcome) → Heard Says outcome (Err Memory)

-- the reply itself
abbrev pub IsReply : Reply → Result Reply PeerError → Type 0
IsReply reply result = result ≡ Ok reply

-- an accepted reply says nothing more
abbrev pub IsDone : Reply → Result (Unit {0}) PeerError → Type 0
IsDone reply result = result ≡ Ok tt

-- ---- for private clauses

-- the error of a reader of answers
abbrev pub frame_fault : FrameError → PeerError
frame_fault frames.Memory = Memory
frame_fault e = Frame e

-- an answer that comes of a reply
abbrev pub IsAnswered : {T : Type 0} → Result T PeerError → Type 0
IsAnswered (Ok value) = ⊤
IsAnswered (Err NotServed) = ⊥
IsAnswered (Err Link) = ⊥
IsAnswered (Err e) = ⊤

-- what a reply says, or out of memory
abbrev pub SaysOr : {T : Type 0} → (Reply → Result T PeerError → Type 0) → Reply → Result T PeerError → Type 0
SaysOr Says reply result = (Says reply result ⊎ (result ≡ Err Memory)) × IsAnswered result
