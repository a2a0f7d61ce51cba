-- What may be answered of the bytes of an answer.
use Rattle.std.specs.Prelude.{◌≡◌, ℕ, ◌-◌, ◌⊎◌, Bool, true, false, ◌&&◌, nat_le, nat_lt, List, length, drop, Option, Some, None, Result, Ok, Err}
use Rattle.http_frames.specs.declared.message.Reply.{Reply}
use Rattle.http_frames.specs.declared.frame_error.FrameError.{FrameError}
use Rattle.http_frames.specs.declared.frame_error.FrameError.TheVariants.{Memory, Torn}
use Rattle.http_frames.specs.declared.framing.Framing.{Framing}
use Rattle.http_frames.specs.declared.head.AnswerHead.{AnswerHead as AnswerStart}
use Rattle.http_frames.specs.Limits.{answer_limits}
use Rattle.http_frames.specs.Heads.{IsAnswerHeadOf, AwaitsAnswer, RefusesAnswerHead}
use Rattle.http_frames.specs.Framing.{answer_framing}
use Rattle.http_frames.specs.Bodies.{body_reading}

-- 100 to 199: another answer follows (RFC 9110, section 15.2)
abbrev pub is_interim : ℕ → Bool
is_interim code = nat_le 100 code && nat_lt code 200

-- after interim heads at the front of the bytes stands the rest
pub data Passes : List ℕ → List ℕ → Type 0 where
  no_more : (bytes : List ℕ) → Passes bytes bytes
  one_more : (bytes rest : List ℕ) (start : AnswerStart) → IsAnswerHeadOf bytes start → is_interim start.code ≡ true
      → Passes (drop start.length bytes) rest → Passes bytes rest

-- the last head, which is not interim, begins the rest
pub record IsLastHead (bytes rest : List ℕ) (start : AnswerStart) : Type 0 where
  pub passes : Passes bytes rest
  pub head : IsAnswerHeadOf rest start
  pub last : is_interim start.code ≡ false

-- the last head says how its body ends, and the bytes after it read so
pub record AnswersBody (bytes : List ℕ) (start : AnswerStart) (reading : Result (Option (List ℕ)) FrameError) : Type 0 where
  pub rest : List ℕ
  pub head : IsLastHead bytes rest start
  pub framing : Framing
  pub says : answer_framing start.code start.headers ≡ Ok framing
  pub body : body_reading answer_limits (length bytes - length (drop start.length rest)) framing (drop start.length rest) ≡ reading

-- the answer whose head and body are in the bytes
pub record IsReadAnswer (bytes : List ℕ) (reply : Reply) : Type 0 where
  pub start : AnswerStart
  pub whole : AnswersBody bytes start (Ok (Some reply.body))
  pub code : reply.code ≡ start.code
  pub headers : reply.headers ≡ start.headers

-- the bytes end inside a head or a body
abbrev pub EndsInside : List ℕ → Type 0
EndsInside bytes =
    ((rest : List ℕ) × Passes bytes rest × AwaitsAnswer rest) ⊎ ((start : AnswerStart) × AnswersBody bytes start (Ok None))

-- the last head says wrongly how its body ends
pub record RefusesAnswerFraming (bytes : List ℕ) (e : FrameError) : Type 0 where
  pub rest : List ℕ
  pub start : AnswerStart
  pub head : IsLastHead bytes rest start
  pub says : answer_framing start.code start.headers ≡ Err e

-- why the bytes are no answer, other than that they end inside one
abbrev pub RefusesAnswer : List ℕ → FrameError → Type 0
RefusesAnswer bytes e =
    ((rest : List ℕ) × Passes bytes rest × RefusesAnswerHead rest e)
    ⊎ (RefusesAnswerFraming bytes e ⊎ ((start : AnswerStart) × AnswersBody bytes start (Err e)))

-- what is answered
abbrev pub Answers : List ℕ → Result Reply FrameError → Type 0
Answers bytes (Ok reply) = IsReadAnswer bytes reply
Answers bytes (Err e) = (e ≡ Memory) ⊎ (((e ≡ Torn (length bytes)) × EndsInside bytes) ⊎ RefusesAnswer bytes e)
