-- What may be answered of bytes, as one relation, and that it is one answer.
use Rattle.std.specs.Prelude.{◌≡◌, ◌≢◌, ◌⊎◌, List, ◌++◌, length, take, Option, Some, None, Result, Ok, Err, if◌then◌else◌, nat_lt}
use Rattle.std.specs.Prelude.{ℕ}
use Rattle.httparse.specs.Grammar.{EndsInTarget}
use Rattle.http_frames.specs.declared.message.Request.{Request}
use Rattle.http_frames.specs.declared.message.Reply.{Reply}
use Rattle.http_frames.specs.declared.frame_error.FrameError.{FrameError}
use Rattle.http_frames.specs.declared.frame_error.FrameError.TheVariants.{Memory, Torn, Head, HeadTooLong}
use Rattle.http_frames.specs.Limits.{head_bytes}
use Rattle.http_frames.specs.Heads.{IsNoRequest}
use Rattle.http_frames.specs.Frames.{BeginsWithRequest, AwaitsRest, RefusesRequest, IsAnswerFrame, IsTorn, RefusesReply}

-- what may be answered of the bytes of a request, with ample memory
abbrev pub RequestAnswer : List ℕ → Result (Option Request) FrameError → Type 0
RequestAnswer bytes (Ok (Some request)) = BeginsWithRequest bytes request
RequestAnswer bytes (Ok None) = AwaitsRest bytes
RequestAnswer bytes (Err e) = (e ≢ Memory) × RefusesRequest bytes e

-- the bytes end inside a target, and no continuation of them makes a head: this is seen there or where the target ends
abbrev pub EndsInWrongTarget : List ℕ → Type 0
EndsInWrongTarget bytes = EndsInTarget (take head_bytes bytes) × IsNoRequest (take head_bytes bytes)

-- it is one answer, but there
abbrev pub OneRequestAnswer : Type 0
OneRequestAnswer =
    (bytes : List ℕ) (x y : Result (Option Request) FrameError) → ¬ (EndsInWrongTarget bytes)
    → RequestAnswer bytes x → RequestAnswer bytes y → x ≡ y

-- what is answered where the bytes are left open: nothing yet, or at 16,384 bytes that the head is too long
abbrev pub left_open : List ℕ → Result (Option Request) FrameError
left_open bytes = if nat_lt (length bytes) head_bytes then Ok None else Err HeadTooLong

-- where the bytes end inside a target, that is answered or Head
abbrev pub HeadOrOpen : Type 0
HeadOrOpen =
    (bytes : List ℕ) (x : Result (Option Request) FrameError) → EndsInTarget (take head_bytes bytes)
    → RequestAnswer bytes x → (x ≡ left_open bytes) ⊎ (x ≡ Err Head)

-- an answer stays where more bytes follow, but that more are wanted
abbrev pub RequestAnswersStay : Type 0
RequestAnswersStay =
    (bytes more : List ℕ) (x : Result (Option Request) FrameError) → x ≢ Ok None
    → RequestAnswer bytes x → RequestAnswer (bytes ++ more) x

-- what may be answered of the bytes of an answer, with ample memory
abbrev pub ReplyAnswer : List ℕ → Result Reply FrameError → Type 0
ReplyAnswer bytes (Ok reply) = IsAnswerFrame bytes reply
ReplyAnswer bytes (Err e) = (e ≢ Memory) × (((e ≡ Torn (length bytes)) × IsTorn bytes) ⊎ RefusesReply bytes e)

-- it is one answer
abbrev pub OneReplyAnswer : Type 0
OneReplyAnswer =
    (bytes : List ℕ) (x y : Result Reply FrameError) → ReplyAnswer bytes x → ReplyAnswer bytes y → x ≡ y

-- an error stays where more bytes follow, but that the bytes end inside the answer
abbrev pub ReplyErrorsStay : Type 0
ReplyErrorsStay =
    (bytes more : List ℕ) (e : FrameError) → ((at : ℕ) → e ≢ Torn at)
    → ReplyAnswer bytes (Err e) → ReplyAnswer (bytes ++ more) (Err e)
