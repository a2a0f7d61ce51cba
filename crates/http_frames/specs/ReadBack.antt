-- A message that is written reads back as itself, and as nothing else.
use Rattle.std.specs.Prelude.{◌≡◌, List, ℕ, Option, Some, Result, Ok}
use Rattle.http_frames.specs.declared.frame_error.FrameError.{FrameError}
use Rattle.http_frames.specs.declared.message.Reply.{Reply}
use Rattle.http_frames.specs.declared.message.Request.{Request}
use Rattle.http_frames.specs.Frames.{IsAnswerFrame, IsRequestFrame}
use Rattle.http_frames.specs.OneAnswer.{ReplyAnswer, RequestAnswer}
use Rattle.http_frames.specs.Sending.{IsSendable, IsSendableReply, sent, sent_reply}
use Rattle.http_frames.specs.Writing.{answer_text, request_text}

-- the text of a request that is sendable is its frame, with the lines that are added, and nothing else is answered of it
pub record RequestIsReadBack (request : Request) (host : List ℕ) : Type 0 where
  pub frame : IsRequestFrame (request_text request host) (sent request host)
  pub alone : (x : Result (Option Request) FrameError) → RequestAnswer (request_text request host) x → x ≡ Ok (Some (sent request host))

abbrev pub RequestsReadBack : Type 0
RequestsReadBack = (request : Request) (host : List ℕ) → IsSendable request host → RequestIsReadBack request host

-- the same of an answer
pub record ReplyIsReadBack (reply : Reply) : Type 0 where
  pub frame : IsAnswerFrame (answer_text reply) (sent_reply reply)
  pub alone : (x : Result Reply FrameError) → ReplyAnswer (answer_text reply) x → x ≡ Ok (sent_reply reply)

abbrev pub RepliesReadBack : Type 0
RepliesReadBack = (reply : Reply) → IsSendableReply reply → ReplyIsReadBack reply
