-- Only a request that was done ends at once.
use Rattle.std.proofs.Common.{◌≡◌, ℕ, Bool, true, false, if◌then◌else◌, Option, refl, ap, subst}
use Rattle.http_frames.specs.declared.frame_error.FrameError.{FrameError}
use Rattle.http_frames.specs.declared.frame_error.FrameError.TheVariants as frames
use Rattle.http_frames.specs.declared.message.Reply.{Reply}
use Rattle.pull_exchange.specs.declared.exchange.Received.{Received}
use Rattle.pull_exchange.specs.declared.exchange.Received.TheVariants as received
use Rattle.pull_exchange.specs.Exchange.{refusal_of}
use Rattle.pull_outside.specs.Shelf.{Contents}
use Rattle.pull_outside.specs.declared.door.Parting.TheVariants as partings
use Rattle.pull_server.specs.Answers.{is_done}
use Rattle.pull_serving.specs.declared.connection.ConnectionEnd.{ConnectionEnd}
use Rattle.pull_serving.specs.declared.connection.ConnectionEnd.TheVariants as ends
use Rattle.pull_serving.specs.Parting.{IsDoneWith, OnlyDoneEndAtOnce, parting_of}
use Rattle.pull_serving.specs.Turn.{Answering, IsAnswered, IsEnd, IsReply, Turn}

-- a refusal does not say that anything was done
not_done : (e : FrameError) → is_done (refusal_of e).code ≡ false
not_done frames.Head = refl
not_done frames.HeadTooLong = refl
not_done frames.Coding = refl
not_done frames.Length = refl
not_done frames.NoLength = refl
not_done frames.BodyTooLong = refl
not_done (frames.Chunk at) = refl
not_done (frames.Torn at) = refl
not_done frames.Memory = refl

-- the answer that ends a connection at once says that the request was done
says_done : (done : Bool) → (if done then partings.AtOnce else partings.AfterPeer) ≡ partings.AtOnce → done ≡ true
says_done true at_once = refl
says_done false at_once = absurd (cc at_once)

module _ (how : Answering) (shelf : Option Contents) (t : Turn) where
  read_whole : (code : ℕ) (r : Received) → t.received ≡ r → is_done code ≡ true → IsAnswered how shelf t code → IsDoneWith how shelf t
  read_whole code (received.Request request) same done answered = record { request = request; is_read = same; code = code; says_done = done; is_answered = answered }
  read_whole code (received.Refused e) same done answered =
      let refused = subst (λ (x : Received). IsReply how shelf t x answered.reply) same answered.is_reply in
      absurd (cc (done, not_done e, ap (λ (r : Reply). is_done r.code) refused.1, ap is_done answered.has_code))
  read_whole code (received.Torn at) same done answered = absurd (subst (λ (x : Received). IsReply how shelf t x answered.reply) same answered.is_reply)
  read_whole code received.ReadFault same done answered = absurd (subst (λ (x : Received). IsReply how shelf t x answered.reply) same answered.is_reply)
  read_whole code received.Memory same done answered = absurd (subst (λ (x : Received). IsReply how shelf t x answered.reply) same answered.is_reply)

  done_with : (end : ConnectionEnd) → IsEnd how shelf t end → parting_of end ≡ partings.AtOnce → IsDoneWith how shelf t
  done_with (ends.Answered code) is at_once = read_whole code t.received refl (says_done (is_done code) at_once) is
  done_with ends.DiskFault is at_once = absurd (cc at_once)
  done_with (ends.Torn at) is at_once = absurd (cc at_once)
  done_with ends.ReadFault is at_once = absurd (cc at_once)
  done_with ends.WriteFault is at_once = absurd (cc at_once)
  done_with ends.Memory is at_once = absurd (cc at_once)

pub only_done : (how : Answering) → OnlyDoneEndAtOnce how
only_done how shelf t turn at_once = done_with how shelf t t.end turn.end at_once
