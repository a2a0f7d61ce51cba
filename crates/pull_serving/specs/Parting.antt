-- How a connection is handed back.
use Rattle.std.specs.Prelude.{◌≡◌, ℕ, true, if◌then◌else◌, Option}
use Rattle.http_frames.specs.declared.message.Request.{Request}
use Rattle.pull_outside.specs.Shelf.{Contents}
use Rattle.pull_outside.specs.declared.door.Parting.{Parting}
use Rattle.pull_outside.specs.declared.door.Parting.TheVariants as partings
use Rattle.pull_exchange.specs.declared.exchange.Received.TheVariants as received
use Rattle.pull_server.specs.Answers.{is_done}
use Rattle.pull_serving.specs.declared.connection.ConnectionEnd.{ConnectionEnd}
use Rattle.pull_serving.specs.declared.connection.ConnectionEnd.TheVariants as ends
use Rattle.pull_serving.specs.Turn.{Answering, IsAnswered, IsTurn, Turn}

-- to end at once where the answer says that the request was done, after its peer otherwise
abbrev pub parting_of : ConnectionEnd → Parting
parting_of (ends.Answered code) = if is_done code then partings.AtOnce else partings.AfterPeer
parting_of ends.DiskFault = partings.AfterPeer
parting_of (ends.Torn at) = partings.AfterPeer
parting_of ends.ReadFault = partings.AfterPeer
parting_of ends.WriteFault = partings.AfterPeer
parting_of ends.Memory = partings.AfterPeer

-- a request was read whole, and the answer that it was done was written whole
pub record IsDoneWith (how : Answering) (shelf : Option Contents) (t : Turn) : Type 0 where
  pub request : Request
  pub is_read : t.received ≡ received.Request request
  pub code : ℕ
  pub says_done : is_done code ≡ true
  pub is_answered : IsAnswered how shelf t code

-- of any service no other connection is to end at once
abbrev pub OnlyDoneEndAtOnce : Answering → Type 0
OnlyDoneEndAtOnce how = (shelf : Option Contents) (t : Turn) → IsTurn how shelf t → parting_of t.end ≡ partings.AtOnce → IsDoneWith how shelf t
