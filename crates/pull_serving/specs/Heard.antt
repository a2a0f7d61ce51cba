-- What is heard over a link to a pull server: the replies of its table, each as it is written and as nothing else.
use Rattle.std.specs.Prelude.{◌≡◌, ◌⊎◌, ℕ, List, [], ◌∷◌, Some, ⊤}
use Rattle.dsc_terms.specs.Counts.{Rose}
use Rattle.dsc_outside.specs.declared.disk.Disk as disks
use Rattle.dsc_outside.specs.declared.exchange.Exchange.{Exchange}
use Rattle.dsc_outside.specs.declared.exchange.ExchangeOutcome.{ExchangeOutcome}
use Rattle.dsc_outside.specs.declared.exchange.ExchangeOutcome.TheVariants.{Answered, Failed, TooLong}
use Rattle.http_frames.specs.declared.message.Reply.{Reply}
use Rattle.http_frames.specs.declared.message.Request.{Request}
use Rattle.http_frames.specs.ReadBack.{ReplyIsReadBack}
use Rattle.http_frames.specs.Sending.{IsSendable, sent}
use Rattle.http_frames.specs.Writing.{answer_text, request_text}
use Rattle.pull_outside.specs.Shelf.{Contents}
use Rattle.pull_outside.specs.declared.shelf.Shelf as shelves
use Rattle.pull_exchange.specs.declared.exchange.Received.TheVariants as received
use Rattle.pull_exchange.specs.Exchange.{IsReceived}
use Rattle.pull_server.specs.Answers.{Replies}
use Rattle.pull_serving.specs.ServerLink.{Becomes, IsExchangeOf, ServerInMemory, state_of}
use Rattle.pull_serving.specs.Turn.{IsReply, IsTurn, OutsideRose, State, Turn}

-- the bytes are the text of the table's reply to what was received, and are read as that reply alone
pub record IsReplied (shelf : Contents) (t : Turn) (bytes : List ℕ) : Type 0 where
  pub reply : Reply
  pub is_reply : IsReply Replies (Some shelf) t t.received reply
  pub written : bytes ≡ answer_text reply
  pub read : ReplyIsReadBack reply

-- the request ends inside, and nothing is answered
pub record IsUnanswered (t : Turn) (bytes : List ℕ) : Type 0 where
  pub at : ℕ
  pub torn : t.received ≡ received.Torn at
  pub nothing : bytes ≡ []

-- what is heard of the turn
abbrev pub IsHeard : Contents → Turn → ExchangeOutcome → Type 0
IsHeard shelf t (Answered bytes) = IsReplied shelf t bytes ⊎ IsUnanswered t bytes
IsHeard shelf t TooLong = ⊤
IsHeard shelf t Failed = ⊤

-- a count of faults of the server rose between the two
abbrev pub AnyCountRose : State → State → Type 0
AnyCountRose before after = Rose before.disk_faults after.disk_faults ⊎ Rose before.shelf_faults after.shelf_faults

-- The exchange is the turn: the bytes that were sent are what was received, its reply is heard, and no count rose in it but one that rose up to the last.
pub record IsAnsweredIn (shelf : Contents) (t : Turn) (e : Exchange) (last : State) : Type 0 where
  pub turn : IsTurn Replies (Some shelf) t
  pub exchange : IsExchangeOf t e
  pub received : IsReceived e.request t.received
  pub heard : IsHeard shelf t e.outcome
  pub quiet : OutsideRose t → AnyCountRose t.before last

-- so it is with these exchanges, over a shelf that holds this, each over the rows that the one before it left
abbrev pub AreAnswered : Contents → State → List Exchange → State → Type 0
AreAnswered shelf first [] last = last ≡ first
AreAnswered shelf first (e ∷ es) last = (t : Turn) × (t.before ≡ first) × IsAnsweredIn shelf t e last × AreAnswered shelf t.after es last

-- so it is with those that a link to a server adds
abbrev pub LinksAreHeard : {D F : Type 0} → disks.Ghosts D → shelves.Ghosts F → Type 0
LinksAreHeard {D} {F} d f =
    (old new : ServerInMemory D F) (shelf : Contents) (becomes : Becomes d f old new) → f.holds old.shelf ≡ Some shelf
    → AreAnswered shelf (state_of d f old) becomes.more (state_of d f new)

-- ---- requests that read back

-- the bytes are the text of the table's reply to that request, over the rows before it, and are read as that reply alone
pub record IsRepliedTo (shelf : Contents) (t : Turn) (request : Request) (bytes : List ℕ) : Type 0 where
  pub reply : Reply
  pub replies : Replies t.before.store shelf request (OutsideRose t) reply t.after.store.rows
  pub written : bytes ≡ answer_text reply
  pub read : ReplyIsReadBack reply

-- what answers a message that is sendable is the reply to that message, with the lines that are added to it
abbrev pub SendableAreReplied : Type 0
SendableAreReplied =
    (shelf : Contents) (t : Turn) (e : Exchange) (last : State) (message : Request) (host bytes : List ℕ) → IsAnsweredIn shelf t e last
    → e.request ≡ request_text message host → IsSendable message host → e.outcome ≡ Answered bytes → IsRepliedTo shelf t (sent message host) bytes
