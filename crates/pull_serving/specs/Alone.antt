-- A run as a list of exchanges, in which each agent is answered as if it were alone.
use Rattle.std.specs.Prelude.{◌≡◌, ◌⊎◌, ℕ, false, List, [], ◌∷◌, Some}
use Rattle.std.specs.Io.KnownBytes.{Appends}
use Rattle.std.specs.List.{AllByRecursion}
use Rattle.dsc_outside.specs.Streams.{AppendsPart}
use Rattle.http_frames.specs.declared.message.Request.{Request}
use Rattle.http_frames.specs.declared.message.Reply.{Reply}
use Rattle.http_frames.specs.Writing.{answer_text}
use Rattle.pull_exchange.specs.declared.exchange.Received.TheVariants as received
use Rattle.pull_exchange.specs.Exchange.{Writes}
use Rattle.pull_outside.specs.Shelf.{Contents}
use Rattle.pull_store.specs.Rows.{row_of}
use Rattle.pull_server.specs.Alone.{AnsweredAll, Exchange, OwnAll, exchanges_of, rows_left}
use Rattle.pull_server.specs.Answers.{reply_of}
use Rattle.pull_server.specs.Asked.{IsAim, asked}
use Rattle.pull_server.specs.Own.{is_shared}
use Rattle.pull_server.specs.Replies.{plain}
use Rattle.pull_server.specs.Table.{leaves, outcome_of}
use Rattle.pull_serving.specs.declared.connection.ConnectionEnd.{ConnectionEnd}
use Rattle.pull_serving.specs.declared.connection.ConnectionEnd.TheVariants as ends
use Rattle.pull_serving.specs.Turn.{Answering, OutsideRose, State, Turn, WroteNothing}
use Rattle.pull_serving.specs.Turns.{Runs}

-- what a turn that ended so wrote of its reply: all, a part from the front, or nothing
abbrev pub Wrote : ConnectionEnd → Turn → Reply → Type 0
Wrote (ends.Answered code) t reply = (reply.code ≡ code) × Appends t.came.held t.went.held (answer_text reply)
Wrote ends.DiskFault t reply = Writes t.came.held t.went.held (answer_text reply) t.came.faults t.went.faults
Wrote (ends.Torn at) t reply = ⊥
Wrote ends.ReadFault t reply = ⊥
Wrote ends.WriteFault t reply = AppendsPart t.came.held t.went.held (answer_text reply)
Wrote ends.Memory t reply = WroteNothing t

-- the table gave the outcome, or a count of faults rose, and it is 500
abbrev pub CameOf : Contents → Turn → Exchange → Type 0
CameOf contents t e = (outcome_of (asked t.before.store contents e.request e.aim) ≡ Some e.outcome) ⊎ (OutsideRose t × (e.outcome ≡ leaves (plain 500)))

-- the turn was this exchange: its request, where its outcome came from, its reply as far as it was written, and the rows that it left
pub record IsExchange (contents : Contents) (t : Turn) (e : Exchange) : Type 0 where
  pub is_request : t.received ≡ received.Request e.request
  pub is_aim : IsAim e.request.target e.aim
  pub came : CameOf contents t e
  pub wrote : Wrote t.end t (reply_of e.outcome)
  pub rows : t.after.store.rows ≡ rows_left e t.before.store.rows

-- no request was answered: none was received, or it ran out of memory first; and the rows are as they were
pub record IsNoExchange (t : Turn) : Type 0 where
  pub unanswered : (request : Request) → t.received ≡ received.Request request → t.end ≡ ends.Memory
  pub rows : t.after.store.rows ≡ t.before.store.rows

-- the turn had a request that the service answers apart from the table, and the rows are as they were
pub record IsBeside (apart : Request → Type 0) (t : Turn) : Type 0 where
  pub request : Request
  pub is_request : t.received ≡ received.Request request
  pub is_apart : apart request
  pub rows : t.after.store.rows ≡ t.before.store.rows

-- the exchanges of the turns, in order, of a service that answers these requests apart from the table
pub data AreExchanges (apart : Request → Type 0) (contents : Contents) : List Turn → List Exchange → Type 0 where
  no_turns : AreExchanges apart contents [] []
  without : (t : Turn) (ts : List Turn) (es : List Exchange) → IsNoExchange t → AreExchanges apart contents ts es → AreExchanges apart contents (t ∷ ts) es
  beside : (t : Turn) (ts : List Turn) (es : List Exchange) → IsBeside apart t → AreExchanges apart contents ts es → AreExchanges apart contents (t ∷ ts) es
  with_one : (t : Turn) (ts : List Turn) (e : Exchange) (es : List Exchange) → IsExchange contents t e → AreExchanges apart contents ts es
      → AreExchanges apart contents (t ∷ ts) (e ∷ es)

-- no reply is 500, 503 or 507
abbrev pub IsOwnReply : Exchange → Type 0
IsOwnReply e = is_shared (reply_of e.outcome).code ≡ false

-- the exchanges of a run; where no reply is 500, 503 or 507, each is by the table, and an agent's replies and its row are those that its own requests alone give
pub record IsExchanged (apart : Request → Type 0) (contents : Contents) (first : State) (turns : List Turn) (last : State) : Type 0 where
  pub exchanges : List Exchange
  pub are : AreExchanges apart contents turns exchanges
  pub answered : AllByRecursion IsOwnReply exchanges → AnsweredAll contents first.store.rows exchanges last.store.rows
  pub alone : AllByRecursion IsOwnReply exchanges → (agent : ℕ)
      → OwnAll contents (row_of agent first.store.rows) (exchanges_of agent exchanges) (row_of agent last.store.rows)

-- each run of the service is a list of exchanges, but for the turns with these requests
abbrev pub RunsLeaveAgentsAlone : Answering → (Request → Type 0) → Type 0
RunsLeaveAgentsAlone how apart = (contents : Contents) (first last : State) (turns : List Turn)
    → Runs how (Some contents) first turns last → IsExchanged apart contents first turns last

-- the pull server answers each request by the table
abbrev pub NoneApart : Request → Type 0
NoneApart request = ⊥
