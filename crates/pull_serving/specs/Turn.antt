-- One connection: what was received, what was replied, and how it ended.
use Rattle.std.specs.Prelude.{◌≡◌, ◌⊎◌, ◌≤◌, ℕ, true, false, List, Option, Some, IfSome, ⊤}
use Rattle.std.specs.Io.KnownBytes.{Appends}
use Rattle.dsc_terms.specs.Counts.{Rose}
use Rattle.dsc_outside.specs.declared.disk.Disk.{Ghosts}
use Rattle.gate_log.specs.Standing.{StandsAtAnyMoment}
use Rattle.http_frames.specs.declared.message.Request.{Request}
use Rattle.http_frames.specs.declared.message.Reply.{Reply}
use Rattle.http_frames.specs.Writing.{answer_text}
use Rattle.pull_outside.specs.Door.{Known}
use Rattle.pull_outside.specs.Shelf.{Contents}
use Rattle.pull_exchange.specs.declared.exchange.Received.{Received}
use Rattle.pull_exchange.specs.declared.exchange.Received.TheVariants as received
use Rattle.dsc_outside.specs.Streams.{AppendsPart}
use Rattle.pull_exchange.specs.Exchange.{IsReceived, IsRefusal, Writes, refusal_of}
use Rattle.pull_store.specs.declared.row.Row.{Row}
use Rattle.pull_store.specs.declared.change.Change.{Change}
use Rattle.pull_store.specs.Rows.{after}
use Rattle.pull_store.specs.Stands.{Stands}
use Rattle.pull_store.specs.Store.{StoreTerm, IsKept, Untouched, is_spent}
use Rattle.pull_server.specs.Asked.{Asks}
use Rattle.pull_server.specs.Answers.{IsAcknowledged, IsCrowded, IsOverfull, LeavesRows, is_done}
use Rattle.pull_server.specs.Replies.{plain}
use Rattle.pull_serving.specs.declared.connection.ConnectionEnd.{ConnectionEnd}
use Rattle.pull_serving.specs.declared.connection.ConnectionEnd.TheVariants as ends

-- what connections are served over: the store, the counts of faults of the disk and of the shelf, and the disk's moment
pub record State : Type 0 where
  pub store : StoreTerm
  pub disk_faults : ℕ
  pub shelf_faults : ℕ
  pub moment : ℕ

-- what connections are served over, by what is known of the disk
abbrev pub state : {D : Type 0} → Ghosts D → D → StoreTerm → ℕ → State
state d disk store shelf_faults = record { store = store; disk_faults = d.faults disk; shelf_faults = shelf_faults; moment = d.moment disk }

-- a connection as it came and as it was left, what was received of it, what there was before it and after it, and how it ended
pub record Turn : Type 0 where
  pub came : Known
  pub went : Known
  pub received : Received
  pub before : State
  pub after : State
  pub end : ConnectionEnd

-- ---- the reply

-- how a service answers: the reply to a request over its store and what the shelf holds, and the rows after it, where a count of faults rose in
-- the call or did not
abbrev pub Answering : Type 1
Answering = StoreTerm → Contents → Request → Type 0 → Reply → List Row → Type 0

-- in the turn the disk's count of faults rose
abbrev pub DiskRose : Turn → Type 0
DiskRose t = Rose t.before.disk_faults t.after.disk_faults

-- in the turn the connection's count of faults rose
abbrev pub ConnectionRose : Turn → Type 0
ConnectionRose t = Rose t.came.faults t.went.faults

-- in the turn the count of the disk rose, or that of the shelf
abbrev pub OutsideRose : Turn → Type 0
OutsideRose t = DiskRose t ⊎ Rose t.before.shelf_faults t.after.shelf_faults

-- The reply to a request, and the rows after it: as the service answers, over what the shelf holds where it shows that. Whatever the shelf holds,
-- 500, 503 and 507 have a cause, and the change that the request asks for was made where the reply says that it was done, and else none.
pub record IsReplyTo (how : Answering) (shelf : Option Contents) (t : Turn) (request : Request) (reply : Reply) : Type 0 where
  pub table : (contents : Contents) → shelf ≡ Some contents → how t.before.store contents request (OutsideRose t) reply t.after.store.rows
  pub cause : reply.code ≡ 500 → OutsideRose t ⊎ (is_spent t.before.store ≡ true)
  pub crowded : reply.code ≡ 503 → IsCrowded t.before.store request
  pub overfull : reply.code ≡ 507 → IsOverfull t.before.store request
  pub done : is_done reply.code ≡ true → (change : Change) → Asks request change → t.after.store.rows ≡ after change t.before.store.rows
  pub undone : is_done reply.code ≡ false → t.after.store.rows ≡ t.before.store.rows

-- the reply to what was received
abbrev pub IsReply : Answering → Option Contents → Turn → Received → Reply → Type 0
IsReply how shelf t (received.Request request) reply = IsReplyTo how shelf t request reply
IsReply how shelf t (received.Refused e) reply = IsRefusal e × (reply ≡ refusal_of e)
IsReply how shelf t (received.Torn at) reply = ⊥
IsReply how shelf t received.ReadFault reply = ⊥
IsReply how shelf t received.Memory reply = ⊥

-- ---- the end

-- nothing was written
abbrev pub WroteNothing : Turn → Type 0
WroteNothing t = t.went.held ≡ t.came.held

-- the reply was written whole
pub record IsAnswered (how : Answering) (shelf : Option Contents) (t : Turn) (code : ℕ) : Type 0 where
  pub reply : Reply
  pub is_reply : IsReply how shelf t t.received reply
  pub has_code : reply.code ≡ code
  pub written : Appends t.came.held t.went.held (answer_text reply)

-- the store was spent in this turn, since the disk failed, and the reply is 500
pub record IsBroken (how : Answering) (shelf : Option Contents) (t : Turn) : Type 0 where
  pub fresh : is_spent t.before.store ≡ false
  pub spent : is_spent t.after.store ≡ true
  pub rose : DiskRose t
  pub is_reply : IsReply how shelf t t.received (plain 500)
  pub written : Writes t.came.held t.went.held (answer_text (plain 500)) t.came.faults t.went.faults

-- the connection failed, and a part from the front of the reply was written
pub record IsCut (how : Answering) (shelf : Option Contents) (t : Turn) : Type 0 where
  pub reply : Reply
  pub is_reply : IsReply how shelf t t.received reply
  pub rose : ConnectionRose t
  pub written : AppendsPart t.came.held t.went.held (answer_text reply)

-- out of memory before the store was changed
abbrev pub IsStoreSame : Turn → Type 0
IsStoreSame t = t.after.store ≡ t.before.store

-- there is a reply, whose text ran out of memory
pub record IsUnsent (how : Answering) (shelf : Option Contents) (t : Turn) : Type 0 where
  pub reply : Reply
  pub is_reply : IsReply how shelf t t.received reply

-- why the turn ended so
abbrev pub IsEnd : Answering → Option Contents → Turn → ConnectionEnd → Type 0
IsEnd how shelf t (ends.Answered code) = IsAnswered how shelf t code
IsEnd how shelf t ends.DiskFault = IsBroken how shelf t
IsEnd how shelf t (ends.Torn at) = (t.received ≡ received.Torn at) × WroteNothing t
IsEnd how shelf t ends.ReadFault = (t.received ≡ received.ReadFault) × ConnectionRose t × WroteNothing t
IsEnd how shelf t ends.WriteFault = IsCut how shelf t
IsEnd how shelf t ends.Memory = WroteNothing t × (IsStoreSame t ⊎ IsUnsent how shelf t)

-- ---- the turn

-- the rows that what was received may leave
abbrev pub MayLeave : Option Contents → Received → StoreTerm → List Row → Type 0
MayLeave shelf (received.Request request) store rows = LeavesRows store shelf request rows
MayLeave shelf (received.Refused e) store rows = rows ≡ store.rows
MayLeave shelf (received.Torn at) store rows = rows ≡ store.rows
MayLeave shelf received.ReadFault store rows = rows ≡ store.rows
MayLeave shelf received.Memory store rows = rows ≡ store.rows

-- what is no request leaves all as it was
abbrev pub Leaves : Received → State → State → Type 0
Leaves (received.Request request) old new = ⊤
Leaves (received.Refused e) old new = new ≡ old
Leaves (received.Torn at) old new = new ≡ old
Leaves received.ReadFault old new = new ≡ old
Leaves received.Memory old new = new ≡ old

-- the end of a turn in which the store was spent
abbrev pub ShowsFault : ConnectionEnd → Type 0
ShowsFault end = (end ≡ ends.DiskFault) ⊎ (end ≡ ends.Memory)

-- the connection was served over what the shelf holds
pub record IsTurn (how : Answering) (shelf : Option Contents) (t : Turn) : Type 0 where
  pub heard : IfSome t.came.left (λ bytes. IsReceived bytes t.received)
  pub rows : MayLeave shelf t.received t.before.store t.after.store.rows
  pub leaves : Leaves t.received t.before t.after
  pub end : IsEnd how shelf t t.end
  pub spent : is_spent t.before.store ≡ false → is_spent t.after.store ≡ true → DiskRose t × ShowsFault t.end
  pub disk_count : t.before.disk_faults ≤ t.after.disk_faults
  pub shelf_count : t.before.shelf_faults ≤ t.after.shelf_faults
  pub connection_count : t.came.faults ≤ t.went.faults

-- where a registration or a report was answered that it was done, every image stands for the rows after it
abbrev pub Acknowledges : {D : Type 0} → Ghosts D → Received → StoreTerm → D → StoreTerm → ConnectionEnd → Type 0
Acknowledges d (received.Request request) old now new (ends.Answered code) = is_done code ≡ true → IsAcknowledged d request old now new
Acknowledges d received old now new end = ⊤

-- what is no request touches neither store nor disk, nor does a request to a spent store
abbrev pub Rests : Received → StoreTerm → Type 0 → Type 0
Rests (received.Request request) store untouched = is_spent store ≡ true → untouched
Rests (received.Refused e) store untouched = untouched
Rests (received.Torn at) store untouched = untouched
Rests received.ReadFault store untouched = untouched
Rests received.Memory store untouched = untouched

-- all that serving a connection did, and what a crash at any moment of it leaves
pub record IsServed {D : Type 0} (how : Answering) (d : Ghosts D) (before now : D) (shelf : Option Contents) (came went : Known) (old new : State) (end : ConnectionEnd) : Type 0 where
  pub received : Received
  pub turn : IsTurn how shelf (record { came = came; went = went; received = received; before = old; after = new; end = end })
  pub any_moment : IsKept d before old.store → StandsAtAnyMoment d before now Stands (MayLeave shelf received old.store)
  pub acknowledged : Acknowledges d received old.store now new.store end
  pub rests : Rests received old.store (Untouched old.store new.store before now)
