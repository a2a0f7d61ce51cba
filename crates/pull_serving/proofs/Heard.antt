-- What is heard over a link to a pull server.
use Rattle.std.proofs.Common.{◌≡◌, ◌≢◌, ◌⊎◌, inl, inr, ℕ, ◌<◌, ◌≤◌, List, [], ◌∷◌, ◌++◌, length, Option, Some, None, IfSome, Result, Ok, Err, refl, sym, ap, ◌∙◌, subst, arith, codes}
use Rattle.std.proofs.lemmas.Bool.{false≢true}
use Rattle.std.proofs.Math.Nat.{le_refl, le_trans}
use Rattle.std.specs.Fmt.{decimal}
use Rattle.std.specs.Io.KnownBytes.{Appends}
use Rattle.dsc_terms.specs.Counts.{Rose}
use Rattle.dsc_outside.specs.declared.disk.Disk as disks
use Rattle.dsc_outside.specs.declared.exchange.Exchange.{Exchange}
use Rattle.dsc_outside.specs.declared.exchange.ExchangeOutcome.{ExchangeOutcome}
use Rattle.dsc_outside.specs.declared.exchange.ExchangeOutcome.TheVariants.{Answered, Failed, TooLong}
use Rattle.dsc_outside.specs.Link.{answer_limit}
use Rattle.http_frames.specs.declared.frame_error.FrameError.{FrameError}
use Rattle.http_frames.specs.declared.frame_error.FrameError.TheVariants as frames
use Rattle.http_frames.specs.declared.message.Reply.{Reply}
use Rattle.http_frames.specs.declared.message.Request.{Request}
use Rattle.http_frames.specs.Limits.{answer_limits}
use Rattle.http_frames.specs.ReadBack.{RepliesReadBack, ReplyIsReadBack, RequestsReadBack}
use Rattle.http_frames.specs.OneAnswer.{RequestAnswer, RequestAnswersStay}
use Rattle.http_frames.specs.Frames.{AwaitsRest}
use Rattle.http_frames.specs.Sending.{IsSendable, IsSendableReply, sent}
use Rattle.http_frames.specs.Writing.{answer_text, request_text}
use Rattle.pull_outside.specs.Shelf.{Contents}
use Rattle.pull_outside.specs.declared.shelf.Shelf as shelves
use Rattle.pull_exchange.specs.declared.exchange.Received.{Received}
use Rattle.pull_exchange.specs.declared.exchange.Received.TheVariants as received
use Rattle.pull_exchange.specs.Exchange.{IsReceived, IsRefusal, IsRefused, refusal_of}
use Rattle.pull_server.specs.Answers.{Replies}
use Rattle.pull_server.specs.Replies.{plain}
use Rattle.pull_server.specs.SentReplies.{RepliesAreSendable}
use Rattle.pull_server.proofs.SendableReplies.{bare_is_sendable, body_size}
use Rattle.pull_server.proofs.SentReplies.{pulled_is_sendable}
use Rattle.pull_serving.specs.declared.connection.ConnectionEnd.{ConnectionEnd}
use Rattle.pull_serving.specs.declared.connection.ConnectionEnd.TheVariants as ends
use Rattle.pull_serving.specs.Heard.{AnyCountRose, AreAnswered, IsAnsweredIn, IsHeard, IsReplied, IsRepliedTo, IsUnanswered, LinksAreHeard, SendableAreReplied}
use Rattle.pull_serving.specs.ServerLink.{Answers, Gives, IsExchangeOf, state_of}
use Rattle.pull_serving.specs.Turn.{IsEnd, IsReply, IsTurn, OutsideRose, State, Turn}

-- ---- counts

not_risen : (before now : ℕ) → now ≡ 0 → Rose before now → ⊥
not_risen before now none rose = omega (arith, none, rose)

rose_later : (before mid after : ℕ) → mid ≤ after → Rose before mid → Rose before after
rose_later before mid after later rose = le_trans rose later

-- ---- replies

abbrev Within : Reply → Type 0
Within reply = length reply.body ≤ answer_limits.content

refusal_is_sendable : (e : FrameError) → Within (refusal_of e) → IsSendableReply (refusal_of e)
refusal_is_sendable frames.Head few = bare_is_sendable 400 (codes "head") (omega arith) (omega arith) (λ none. absurd (false≢true none)) few
refusal_is_sendable frames.HeadTooLong few = bare_is_sendable 400 (codes "head") (omega arith) (omega arith) (λ none. absurd (false≢true none)) few
refusal_is_sendable frames.Coding few = bare_is_sendable 501 [] (omega arith) (omega arith) (λ none. refl) few
refusal_is_sendable frames.Length few = bare_is_sendable 400 (codes "length") (omega arith) (omega arith) (λ none. absurd (false≢true none)) few
refusal_is_sendable frames.NoLength few = bare_is_sendable 411 [] (omega arith) (omega arith) (λ none. refl) few
refusal_is_sendable frames.BodyTooLong few = bare_is_sendable 413 [] (omega arith) (omega arith) (λ none. refl) few
refusal_is_sendable (frames.Chunk at) few = bare_is_sendable 400 (codes "chunk " ++ decimal at) (omega arith) (omega arith) (λ none. absurd (false≢true none)) few
refusal_is_sendable (frames.Torn at) few = bare_is_sendable 400 [] (omega arith) (omega arith) (λ none. refl) few
refusal_is_sendable frames.Memory few = bare_is_sendable 400 [] (omega arith) (omega arith) (λ none. refl) few

module _ (sendable : RepliesAreSendable) where
  reply_is_sendable : (shelf : Contents) (t : Turn) (got : Received) (reply : Reply) → IsReply Replies (Some shelf) t got reply → Within reply → IsSendableReply reply
  reply_is_sendable shelf t (received.Request request) reply is few =
      pulled_is_sendable sendable t.before.store shelf request (OutsideRose t) reply t.after.store.rows (is.table shelf refl) few
  reply_is_sendable shelf t (received.Refused e) reply is few = subst IsSendableReply (sym is.1) (refusal_is_sendable e (subst Within is.1 few))
  reply_is_sendable shelf t (received.Torn at) reply is few = absurd is
  reply_is_sendable shelf t received.ReadFault reply is few = absurd is
  reply_is_sendable shelf t received.Memory reply is few = absurd is

  -- ---- one exchange

  module _ (back : RepliesReadBack) (shelf : Contents) (t : Turn) (e : Exchange) (turn : IsTurn Replies (Some shelf) t) (of : IsExchangeOf t e) where
    replied : (bytes : List ℕ) (reply : Reply) → bytes ≡ of.taken → length of.taken < answer_limit → IsReply Replies (Some shelf) t t.received reply
        → Appends t.came.held t.went.held (answer_text reply) → IsReplied shelf t bytes
    replied bytes reply same small is wrote =
        let from : Appends (Some []) t.went.held (answer_text reply) = subst (λ (o : Option (List ℕ)). Appends o t.went.held (answer_text reply)) of.empty wrote in
        let text : of.taken ≡ answer_text reply = subst (λ (o : Option (List ℕ)). Appends (Some []) o (answer_text reply)) of.held from in
        let few : Within reply = omega (arith, body_size reply, small, ap length text) in
        record {
          reply = reply;
          is_reply = is;
          written = same ∙ text;
          read = back reply (reply_is_sendable shelf t t.received reply is few);
        }

    unanswered : (bytes : List ℕ) (at : ℕ) → bytes ≡ of.taken → t.received ≡ received.Torn at → t.went.held ≡ t.came.held → IsUnanswered t bytes
    unanswered bytes at same torn nothing = record { at = at; torn = torn; nothing = same ∙ some_same (sym of.held ∙ nothing ∙ of.empty) }
      where
        some_same : Some of.taken ≡ Some [] → of.taken ≡ []
        some_same h = cc

    -- of a connection that did not fail
    ended : (bytes : List ℕ) → bytes ≡ of.taken → length of.taken < answer_limit → t.went.faults ≡ 0 → (end : ConnectionEnd) → IsEnd Replies (Some shelf) t end → (end ≢ ends.Memory)
        → IsReplied shelf t bytes ⊎ IsUnanswered t bytes
    ended bytes same small none (ends.Answered code) is some = inl (replied bytes is.reply same small is.is_reply is.written)
    ended bytes same small none ends.DiskFault is some = elim is.written [
      | inl wrote ↦ inl (replied bytes (plain 500) same small is.is_reply wrote)
      | inr cut ↦ absurd (not_risen t.came.faults t.went.faults none cut.0)
    ]
    ended bytes same small none (ends.Torn at) is some = inr (unanswered bytes at same is.0 is.1)
    ended bytes same small none ends.ReadFault is some = absurd (not_risen t.came.faults t.went.faults none is.1)
    ended bytes same small none ends.WriteFault is some = absurd (not_risen t.came.faults t.went.faults none is.rose)
    ended bytes same small none ends.Memory is some = absurd (some refl)

    heard_of : (outcome : ExchangeOutcome) → Gives t of.taken outcome → IsHeard shelf t outcome
    heard_of (Answered bytes) gives = ended bytes gives.1 gives.2 gives.0.1 t.end turn.end gives.0.0
    heard_of TooLong gives = tt
    heard_of Failed gives = tt

    heard : IsHeard shelf t e.outcome
    heard = heard_of e.outcome of.gives

    request_received : IsReceived e.request t.received
    request_received = subst (λ (left : Option (List ℕ)). IfSome left (λ bytes. IsReceived bytes t.received)) of.request turn.heard

  -- ---- exchanges

  later_counts : (shelf : Contents) (first : State) (es : List Exchange) (last : State) → Answers (Some shelf) first es last
      → (first.disk_faults ≤ last.disk_faults) × (first.shelf_faults ≤ last.shelf_faults)
  later_counts shelf first [] last same =
      subst (λ (s : State). (first.disk_faults ≤ s.disk_faults) × (first.shelf_faults ≤ s.shelf_faults)) (sym same) (le_refl first.disk_faults, le_refl first.shelf_faults)
  later_counts shelf first (e ∷ es) last (t, begins, turn, of, more) =
      let rest = later_counts shelf t.after es last more in
      subst (λ (s : State). (s.disk_faults ≤ last.disk_faults) × (s.shelf_faults ≤ last.shelf_faults)) begins
      (le_trans turn.disk_count rest.0, le_trans turn.shelf_count rest.1)

  quiet_in : (t : Turn) (last : State) → (t.after.disk_faults ≤ last.disk_faults) × (t.after.shelf_faults ≤ last.shelf_faults) → OutsideRose t → AnyCountRose t.before last
  quiet_in t last later (inl rose) = inl (rose_later t.before.disk_faults t.after.disk_faults last.disk_faults later.0 rose)
  quiet_in t last later (inr rose) = inr (rose_later t.before.shelf_faults t.after.shelf_faults last.shelf_faults later.1 rose)

  all_answered : RepliesReadBack → (shelf : Contents) (first : State) (es : List Exchange) (last : State) → Answers (Some shelf) first es last → AreAnswered shelf first es last
  all_answered back shelf first [] last same = same
  all_answered back shelf first (e ∷ es) last (t, begins, turn, of, more) = (
    t,
    begins,
    record {
      turn = turn;
      exchange = of;
      received = request_received back shelf t e turn of;
      heard = heard back shelf t e turn of;
      quiet = quiet_in t last (later_counts shelf t.after es last more);
    },
    all_answered back shelf t.after es last more,
  )

  pub links_are_heard : RepliesReadBack → {D F : Type 0} (d : disks.Ghosts D) (f : shelves.Ghosts F) → LinksAreHeard d f
  links_are_heard back {D} {F} d f old new shelf becomes holds =
      all_answered back shelf (state_of d f old) becomes.more (state_of d f new)
      (subst (λ (o : Option Contents). Answers o (state_of d f old) becomes.more (state_of d f new)) holds becomes.answers)

-- ---- requests that read back

module _ (back : RequestsReadBack) (stay : RequestAnswersStay) (shelf : Contents) (t : Turn) (message : Request) (host : List ℕ) (can : IsSendable message host) where
  alone : (x : Result (Option Request) FrameError) → RequestAnswer (request_text message host) x → x ≡ Ok (Some (sent message host))
  alone x answer = (back message host can).alone x answer

  -- it is received whole
  not_open : AwaitsRest (request_text message host) → ⊥
  not_open awaits = cc (alone (Ok None) awaits)

  not_refused : (e : FrameError) → IsRefusal e → IsRefused (request_text message host) e → ⊥
  not_refused e refusal (front, rest, is, refuses) =
      let known : e ≢ frames.Memory = λ same. subst IsRefusal same refusal in
      let whole : RequestAnswer (request_text message host) (Err e) =
      subst (λ (l : List ℕ). RequestAnswer l (Err e)) (sym is) (stay front rest (Err e) (λ same. cc same) (known, refuses)) in
      cc (alone (Err e) whole)

  abbrev IsTo : List ℕ → Type 0
  IsTo bytes = IsRepliedTo shelf t (sent message host) bytes

  replied_to : (bytes : List ℕ) (got : Received) (reply : Reply) → IsReceived (request_text message host) got → IsReply Replies (Some shelf) t got reply
      → bytes ≡ answer_text reply → ReplyIsReadBack reply → IsTo bytes
  replied_to bytes (received.Request request) reply came is written read =
      let same : request ≡ sent message host = cc (alone (Ok (Some request)) came) in
      record {
        reply = reply;
        replies = subst (λ (r : Request). Replies t.before.store shelf r (OutsideRose t) reply t.after.store.rows) same (is.table shelf refl);
        written = written;
        read = read;
      }
  replied_to bytes (received.Refused e) reply came is written read = absurd (not_refused e is.0 came)
  replied_to bytes (received.Torn at) reply came is written read = absurd is
  replied_to bytes received.ReadFault reply came is written read = absurd is
  replied_to bytes received.Memory reply came is written read = absurd is

  answered_to : (bytes : List ℕ) → IsReceived (request_text message host) t.received → IsReplied shelf t bytes ⊎ IsUnanswered t bytes → IsTo bytes
  answered_to bytes came (inl replied) = replied_to bytes t.received replied.reply came replied.is_reply replied.written replied.read
  answered_to bytes came (inr none) =
      let torn : IsReceived (request_text message host) (received.Torn none.at) = subst (IsReceived (request_text message host)) none.torn came in
      absurd (not_open torn.0)

pub sendable_are_replied : RequestsReadBack → RequestAnswersStay → SendableAreReplied
sendable_are_replied back stay shelf t e last message host bytes one asks can answered =
    answered_to back stay shelf t message host can bytes (subst (λ (l : List ℕ). IsReceived l t.received) asks one.received)
    (subst (IsHeard shelf t) answered one.heard)
