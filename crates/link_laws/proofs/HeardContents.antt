-- A content that is heard over a link to a pull server is what its shelf has.
use Rattle.std.proofs.Common.{◌≡◌, inl, inr, ℕ, zero, suc, Bool, true, false, List, [], ◌∷◌, length, Option, Some, None, Result, Ok, Err, refl, sym, ◌∙◌, ap, subst, arith, codes, if◌then◌else◌}
use Rattle.std.specs.Prelude.{Contains, encode_utf8_all}
use Rattle.std.proofs.lemmas.Bool.{false≢true}
use Rattle.std.proofs.lemmas.List.Sums.{AllPass-from_list_all}
use Rattle.std.proofs.lemmas.Option.{same_Some}
use Rattle.dsc_outside.specs.declared.disk.Disk as disks
use Rattle.dsc_outside.specs.declared.exchange.Exchange.{Exchange}
use Rattle.dsc_outside.specs.declared.exchange.ExchangeOutcome.{ExchangeOutcome}
use Rattle.dsc_outside.specs.declared.exchange.ExchangeOutcome.TheVariants as outcomes
use Rattle.http_frames.specs.declared.frame_error.FrameError.{FrameError}
use Rattle.http_frames.specs.declared.frame_error.FrameError.TheVariants as frames
use Rattle.http_frames.specs.declared.message.Reply.{Reply}
use Rattle.http_frames.specs.declared.message.Request.{Request}
use Rattle.http_frames.specs.Frames.{BeginsWithRequest, IsAnswerFrame}
use Rattle.http_frames.specs.ReadBack.{ReplyIsReadBack, RequestIsReadBack, RequestsReadBack}
use Rattle.http_frames.specs.Headers.{has_named}
use Rattle.http_frames.specs.Sending.{IsSendable, sent, sent_reply}
use Rattle.http_frames.specs.Writing.{answer_text, request_text}
use Rattle.meta_config.specs.declared.server.Server.{Server}
use Rattle.partial_merge.specs.declared.part.Part.{Part}
use Rattle.pull_messages.specs.declared.target_kinds.Target.{Target}
use Rattle.pull_messages.specs.declared.target_kinds.Target.TheVariants.{Node, Action, Content, Module, SendReport}
use Rattle.pull_messages.specs.Targets.{IsTarget}
use Rattle.pull_messages.specs.TargetText.{target_text}
use Rattle.pull_messages.proofs.OneTarget.{one_target}
use Rattle.pull_messages.proofs.WrittenTargets.{written_target}
use Rattle.pull_client.specs.declared.error.PeerError.{PeerError}
use Rattle.pull_client.specs.Content.{GivesBody, GivesPart, IsPartOf, checked_body, content_of}
use Rattle.pull_client.specs.Requests.{host_text}
use Rattle.pull_client.specs.Heard.{Heard, accepted, link_failed, no_answer, no_memory, not_accepted, too_long}
use Rattle.pull_outside.specs.Shelf.{Contents, configuration_of, package_of}
use Rattle.pull_outside.specs.declared.shelf.Shelf as shelves
use Rattle.pull_store.specs.declared.row.Row.{Row}
use Rattle.pull_store.specs.Store.{StoreTerm}
use Rattle.pull_exchange.specs.declared.exchange.Received.{Received}
use Rattle.pull_exchange.specs.declared.exchange.Received.TheVariants as received
use Rattle.pull_exchange.specs.Exchange.{IsReceived, refusal_of}
use Rattle.pull_server.specs.Answers.{Pulled, Replies, by_table, failed, reply_of}
use Rattle.pull_server.specs.Asked.{IsAim, asked, target_in}
use Rattle.pull_server.specs.Contents.{has_name}
use Rattle.pull_server.specs.Replies.{content_reply, plain}
use Rattle.pull_server.specs.SentReplies.{ChecksumsAreOfItems, IsItem as TableItem}
use Rattle.pull_server.specs.Table.{item_for, names}
use Rattle.pull_serving.specs.Heard.{AreAnswered, IsAnsweredIn, IsHeard, IsReplied, LinksAreHeard}
use Rattle.pull_serving.specs.ServerLink.{state_of}
use Rattle.pull_serving.specs.Turn.{IsReply, OutsideRose, State, Turn}
use Rattle.link_laws.specs.ShelfContents.{AreOfShelf, AsksFor, AsksForContent, AsksForPackage, ContentsAreOfTheShelf, IsGivenIn, IsItem}
use Rattle.link_laws.proofs.SendableContents.{Graphic, host_is_graphic, is_graphic, target_is_sendable, target_message}
use Rattle.link_laws.proofs.SentContents.{checked_is_body, content_is_checked, no_answer_in_nothing, unsummed_is_not_checked}

-- ---- what is taken of an outcome

-- the text of a reply is read as that reply alone
read_alone : (reply frame : Reply) → ReplyIsReadBack reply → IsAnswerFrame (answer_text reply) frame → frame ≡ sent_reply reply
read_alone reply frame back is = cc (back.alone (Ok frame) is)

-- and so is the text of a request
sent_alone : (message request : Request) (host : List ℕ) → RequestIsReadBack message host → BeginsWithRequest (request_text message host) request → request ≡ sent message host
sent_alone message request host back begins = cc (back.alone (Ok (Some request)) begins)

-- a value that is taken of an outcome is what a reply says that the bytes are read as
abbrev Takes : {T : Type 0} → (Reply → Result T PeerError → Type 0) → ExchangeOutcome → Result T PeerError → Type 0
Takes says outcome (Err e) = Unit {0}
Takes says outcomes.Failed (Ok value) = ⊥
Takes says outcomes.TooLong (Ok value) = ⊥
Takes says (outcomes.Answered bytes) (Ok value) = (reply : Reply) × IsAnswerFrame bytes reply × says reply (Ok value)

taken_of : {T : Type 0} {says : Reply → Result T PeerError → Type 0} (outcome : ExchangeOutcome) (result : Result T PeerError) → Heard says outcome result → Takes says outcome result
taken_of outcome result link_failed = tt
taken_of outcome result too_long = tt
taken_of outcome result (no_answer bytes e refused) = tt
taken_of outcome result (not_accepted bytes reply frame code) = tt
taken_of {T} {says} outcome result (accepted bytes reply given frame code said) = by given said
  where
    by : (r : Result T PeerError) → says reply r → Takes says (outcomes.Answered bytes) r
    by (Ok value) said = (reply, frame, said)
    by (Err e) said = tt
taken_of outcome result (no_memory other) = tt

-- a content is the body of the reply, under the digest that is announced in it
part_taken : (name : List ℕ) (content : Result (List ℕ) PeerError) (part : Part) → IsPartOf name content (Ok part) → content ≡ Ok part.bytes
part_taken name (Ok content) part is = ap (λ (b : List ℕ). Ok b) (sym is.1)
part_taken name (Err e) part is = absurd (cc is)

part_says : (name : List ℕ) (part : Part) (reply : Reply) → GivesPart name reply (Ok part) → checked_body reply ≡ Ok part.bytes
part_says name part reply says = content_is_checked reply part.bytes (part_taken name (content_of reply) part says)

-- ---- what the shelf has

if_named : (there : Bool) (found : Option (List ℕ)) (bytes : List ℕ) → (if there then found else None) ≡ Some bytes → found ≡ Some bytes
if_named true found bytes is = is
if_named false found bytes is = absurd (cc is)

item_on_shelf : (shelf : Contents) (own : List (List ℕ)) (target : Target) (bytes : List ℕ) → item_for shelf own target ≡ Some bytes → IsItem shelf bytes
item_on_shelf shelf own (Node agent) bytes is = absurd (cc is)
item_on_shelf shelf own (Action agent) bytes is = absurd (cc is)
item_on_shelf shelf own (SendReport agent) bytes is = absurd (cc is)
item_on_shelf shelf own (Content agent name) bytes is =
    inl (encode_utf8_all name, if_named (has_name name own) (configuration_of (encode_utf8_all name) shelf) bytes is)
item_on_shelf shelf own (Module name version) bytes is = inr (encode_utf8_all name, encode_utf8_all version, is)

-- ---- replies

abbrev is_summed : Reply → Bool
is_summed reply = has_named (codes "Checksum") reply.headers

refusal_unsummed : (e : FrameError) → is_summed (refusal_of e) ≡ false
refusal_unsummed frames.Head = refl
refusal_unsummed frames.HeadTooLong = refl
refusal_unsummed frames.Coding = refl
refusal_unsummed frames.Length = refl
refusal_unsummed frames.NoLength = refl
refusal_unsummed frames.BodyTooLong = refl
refusal_unsummed (frames.Chunk at) = refl
refusal_unsummed (frames.Torn at) = refl
refusal_unsummed frames.Memory = refl

unlike : (reply other : Reply) → reply ≡ other → is_summed other ≡ false → is_summed reply ≡ true → ⊥
unlike reply other same none summed = false≢true (sym none ∙ sym (ap is_summed same) ∙ summed)

body_of_content : (content : List ℕ) → (content_reply content).body ≡ content
unfolding content_reply
body_of_content content = refl

-- the target that a text was read as
aimed_at : (text : List ℕ) (aim : Result Target ℕ) (target : Target) → target_in aim ≡ Some target → IsAim text aim → IsTarget text target
aimed_at text (Ok other) target is aimed = subst (IsTarget text) (same_Some other target is) aimed
aimed_at text (Err at) target is aimed = absurd (cc is)

-- the reply is that of an item of the shelf, which the request aims at
record IsOfShelf (shelf : Contents) (got : Received) (reply : Reply) : Type 0 where
  request : Request
  received_is : got ≡ received.Request request
  target : Target
  aimed : IsTarget request.target target
  own : List (List ℕ)
  bytes : List ℕ
  there : item_for shelf own target ≡ Some bytes
  is : reply ≡ content_reply bytes

item_aimed_at : (store : StoreTerm) (shelf : Contents) (request : Request) (aim : Result Target ℕ) (reply : Reply) → IsAim request.target aim
    → TableItem (asked store shelf request aim) reply → IsOfShelf shelf (received.Request request) reply
unfolding asked
item_aimed_at store shelf request aim reply is_aim one = record {
  request = request;
  received_is = refl;
  target = one.target;
  aimed = aimed_at request.target aim one.target one.is_target is_aim;
  own = names (asked store shelf request aim);
  bytes = one.content;
  there = one.is_there;
  is = one.is;
}

-- the request for what a target names is sendable
asked_is_sendable : (server : Server) (target : Target) (e : Exchange) → AsksFor server target e → IsSendable (target_message server.prefix target) (host_text server.peer)
asked_is_sendable server target e asks =
    let path : Graphic server.prefix = subst Graphic (sym asks.path) (AllPass-from_list_all is_graphic (codes "/PSDSCPullServer.svc") refl) in
    let long : length server.prefix ≡ 20 = ap length asks.path in
    target_is_sendable server.peer.host server.prefix server.peer.port target (host_is_graphic server.peer.host asks.host) path asks.short (omega (arith, long)) asks.port
    asks.ranges asks.values

module _ (items : ChecksumsAreOfItems) (shelf : Contents) where
  pulled_of_shelf : (store : StoreTerm) (request : Request) (aim : Result Target ℕ) (rose : Type 0) (reply : Reply) (rows : List Row) → IsAim request.target aim
      → Pulled store shelf request aim rose reply rows → is_summed reply ≡ true → IsOfShelf shelf (received.Request request) reply
  pulled_of_shelf store request aim rose reply rows is_aim (by_table outcome is same after) summed =
      subst (IsOfShelf shelf (received.Request request)) (sym same)
      (item_aimed_at store shelf request aim (reply_of outcome) is_aim
      (items (asked store shelf request aim) outcome is (subst (λ (r : Reply). is_summed r ≡ true) same summed)))
  pulled_of_shelf store request aim rose reply rows is_aim (failed risen same kept) summed = absurd (unlike reply (plain 500) same refl summed)

  reply_of_shelf : (t : Turn) (got : Received) (reply : Reply) → IsReply Replies (Some shelf) t got reply → is_summed reply ≡ true → IsOfShelf shelf got reply
  reply_of_shelf t (received.Request request) reply is summed =
      let replies = is.table shelf refl in
      pulled_of_shelf t.before.store request replies.aim (OutsideRose t) reply t.after.store.rows replies.is_aim replies.pulled summed
  reply_of_shelf t (received.Refused e) reply is summed = absurd (unlike reply (refusal_of e) is.1 (refusal_unsummed e) summed)
  reply_of_shelf t (received.Torn at) reply is summed = absurd is
  reply_of_shelf t received.ReadFault reply is summed = absurd is
  reply_of_shelf t received.Memory reply is summed = absurd is

  -- ---- one exchange

  given_as : (text content bytes : List ℕ) (reply : Reply) → text ≡ answer_text reply → reply ≡ content_reply content → content ≡ bytes
      → outcomes.Answered text ≡ outcomes.Answered (answer_text (content_reply bytes))
  given_as text content bytes reply written is same = ap (λ (b : List ℕ). outcomes.Answered b) (written ∙ ap answer_text (is ∙ ap content_reply same))

  -- what a request that asks for what a target names is read as
  module _ (back : RequestsReadBack) (e : Exchange) (server : Server) (wanted : Target) (asks : AsksFor server wanted e) where
    abbrev Sent : Request
    Sent = sent (target_message server.prefix wanted) (host_text server.peer)

    read_as : (request : Request) → BeginsWithRequest e.request request → request ≡ Sent
    read_as request begins =
        let message = target_message server.prefix wanted in
        let host = host_text server.peer in
        sent_alone message request host (back message host (asked_is_sendable server wanted e asks)) (subst (λ (b : List ℕ). BeginsWithRequest b request) asks.request begins)

    target_is : (request : Request) (target : Target) → BeginsWithRequest e.request request → IsTarget request.target target → target ≡ wanted
    target_is request target begins aimed =
        let text : request.target ≡ target_text (codes "/PSDSCPullServer.svc") wanted =
        ap (λ (r : Request). r.target) (read_as request begins) ∙ ap (λ (prefix : List ℕ). target_text prefix wanted) asks.path in
        one_target (target_text (codes "/PSDSCPullServer.svc") wanted) target wanted
        (subst (λ (l : List ℕ). IsTarget l target) text aimed) (written_target wanted asks.ranges asks.values)

    -- so the reply is of the item that the target names
    item_is : (got : Received) (reply : Reply) (bytes : List ℕ) → IsReceived e.request got → (of : IsOfShelf shelf got reply) → of.bytes ≡ bytes → item_for shelf of.own wanted ≡ Some bytes
    item_is got reply bytes came of same =
        let begins : BeginsWithRequest e.request of.request = subst (IsReceived e.request) of.received_is came in
        subst (λ (target : Target). item_for shelf of.own target ≡ Some of.bytes) (target_is of.request of.target begins of.aimed) of.there
        ∙ ap (λ (b : List ℕ). Some b) same

  named_of : RequestsReadBack → (e : Exchange) (server : Server) (agent : ℕ) (name : List ℕ) → AsksForContent server agent name e → (got : Received) (reply : Reply) (bytes : List ℕ)
      → IsReceived e.request got → (of : IsOfShelf shelf got reply) → of.bytes ≡ bytes → configuration_of (encode_utf8_all name) shelf ≡ Some bytes
  named_of back e server agent name asks got reply bytes came of same =
      if_named (has_name name of.own) (configuration_of (encode_utf8_all name) shelf) bytes (item_is back e server (Content agent name) asks got reply bytes came of same)

  -- the answer says that its body, under its digest, is this
  module _ (back : RequestsReadBack) {T : Type 0} (Says : Reply → Result T PeerError → Type 0) (value : T) (bytes : List ℕ)
      (checked : (reply : Reply) → Says reply (Ok value) → checked_body reply ≡ Ok bytes) where
    -- of an outcome of this exchange
    record Given (e : Exchange) (outcome : ExchangeOutcome) : Type 0 where
      item : IsItem shelf bytes
      given : outcome ≡ outcomes.Answered (answer_text (content_reply bytes))
      named : (server : Server) (agent : ℕ) (name : List ℕ) → AsksForContent server agent name e → configuration_of (encode_utf8_all name) shelf ≡ Some bytes
      packaged : (server : Server) (name version : List ℕ) → AsksForPackage server name version e
          → package_of (encode_utf8_all name) (encode_utf8_all version) shelf ≡ Some bytes

    replied_of_shelf : (t : Turn) (e : Exchange) (text : List ℕ) → IsReceived e.request t.received → IsReplied shelf t text → Takes Says (outcomes.Answered text) (Ok value)
        → Given e (outcomes.Answered text)
    replied_of_shelf t e text came replied (frame, is_frame, says) = by (is_summed replied.reply) refl
      where
        same_frame : frame ≡ sent_reply replied.reply
        same_frame = read_alone replied.reply frame replied.read (subst (λ (b : List ℕ). IsAnswerFrame b frame) replied.written is_frame)

        body_is : checked_body (sent_reply replied.reply) ≡ Ok bytes
        body_is = ap checked_body (sym same_frame) ∙ checked frame says

        by : (summed : Bool) → is_summed replied.reply ≡ summed → Given e (outcomes.Answered text)
        by false is = absurd (unsummed_is_not_checked replied.reply bytes is body_is)
        by true is =
            let of = reply_of_shelf t t.received replied.reply replied.is_reply is in
            let body : bytes ≡ replied.reply.body = checked_is_body (sent_reply replied.reply) bytes body_is in
            let same : of.bytes ≡ bytes = sym (body_of_content of.bytes) ∙ sym (ap (λ (r : Reply). r.body) of.is) ∙ sym body in
            record {
              item = subst (IsItem shelf) same (item_on_shelf shelf of.own of.target of.bytes of.there);
              given = given_as text of.bytes bytes replied.reply replied.written of.is same;
              named = λ server agent name asks. named_of back e server agent name asks t.received replied.reply bytes came of same;
              packaged = λ server name version asks. item_is back e server (Module name version) asks t.received replied.reply bytes came of same;
            }

    nothing_taken : (text : List ℕ) → text ≡ [] → Takes Says (outcomes.Answered text) (Ok value) → ⊥
    nothing_taken text empty taken = no_answer_in_nothing taken.0 (subst (λ (b : List ℕ). IsAnswerFrame b taken.0) empty taken.1)

    heard_of_shelf : (t : Turn) (e : Exchange) (outcome : ExchangeOutcome) → IsReceived e.request t.received → IsHeard shelf t outcome → Takes Says outcome (Ok value) → Given e outcome
    heard_of_shelf t e (outcomes.Answered text) came (inl replied) taken = replied_of_shelf t e text came replied taken
    heard_of_shelf t e (outcomes.Answered text) came (inr unanswered) taken = absurd (nothing_taken text unanswered.nothing taken)
    heard_of_shelf t e outcomes.TooLong came heard taken = absurd taken
    heard_of_shelf t e outcomes.Failed came heard taken = absurd taken

    given_in : (t : Turn) (e : Exchange) (last : State) → IsAnsweredIn shelf t e last → Heard Says e.outcome (Ok value) → IsGivenIn shelf e bytes
    given_in t e last one says =
        let given = heard_of_shelf t e e.outcome one.received one.heard (taken_of e.outcome (Ok value) says) in
        record { item = given.item; given = given.given; named = given.named; packaged = given.packaged }

  exchange_of_shelf : RequestsReadBack → (t : Turn) (e : Exchange) (last : State) → IsAnsweredIn shelf t e last → AreOfShelf shelf e
  exchange_of_shelf back t e last one = record {
    parts = λ name part heard. given_in back (GivesPart name) part part.bytes (part_says name part) t e last one heard;
    packages = λ bytes heard. given_in back GivesBody bytes bytes (λ reply says. sym says) t e last one heard;
  }

  -- ---- exchanges

  exchanges_of_shelf : RequestsReadBack → (first : State) (es : List Exchange) (last : State) → AreAnswered shelf first es last → (e : Exchange) → Contains es e → AreOfShelf shelf e
  exchanges_of_shelf back first [] last answered e (k, below, is) = absurd (omega (arith, below))
  exchanges_of_shelf back first (x ∷ es) last (t, begins, one, more) e (zero, below, is) = subst (AreOfShelf shelf) is (exchange_of_shelf back t x last one)
  exchanges_of_shelf back first (x ∷ es) last (t, begins, one, more) e (suc k, below, is) = exchanges_of_shelf back t.after es last more e (k, omega (arith, below), is)

pub contents_of_shelf : ChecksumsAreOfItems → RequestsReadBack → {D F : Type 0} (d : disks.Ghosts D) (f : shelves.Ghosts F) → LinksAreHeard d f → ContentsAreOfTheShelf d f
contents_of_shelf items back d f heard old new shelf becomes holds e among =
    exchanges_of_shelf items shelf back (state_of d f old) becomes.more (state_of d f new) (heard old new shelf becomes holds) e among
