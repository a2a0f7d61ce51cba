-- What a request comes to, by the rows of the table.
use Rattle.std.proofs.Common.{◌≡◌, inl, inr, ℕ, ◌==◌, Bool, true, false, List, [], codes, option_map, IfOk, Option, Some, None, Result, Ok, Err, refl, sym, ◌∙◌, ap}
use Rattle.std.specs.Global.{Vec}
use Rattle.std.proofs.lemmas.Bool.{eq-eqb, false≢true}
use Rattle.dsc_terms.specs.Counts.{Rose}
use Rattle.dsc_outside.specs.Causes.{HasCauseOf}
use Rattle.mof_values.specs.declared.memory.Memory.{Memory}
use Rattle.http_frames.specs.declared.message.Request.{Request}
use Rattle.http_frames.specs.declared.message.Reply.{Reply}
use Rattle.http_frames.specs.Replies.{saying}
use Rattle.pull_messages.specs.declared.target_kinds.Target.{Target}
use Rattle.pull_messages.specs.declared.target_kinds.Target.TheVariants.{Node, Action, SendReport}
use Rattle.pull_messages.specs.declared.error.MessageError.{MessageError}
use Rattle.pull_messages.specs.declared.query.ActionQuery.{ActionQuery}
use Rattle.pull_messages.specs.declared.registration.Registration.{Registration}
use Rattle.pull_messages.specs.declared.report.ReportMessage.{ReportMessage}
use Rattle.pull_store.specs.declared.change.Change.{Change}
use Rattle.pull_store.specs.declared.change.Change.TheVariants.{Register, Report}
use Rattle.pull_store.specs.declared.row.Row.{Row}
use Rattle.pull_store.specs.Rows.{row_of}
use Rattle.pull_store.specs.Store.{StoreTerm, is_spent}
use Rattle.pull_outside.specs.declared.shelf.ShelfError.{ShelfError}
use Rattle.pull_outside.specs.declared.shelf.ShelfError.TheVariants as errors
use Rattle.pull_outside.specs.Shelf.{Contents}
use Rattle.pull_messages.specs.Writing.{action_text}
use Rattle.pull_server.specs.Actions.{action_for, asks_unnamed}
use Rattle.pull_server.specs.Answers.{by_table, failed, is_done}
use Rattle.pull_server.specs.Asked.{asked}
use Rattle.pull_server.specs.Judging.{IsPastHead, IsSaid, ItemReply, QueryReply, unnamed, was_spent, query_failed, answered, change_asked, past_outcome}
use Rattle.pull_server.specs.Messages.{fault_text, query_in, registration_in, report_in}
use Rattle.pull_server.specs.Own.{is_shared}
use Rattle.pull_server.specs.Replies.{content_reply, message_reply, plain}
use Rattle.pull_server.specs.Table.{Outcome, leaves, outcome_of, says}
use Rattle.pull_server.proofs.Rows.{unnamed_query, spent_query, told_query, bad_query}

pub never : {X : Type 0} (b : Bool) → b ≡ true → b ≡ false → X
never b yes_is no_is = absurd (false≢true (sym no_is ∙ yes_is))

module _ (store : StoreTerm) (request : Request) (aim : Result Target ℕ) (holds : Option Contents) (rose : Type 0) where
  -- a refusal of the table
  pub refuses : (reply : Reply) (code : ℕ) (body : List ℕ) → reply ≡ saying code body → is_done code ≡ false → is_shared code ≡ false
      → ((shelf : Contents) → holds ≡ Some shelf → outcome_of (asked store shelf request aim) ≡ Some (says code body)) → IsSaid store request aim holds rose reply
  refuses reply code body is undone other row = record {
    pulled = λ shelf told. by_table (says code body) (row shelf told) is refl;
    nothing = λ done. never (is_done code) (sym (ap (λ (r : Reply). is_done r.code) is) ∙ done) undone;
    cause = λ fault. never (is_shared code) (sym (ap (λ (r : Reply). is_shared r.code) is) ∙ ap is_shared fault) other;
    own = λ shared. never (is_shared code) (sym (ap (λ (r : Reply). is_shared r.code) is) ∙ shared) other;
  }

  -- a count rose
  pub fails : (reply : Reply) → reply ≡ plain 500 → rose → IsSaid store request aim holds rose reply
  fails reply is rises = record {
    pulled = λ shelf told. failed rises is refl;
    nothing = λ done. never (is_done 500) (sym (ap (λ (r : Reply). is_done r.code) is) ∙ done) refl;
    cause = λ fault. inl rises;
    own = λ shared. ap (λ (r : Reply). r.code) is;
  }

  -- the store is spent
  pub is_over : (reply : Reply) → reply ≡ plain 500 → is_spent store ≡ true
      → ((shelf : Contents) → holds ≡ Some shelf → outcome_of (asked store shelf request aim) ≡ Some (says 500 [])) → IsSaid store request aim holds rose reply
  is_over reply is spent row = record {
    pulled = λ shelf told. by_table (says 500 []) (row shelf told) is refl;
    nothing = λ done. never (is_done 500) (sym (ap (λ (r : Reply). is_done r.code) is) ∙ done) refl;
    cause = λ fault. inr spent;
    own = λ shared. ap (λ (r : Reply). r.code) is;
  }

  -- what is answered asks for no change
  pub tells : (reply : Reply) → reply.code ≡ 200 → change_asked request aim ≡ None
      → ((shelf : Contents) → holds ≡ Some shelf → outcome_of (asked store shelf request aim) ≡ Some (leaves reply)) → IsSaid store request aim holds rose reply
  tells reply is none row = record {
    pulled = λ shelf told. by_table (leaves reply) (row shelf told) refl refl;
    nothing = λ done. none;
    cause = λ fault. never (200 == 500) (eq-eqb 200 500 (sym is ∙ fault)) refl;
    own = λ shared. never (is_shared 200) (sym (ap is_shared is) ∙ shared) refl;
  }

abbrev told_by : Reply → Option Outcome
told_by reply = Some (leaves reply)

-- ---- what is asked

pub asks_registration : (request : Request) (agent : ℕ) (r : Registration) → registration_in request.body ≡ Ok r → change_asked request (Ok (Node agent)) ≡ Some (Register agent r)
asks_registration request agent r is = rw is refl

pub asks_report : (request : Request) (agent : ℕ) (r : ReportMessage) → report_in request.body ≡ Ok r → change_asked request (Ok (SendReport agent)) ≡ Some (Report agent r.job request.body)
asks_report request agent r is = rw is refl

-- a report that is to be kept
abbrev pub reported_change : ℕ → ℕ → List ℕ → Option Change
reported_change agent job body = Some (Report agent job body)

-- ---- queries

module _ (store : StoreTerm) (request : Request) (agent : ℕ) (row : Row) (holds : Option Contents) (rose : Type 0)
    (past : IsPastHead store request (Action agent)) (has : row_of agent store.rows ≡ Some row) where
  pub query_said : (q : ActionQuery) (reply : Reply) → query_in request.body ≡ Ok q → QueryReply (is_spent store) row.registration.names q holds rose reply
      → IsSaid store request (Ok (Action agent)) holds rose reply
  query_said q reply read (unnamed nameless is) = refuses store request (Ok (Action agent)) holds rose reply 400 (codes "wrong ConfigurationName") is refl refl
      (λ shelf told. past shelf ∙ unnamed_query store shelf request agent row q has read nameless)
  query_said q reply read (was_spent named spent is) = is_over store request (Ok (Action agent)) holds rose reply is spent
      (λ shelf told. past shelf ∙ spent_query store shelf request agent row q has read named spent)
  query_said q reply read (query_failed rises is) = fails store request (Ok (Action agent)) holds rose reply is rises
  query_said q reply read (answered named unspent code is) = tells store request (Ok (Action agent)) holds rose reply code refl
      (λ shelf told. past shelf ∙ told_query store shelf request agent row q has read named unspent ∙ ap told_by (sym (is shelf told)))

  pub query_refused : (e : MessageError) (reply : Reply) → query_in request.body ≡ Err e → reply ≡ saying 400 (fault_text e) → IsSaid store request (Ok (Action agent)) holds rose reply
  query_refused e reply bad is = refuses store request (Ok (Action agent)) holds rose reply 400 (fault_text e) is refl refl
      (λ shelf told. past shelf ∙ bad_query store shelf request agent row e has bad)

message_is_200 : (body : List ℕ) → (message_reply body).code ≡ 200
unfolding message_reply
message_is_200 body = refl

pub query_told : (over : Bool) (names : List (List ℕ)) (q : ActionQuery) (holds : Option Contents) (rose : Type 0) (body : List ℕ) (r : Result Reply Memory)
    → asks_unnamed names q ≡ false → over ≡ false → ((shelf : Contents) → holds ≡ Some shelf → body ≡ action_text (action_for shelf names q))
    → IfOk r (λ reply. reply ≡ message_reply body) → IfOk r (QueryReply over names q holds rose)
query_told over names q holds rose body (Ok reply) named fresh text is =
    answered named fresh (ap (λ (m : Reply). m.code) is ∙ message_is_200 body) (λ shelf told. is ∙ ap message_reply (text shelf told))
query_told over names q holds rose body (Err e) named fresh text is = tt

-- ---- what is fetched

two_hundred : (bytes : List ℕ) → (content_reply bytes).code ≡ 200
unfolding content_reply
two_hundred bytes = refl

abbrev pub Shown : Option (Vec ℕ) → Option (List ℕ)
Shown found = option_map (λ v. v.items) found

module _ (store : StoreTerm) (request : Request) (target : Target) (holds : Option Contents) (before now : ℕ)
    (past : IsPastHead store request target) (none : change_asked request (Ok target) ≡ None) (item : Contents → Option (List ℕ))
    (missing : (shelf : Contents) → item shelf ≡ None → past_outcome (asked store shelf request (Ok target)) ≡ Some (says 404 []))
    (over : (shelf : Contents) (bytes : List ℕ) → item shelf ≡ Some bytes → is_spent store ≡ true → past_outcome (asked store shelf request (Ok target)) ≡ Some (says 500 []))
    (there : (shelf : Contents) (bytes : List ℕ) → item shelf ≡ Some bytes → is_spent store ≡ false
    → past_outcome (asked store shelf request (Ok target)) ≡ Some (leaves (content_reply bytes))) where
  pub item_said : (spent : Bool) (found : Result (Option (Vec ℕ)) ShelfError) (reply : Reply) → is_spent store ≡ spent
      → IfOk found (λ f. (shelf : Contents) → holds ≡ Some shelf → Shown f ≡ item shelf) → HasCauseOf errors.Failed before now found → ItemReply spent found reply
      → IsSaid store request (Ok target) holds (Rose before now) reply
  item_said spent (Ok None) reply state finds cause is = refuses store request (Ok target) holds (Rose before now) reply 404 [] is refl refl
      (λ shelf told. past shelf ∙ missing shelf (sym (finds shelf told)))
  item_said true (Ok (Some bytes)) reply state finds cause is = is_over store request (Ok target) holds (Rose before now) reply is state
      (λ shelf told. past shelf ∙ over shelf bytes.items (sym (finds shelf told)) state)
  item_said false (Ok (Some bytes)) reply state finds cause is = tells store request (Ok target) holds (Rose before now) reply
      (ap (λ (r : Reply). r.code) is ∙ two_hundred bytes.items) none
      (λ shelf told. past shelf ∙ there shelf bytes.items (sym (finds shelf told)) state ∙ ap told_by (sym is))
  item_said spent (Err errors.Failed) reply state finds cause is = fails store request (Ok target) holds (Rose before now) reply is (cause.failed refl)
  item_said spent (Err errors.Memory) reply state finds cause is = absurd is
