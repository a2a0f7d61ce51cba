-- The rows of the table, for each kind of target.
use Rattle.std.proofs.Common.{◌≡◌, ℕ, true, false, bytes_eq, codes, is_none, List, [], ◌++◌, Some, None, Result, Ok, Err, refl, encode_utf8_all}
use Rattle.std.specs.Fmt.{decimal}
use Rattle.http_frames.specs.Headers.{all_named}
use Rattle.http_frames.specs.declared.message.Request.{Request}
use Rattle.pull_messages.specs.declared.error.MessageError.{MessageError}
use Rattle.pull_messages.specs.declared.target_kinds.Target.{Target}
use Rattle.pull_messages.specs.declared.target_kinds.Target.TheVariants.{Node, Action, Content, Module, SendReport}
use Rattle.pull_messages.specs.declared.registration.Registration.{Registration}
use Rattle.pull_messages.specs.declared.query.ActionQuery.{ActionQuery}
use Rattle.pull_messages.specs.declared.report.ReportMessage.{ReportMessage}
use Rattle.pull_messages.specs.Writing.{action_text}
use Rattle.pull_store.specs.declared.row.Row.{Row}
use Rattle.pull_store.specs.Rows.{row_of}
use Rattle.pull_store.specs.Store.{StoreTerm, is_spent}
use Rattle.pull_outside.specs.Shelf.{Contents, package_of}
use Rattle.pull_server.specs.Actions.{action_for, asks_unnamed}
use Rattle.pull_server.specs.Asked.{asked, method_of}
use Rattle.pull_server.specs.Contents.{content_for}
use Rattle.pull_server.specs.Judging.{kept_outcome, past_outcome}
use Rattle.pull_server.specs.Messages.{fault_text, query_in, registration_in, report_in}
use Rattle.pull_server.specs.Replies.{content_reply, message_reply}
use Rattle.pull_server.specs.Signed.{is_signed}
use Rattle.pull_server.specs.Table.{is_known, is_version, leaves, outcome_of, says}

-- ---- the head of the request

module _ (store : StoreTerm) (shelf : Contents) (request : Request) where
  pub unknown : (aim : Result Target ℕ) → is_known request.method ≡ false → outcome_of (asked store shelf request aim) ≡ Some (says 501 [])
  unfolding outcome_of asked
  unknown aim is = rw is refl

  pub astray : (at : ℕ) → is_known request.method ≡ true → outcome_of (asked store shelf request (Err at)) ≡ Some (says 400 (codes "target " ++ decimal at))
  unfolding outcome_of asked
  astray at is = rw is refl

  pub other_method : (t : Target) → is_known request.method ≡ true → bytes_eq request.method (method_of t) ≡ false → outcome_of (asked store shelf request (Ok t)) ≡ Some (says 405 [])
  unfolding outcome_of asked
  other_method t known is = rw (known, is) refl

  pub other_version : (t : Target) → is_known request.method ≡ true → bytes_eq request.method (method_of t) ≡ true → all_named (codes "ProtocolVersion") is_version request.headers ≡ false
      → outcome_of (asked store shelf request (Ok t)) ≡ Some (says 400 (codes "wrong ProtocolVersion"))
  unfolding outcome_of asked
  other_version t known method is = rw (known, method, is) refl

  pub past : (t : Target) → is_known request.method ≡ true → bytes_eq request.method (method_of t) ≡ true → all_named (codes "ProtocolVersion") is_version request.headers ≡ true
      → outcome_of (asked store shelf request (Ok t)) ≡ past_outcome (asked store shelf request (Ok t))
  unfolding outcome_of past_outcome asked
  past t known method version = rw (known, method, version) refl

  -- ---- a registration

  pub unsigned_request : (agent : ℕ) → is_signed shelf.keys request ≡ false → past_outcome (asked store shelf request (Ok (Node agent))) ≡ Some (says 401 [])
  unfolding past_outcome asked
  unsigned_request agent is = rw is refl

  pub bad_registration : (agent : ℕ) (e : MessageError) → is_signed shelf.keys request ≡ true → registration_in request.body ≡ Err e
      → past_outcome (asked store shelf request (Ok (Node agent))) ≡ Some (says 400 (fault_text e))
  unfolding past_outcome asked
  bad_registration agent e signed is = rw (signed, is) refl

  pub registers : (agent : ℕ) (r : Registration) → is_signed shelf.keys request ≡ true → registration_in request.body ≡ Ok r
      → past_outcome (asked store shelf request (Ok (Node agent))) ≡ kept_outcome (asked store shelf request (Ok (Node agent)))
  unfolding past_outcome kept_outcome asked
  registers agent r signed is = rw (signed, is) refl

  -- ---- a report

  pub no_row_to_report : (agent : ℕ) → row_of agent store.rows ≡ None → past_outcome (asked store shelf request (Ok (SendReport agent))) ≡ Some (says 404 [])
  unfolding past_outcome asked
  no_row_to_report agent is = rw is refl

  pub bad_report : (agent : ℕ) (e : MessageError) → is_none (row_of agent store.rows) ≡ false → report_in request.body ≡ Err e
      → past_outcome (asked store shelf request (Ok (SendReport agent))) ≡ Some (says 400 (fault_text e))
  unfolding past_outcome asked
  bad_report agent e has is = rw (has, is) refl

  pub reports : (agent : ℕ) (r : ReportMessage) → is_none (row_of agent store.rows) ≡ false → report_in request.body ≡ Ok r
      → past_outcome (asked store shelf request (Ok (SendReport agent))) ≡ kept_outcome (asked store shelf request (Ok (SendReport agent)))
  unfolding past_outcome kept_outcome asked
  reports agent r has is = rw (has, is) refl

  -- ---- a query

  pub no_row_to_act : (agent : ℕ) → row_of agent store.rows ≡ None → past_outcome (asked store shelf request (Ok (Action agent))) ≡ Some (says 404 [])
  unfolding past_outcome asked
  no_row_to_act agent is = rw is refl

  pub bad_query : (agent : ℕ) (row : Row) (e : MessageError) → row_of agent store.rows ≡ Some row → query_in request.body ≡ Err e
      → past_outcome (asked store shelf request (Ok (Action agent))) ≡ Some (says 400 (fault_text e))
  unfolding past_outcome asked
  bad_query agent row e has is = rw (has, is) refl

  pub unnamed_query : (agent : ℕ) (row : Row) (q : ActionQuery) → row_of agent store.rows ≡ Some row → query_in request.body ≡ Ok q → asks_unnamed row.registration.names q ≡ true
      → past_outcome (asked store shelf request (Ok (Action agent))) ≡ Some (says 400 (codes "wrong ConfigurationName"))
  unfolding past_outcome asked
  unnamed_query agent row q has is no_name = rw (has, is, no_name) refl

  pub spent_query : (agent : ℕ) (row : Row) (q : ActionQuery) → row_of agent store.rows ≡ Some row → query_in request.body ≡ Ok q → asks_unnamed row.registration.names q ≡ false
      → is_spent store ≡ true → past_outcome (asked store shelf request (Ok (Action agent))) ≡ Some (says 500 [])
  unfolding past_outcome asked
  spent_query agent row q has is named spent = rw (has, is, named, spent) refl

  pub told_query : (agent : ℕ) (row : Row) (q : ActionQuery) → row_of agent store.rows ≡ Some row → query_in request.body ≡ Ok q → asks_unnamed row.registration.names q ≡ false
      → is_spent store ≡ false → past_outcome (asked store shelf request (Ok (Action agent))) ≡ Some (leaves (message_reply (action_text (action_for shelf row.registration.names q))))
  unfolding past_outcome asked
  told_query agent row q has is named unspent = rw (has, is, named, unspent) refl

  -- ---- contents and packages

  pub no_row_to_fetch : (agent : ℕ) (name : List ℕ) → row_of agent store.rows ≡ None → past_outcome (asked store shelf request (Ok (Content agent name))) ≡ Some (says 404 [])
  unfolding past_outcome asked
  no_row_to_fetch agent name is = rw is refl

  pub no_content : (agent : ℕ) (name : List ℕ) (row : Row) → row_of agent store.rows ≡ Some row → content_for shelf row.registration.names name ≡ None
      → past_outcome (asked store shelf request (Ok (Content agent name))) ≡ Some (says 404 [])
  unfolding past_outcome asked
  no_content agent name row has is = rw (has, is) refl

  pub spent_content : (agent : ℕ) (name : List ℕ) (row : Row) (bytes : List ℕ) → row_of agent store.rows ≡ Some row → content_for shelf row.registration.names name ≡ Some bytes
      → is_spent store ≡ true → past_outcome (asked store shelf request (Ok (Content agent name))) ≡ Some (says 500 [])
  unfolding past_outcome asked
  spent_content agent name row bytes has is spent = rw (has, is, spent) refl

  pub found_content : (agent : ℕ) (name : List ℕ) (row : Row) (bytes : List ℕ) → row_of agent store.rows ≡ Some row → content_for shelf row.registration.names name ≡ Some bytes
      → is_spent store ≡ false → past_outcome (asked store shelf request (Ok (Content agent name))) ≡ Some (leaves (content_reply bytes))
  unfolding past_outcome asked
  found_content agent name row bytes has is unspent = rw (has, is, unspent) refl

  pub no_package : (name version : List ℕ) → package_of (encode_utf8_all name) (encode_utf8_all version) shelf ≡ None
      → past_outcome (asked store shelf request (Ok (Module name version))) ≡ Some (says 404 [])
  unfolding past_outcome asked
  no_package name version is = rw is refl

  pub spent_package : (name version : List ℕ) (bytes : List ℕ) → package_of (encode_utf8_all name) (encode_utf8_all version) shelf ≡ Some bytes
      → is_spent store ≡ true → past_outcome (asked store shelf request (Ok (Module name version))) ≡ Some (says 500 [])
  unfolding past_outcome asked
  spent_package name version bytes is spent = rw (is, spent) refl

  pub found_package : (name version : List ℕ) (bytes : List ℕ) → package_of (encode_utf8_all name) (encode_utf8_all version) shelf ≡ Some bytes
      → is_spent store ≡ false → past_outcome (asked store shelf request (Ok (Module name version))) ≡ Some (leaves (content_reply bytes))
  unfolding past_outcome asked
  found_package name version bytes is unspent = rw (is, unspent) refl
