-- What a request comes to before anything is kept; for private clauses.
use Rattle.std.specs.Prelude.{◌≡◌, ◌⊎◌, ℕ, Bool, true, false, if◌then◌else◌, List, [], ◌∷◌, codes, is_none, Option, Some, None, Result, Ok, Err}
use Rattle.std.specs.Global.{Vec}
use Rattle.http_frames.specs.declared.message.Request.{Request}
use Rattle.http_frames.specs.declared.message.Reply.{Reply}
use Rattle.http_frames.specs.Replies.{saying}
use Rattle.pull_messages.specs.declared.target_kinds.Target.{Target}
use Rattle.pull_messages.specs.declared.target_kinds.Target.TheVariants.{Node, SendReport}
use Rattle.pull_messages.specs.declared.query.ActionQuery.{ActionQuery}
use Rattle.pull_messages.specs.Writing.{action_text}
use Rattle.pull_store.specs.declared.change.Change.{Change}
use Rattle.pull_store.specs.declared.change.Change.TheVariants as changes
use Rattle.pull_store.specs.Rows.{row_of}
use Rattle.pull_store.specs.Sound.{IsKeepable}
use Rattle.pull_store.specs.Store.{StoreTerm, is_spent}
use Rattle.pull_outside.specs.Shelf.{Contents}
use Rattle.pull_outside.specs.declared.shelf.ShelfError.{ShelfError}
use Rattle.pull_outside.specs.declared.shelf.ShelfError.TheVariants as errors
use Rattle.pull_server.specs.declared.verdict.Verdict.{Verdict}
use Rattle.pull_server.specs.declared.verdict.Verdict.TheVariants.{Says, Register, Report}
use Rattle.pull_server.specs.Actions.{action_for, asks_unnamed}
use Rattle.pull_server.specs.Answers.{Pulled, is_done}
use Rattle.pull_server.specs.Asked.{Asked, Asks, IsAim, Over, asked, change_to, on, target_in}
use Rattle.pull_server.specs.Own.{is_shared}
use Rattle.pull_server.specs.Replies.{content_reply, message_reply, plain}
use Rattle.pull_server.specs.Table.{Outcome, Rule, bad_message, first, found, no_name, no_place, no_capacity, no_row, not_signed, not_there, outcome_of, registered, reported, spent, told}

-- the rows from that of a spent store on
abbrev pub keeping : List Rule
keeping = spent ∷ no_place ∷ no_capacity ∷ registered ∷ reported ∷ told ∷ found ∷ []

-- the rows after those of the request's head
abbrev pub past_head : List Rule
past_head = not_signed ∷ no_row ∷ bad_message ∷ no_name ∷ not_there ∷ keeping

-- what these rows say
unfoldable pub kept_outcome : Asked → Option Outcome
kept_outcome a = first keeping a

unfoldable pub past_outcome : Asked → Option Outcome
past_outcome a = first past_head a

-- no row of the request's head applies to this target
abbrev pub IsPastHead : StoreTerm → Request → Target → Type 0
IsPastHead store request target =
    (shelf : Contents) → outcome_of (asked store shelf request (Ok target)) ≡ past_outcome (asked store shelf request (Ok target))

-- no row before those of what is kept applies
abbrev pub Passes : StoreTerm → Option Contents → Request → Result Target ℕ → Type 0
Passes store holds request aim =
    Over holds (λ contents. outcome_of (asked store contents request aim) ≡ kept_outcome (asked store contents request aim))

abbrev pub change_asked : Request → Result Target ℕ → Option Change
change_asked request aim = on (target_in aim) (λ target. change_to target request.body)

-- a reply of the table, which acknowledges nothing
pub record IsSaid (store : StoreTerm) (request : Request) (aim : Result Target ℕ) (holds : Option Contents) (rose : Type 0) (reply : Reply) : Type 0 where
  pub pulled : (shelf : Contents) → holds ≡ Some shelf → Pulled store shelf request aim rose reply store.rows
  pub nothing : is_done reply.code ≡ true → change_asked request aim ≡ None
  pub cause : reply.code ≡ 500 → rose ⊎ (is_spent store ≡ true)
  pub own : is_shared reply.code ≡ true → reply.code ≡ 500

-- a change that is to be kept
pub record IsKeeping (store : StoreTerm) (request : Request) (aim : Result Target ℕ) (holds : Option Contents) (change : Change) : Type 0 where
  pub asks : change_asked request aim ≡ Some change
  pub passes : Passes store holds request aim

-- what a request with this target, or none, comes to
abbrev pub Judged : StoreTerm → Request → Result Target ℕ → Option Contents → Type 0 → Verdict → Type 0
Judged store request aim holds rose (Says reply) = IsSaid store request aim holds rose reply
Judged store request aim holds rose (Register agent registration) =
    (aim ≡ Ok (Node agent)) × IsKeepable registration × IsKeeping store request aim holds (changes.Register agent registration)
Judged store request aim holds rose (Report agent job body) =
    (aim ≡ Ok (SendReport agent)) × (is_none (row_of agent store.rows) ≡ false) × (body.items ≡ request.body) × IsKeeping store request aim holds (changes.Report agent job body.items)

pub record Judges (store : StoreTerm) (request : Request) (holds : Option Contents) (rose : Type 0) (verdict : Verdict) : Type 0 where
  pub aim : Result Target ℕ
  pub is_aim : IsAim request.target aim
  pub only : (change : Change) → Asks request change → change_asked request aim ≡ Some change
  pub judged : Judged store request aim holds rose verdict

-- what a query of an agent with these names is answered
pub data QueryReply (is_over : Bool) (names : List (List ℕ)) (query : ActionQuery) (holds : Option Contents) (rose : Type 0) (reply : Reply) : Type 0 where
  unnamed : asks_unnamed names query ≡ true → reply ≡ saying 400 (codes "wrong ConfigurationName") → QueryReply is_over names query holds rose reply
  was_spent : asks_unnamed names query ≡ false → is_over ≡ true → reply ≡ plain 500 → QueryReply is_over names query holds rose reply
  query_failed : rose → reply ≡ plain 500 → QueryReply is_over names query holds rose reply
  answered : asks_unnamed names query ≡ false → is_over ≡ false → reply.code ≡ 200
      → ((shelf : Contents) → holds ≡ Some shelf → reply ≡ message_reply (action_text (action_for shelf names query))) → QueryReply is_over names query holds rose reply

-- what is answered where this was found
abbrev pub ItemReply : Bool → Result (Option (Vec ℕ)) ShelfError → Reply → Type 0
ItemReply is_over (Ok None) reply = reply ≡ plain 404
ItemReply is_over (Ok (Some bytes)) reply = reply ≡ (if is_over then plain 500 else content_reply bytes.items)
ItemReply is_over (Err errors.Failed) reply = reply ≡ plain 500
ItemReply is_over (Err errors.Memory) reply = ⊥
