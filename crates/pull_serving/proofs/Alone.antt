-- The turns of a run are exchanges.
use Rattle.std.proofs.Common.{◌≡◌, ◌⊎◌, inl, inr, List, [], ◌∷◌, length, Option, Some, None, refl, sym, ◌∙◌, ap, subst}
use Rattle.std.specs.List.{AllByRecursion}
use Rattle.std.proofs.lemmas.Bool.{false≢true}
use Rattle.http_frames.specs.declared.message.Request.{Request}
use Rattle.http_frames.specs.declared.message.Reply.{Reply}
use Rattle.pull_exchange.specs.declared.exchange.Received.{Received}
use Rattle.pull_exchange.specs.declared.exchange.Received.TheVariants as received
use Rattle.pull_outside.specs.Shelf.{Contents}
use Rattle.pull_store.specs.declared.row.Row.{Row}
use Rattle.pull_store.specs.declared.change.Change.{Change}
use Rattle.pull_store.specs.Store.{StoreTerm, is_spent}
use Rattle.pull_server.specs.Alone.{AnsweredAll, Exchange, IsAnswered, change_of, rows_by, rows_left}
use Rattle.pull_server.specs.Answers.{IsAfter, Pulled, Replies, by_table, failed}
use Rattle.pull_server.specs.Asked.{IsAim, asked, is_full_for}
use Rattle.pull_server.specs.Replies.{plain}
use Rattle.pull_server.specs.Table.{Outcome, leaves, makes}
use Rattle.pull_server.proofs.Alone.{alone}
use Rattle.pull_serving.specs.declared.connection.ConnectionEnd.{ConnectionEnd}
use Rattle.pull_serving.specs.declared.connection.ConnectionEnd.TheVariants as ends
use Rattle.pull_serving.specs.Alone.{AreExchanges, IsBeside, IsExchange, IsNoExchange, IsOwnReply, RunsLeaveAgentsAlone, Wrote, beside, no_turns, with_one, without}
use Rattle.pull_serving.specs.Turn.{Answering, IsEnd, IsReply, IsTurn, Leaves, OutsideRose, State, Turn}
use Rattle.pull_serving.specs.Turns.{Runs}

-- the rows after an outcome are those that the exchange leaves
after_is : (change : Option Change) (old : List Row) (outcome : Outcome) (new : List Row) → IsAfter change old outcome new → new ≡ rows_by outcome change old
after_is change old (leaves reply) new is = is
after_is None old (makes reply) new is = absurd is
after_is (Some change) old (makes reply) new is = is

-- a turn is an exchange, or it is none, or its request was answered apart
data TurnIs (apart : Request → Type 0) (contents : Contents) (t : Turn) : Type 0 where
  no_exchange : IsNoExchange t → TurnIs apart contents t
  answered_apart : IsBeside apart t → TurnIs apart contents t
  exchange : (e : Exchange) → IsExchange contents t e → (IsOwnReply e → IsAnswered contents t.before.store.rows e) → TurnIs apart contents t

-- a service answers by the table, or a request of its own, which leaves the rows
abbrev pub AnswersBeside : Answering → (Request → Type 0) → Type 1
AnswersBeside how apart = (store : StoreTerm) (contents : Contents) (request : Request) (rose : Type 0) (reply : Reply) (rows : List Row)
    → how store contents request rose reply rows → Replies store contents request rose reply rows ⊎ (apart request × (rows ≡ store.rows))

module _ (how : Answering) (apart : Request → Type 0) (tells : AnswersBeside how apart) (contents : Contents) (t : Turn) where
  -- by the table, or 500 since a count rose
  pulled_is : (asks : Exchange) (reply : Reply) → t.received ≡ received.Request asks.request → IsAim asks.request.target asks.aim → Wrote t.end t reply
      → Pulled t.before.store contents asks.request asks.aim (OutsideRose t) reply t.after.store.rows → TurnIs apart contents t
  unfolding asked
  pulled_is asks reply same is_aim wrote (by_table outcome row is now) =
      exchange (record { request = asks.request; aim = asks.aim; outcome = outcome }) (record {
        is_request = same;
        is_aim = is_aim;
        came = inl row;
        wrote = subst (λ (r : Reply). Wrote t.end t r) is wrote;
        rows = after_is (change_of asks) t.before.store.rows outcome t.after.store.rows now;
      }) (λ unshared. record {
        count = length t.before.store.rows;
        spent = is_spent t.before.store;
        full = is_full_for t.before.store (change_of asks);
        is = row;
        own = unshared;
      })
  pulled_is asks reply same is_aim wrote (failed rose is now) =
      exchange (record { request = asks.request; aim = asks.aim; outcome = leaves (plain 500) }) (record {
        is_request = same;
        is_aim = is_aim;
        came = inr (rose, refl);
        wrote = subst (λ (r : Reply). Wrote t.end t r) is wrote;
        rows = now;
      }) (λ unshared. absurd (false≢true (sym unshared)))

  other : (r : Received) → t.received ≡ r → ((request : Request) → r ≡ received.Request request → ⊥) → t.after ≡ t.before → TurnIs apart contents t
  other r same isnt stays = no_exchange (record {
    unanswered = λ request is. absurd (isnt request (sym same ∙ is));
    rows = ap (λ (s : State). s.store.rows) stays;
  })

  answered : (request : Request) (reply : Reply) → t.received ≡ received.Request request → Wrote t.end t reply
      → Replies t.before.store contents request (OutsideRose t) reply t.after.store.rows ⊎ (apart request × (t.after.store.rows ≡ t.before.store.rows))
      → TurnIs apart contents t
  answered request reply same wrote (inl told) =
      pulled_is (record { request = request; aim = told.aim; outcome = leaves reply }) reply same told.is_aim wrote told.pulled
  answered request reply same wrote (inr (is_apart, rows)) = answered_apart (record { request = request; is_request = same; is_apart = is_apart; rows = rows })

  replied : (r : Received) (reply : Reply) → t.received ≡ r → Leaves r t.before t.after → IsReply how (Some contents) t r reply → Wrote t.end t reply → TurnIs apart contents t
  replied (received.Request request) reply same left is wrote =
      answered request reply same wrote (tells t.before.store contents request (OutsideRose t) reply t.after.store.rows (is.table contents refl))
  replied (received.Refused e) reply same left is wrote = other (received.Refused e) same (λ request isnt. cc isnt) left
  replied (received.Torn at) reply same left is wrote = absurd is
  replied received.ReadFault reply same left is wrote = absurd is
  replied received.Memory reply same left is wrote = absurd is

  ended : (end : ConnectionEnd) → t.end ≡ end → IsTurn how (Some contents) t → IsEnd how (Some contents) t end → TurnIs apart contents t
  ended (ends.Answered code) same turn is =
      replied t.received is.reply refl turn.leaves is.is_reply (subst (λ (e : ConnectionEnd). Wrote e t is.reply) (sym same) (is.has_code, is.written))
  ended ends.DiskFault same turn is = replied t.received (plain 500) refl turn.leaves is.is_reply (subst (λ (e : ConnectionEnd). Wrote e t (plain 500)) (sym same) is.written)
  ended (ends.Torn at) same turn is =
      other (received.Torn at) is.0 (λ request isnt. cc isnt) (subst (λ (r : Received). Leaves r t.before t.after) is.0 turn.leaves)
  ended ends.ReadFault same turn is =
      other received.ReadFault is.0 (λ request isnt. cc isnt) (subst (λ (r : Received). Leaves r t.before t.after) is.0 turn.leaves)
  ended ends.WriteFault same turn is = replied t.received is.reply refl turn.leaves is.is_reply (subst (λ (e : ConnectionEnd). Wrote e t is.reply) (sym same) is.written)
  ended ends.Memory same turn (silent, inl stays) =
      no_exchange (record { unanswered = λ request is. same; rows = ap (λ (s : StoreTerm). s.rows) stays })
  ended ends.Memory same turn (silent, inr unsent) =
      replied t.received unsent.reply refl turn.leaves unsent.is_reply (subst (λ (e : ConnectionEnd). Wrote e t unsent.reply) (sym same) silent)

-- the run from the rows that the turn left goes on from the rows before it, or from those that its exchange left
abbrev rows_in : State → List Row
rows_in s = s.store.rows

-- the exchanges of a run, and that they are by the table
pub record Answered (apart : Request → Type 0) (contents : Contents) (first : State) (turns : List Turn) (last : State) : Type 0 where
  pub exchanges : List Exchange
  pub are : AreExchanges apart contents turns exchanges
  pub answered : AllByRecursion IsOwnReply exchanges → AnsweredAll contents first.store.rows exchanges last.store.rows

module _ (how : Answering) (apart : Request → Type 0) (tells : AnswersBeside how apart) (contents : Contents) (last : State) where
  one_more : (first : State) (t : Turn) (ts : List Turn) → t.before ≡ first → TurnIs apart contents t → Answered apart contents t.after ts last
      → Answered apart contents first (t ∷ ts) last
  one_more first t ts before (no_exchange none) rest = record {
    exchanges = rest.exchanges;
    are = without t ts rest.exchanges none rest.are;
    answered = λ unshared. subst (λ (rows : List Row). AnsweredAll contents rows rest.exchanges last.store.rows) (none.rows ∙ ap rows_in before) (rest.answered unshared);
  }
  one_more first t ts before (answered_apart one) rest = record {
    exchanges = rest.exchanges;
    are = beside t ts rest.exchanges one rest.are;
    answered = λ unshared. subst (λ (rows : List Row). AnsweredAll contents rows rest.exchanges last.store.rows) (one.rows ∙ ap rows_in before) (rest.answered unshared);
  }
  one_more first t ts before (exchange e is answers) rest = record {
    exchanges = e ∷ rest.exchanges;
    are = with_one t ts e rest.exchanges is rest.are;
    answered = λ unshared. (
      subst (λ (s : State). IsAnswered contents s.store.rows e) before (answers unshared.0),
      subst (λ (rows : List Row). AnsweredAll contents rows rest.exchanges last.store.rows) (is.rows ∙ ap (λ (s : State). rows_left e s.store.rows) before) (rest.answered unshared.1),
    );
  }

  run_answered : (first : State) (turns : List Turn) → Runs how (Some contents) first turns last → Answered apart contents first turns last
  run_answered first [] runs = record { exchanges = []; are = no_turns; answered = λ unshared. ap rows_in runs }
  run_answered first (t ∷ ts) runs = one_more first t ts runs.0 (ended how apart tells contents t t.end refl runs.2 runs.2.end) (run_answered t.after ts runs.3)

pub runs_alone : (how : Answering) (apart : Request → Type 0) → AnswersBeside how apart → RunsLeaveAgentsAlone how apart
runs_alone how apart tells contents first last turns runs =
    let a = run_answered how apart tells contents last first turns runs in
    record {
      exchanges = a.exchanges;
      are = a.are;
      answered = a.answered;
      alone = λ unshared agent. alone contents agent first.store.rows last.store.rows a.exchanges (a.answered unshared);
    }
