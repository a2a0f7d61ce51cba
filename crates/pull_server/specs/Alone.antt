-- Each agent is answered as if it were alone.
use Rattle.std.specs.Prelude.{◌≡◌, ◌==◌, ℕ, Bool, false, if◌then◌else◌, List, [], ◌∷◌, Option, Some, None, Result}
use Rattle.http_frames.specs.declared.message.Request.{Request}
use Rattle.pull_messages.specs.declared.target_kinds.Target.{Target}
use Rattle.pull_store.specs.declared.row.Row.{Row}
use Rattle.pull_store.specs.declared.change.Change.{Change}
use Rattle.pull_store.specs.declared.change.Change.TheVariants.{Register, Report}
use Rattle.pull_store.specs.Rows.{after, row_of, with_report}
use Rattle.pull_outside.specs.Shelf.{Contents}
use Rattle.pull_server.specs.Answers.{reply_of}
use Rattle.pull_server.specs.Asked.{agent_of, change_to, on, row_for, target_in}
use Rattle.pull_server.specs.Own.{is_shared, own_outcome}
use Rattle.pull_server.specs.Table.{Outcome, leaves, makes, outcome_of}

-- a request with its target, or with the place at which that goes wrong, and what it came to
pub record Exchange : Type 0 where
  pub request : Request
  pub aim : Result Target ℕ
  pub outcome : Outcome

-- the agent that asks; none asks for a package
abbrev pub asker : Exchange → Option ℕ
asker e = on (target_in e.aim) agent_of

abbrev pub is_agent : ℕ → Option ℕ → Bool
is_agent agent None = false
is_agent agent (Some other) = other == agent

abbrev pub change_of : Exchange → Option Change
change_of e = on (target_in e.aim) (λ target. change_to target e.request.body)

-- ---- the rows

abbrev pub rows_made : Option Change → List Row → List Row
rows_made None rows = rows
rows_made (Some change) rows = after change rows

abbrev pub rows_by : Outcome → Option Change → List Row → List Row
rows_by (leaves reply) change rows = rows
rows_by (makes reply) change rows = rows_made change rows

-- the rows after an exchange
abbrev pub rows_left : Exchange → List Row → List Row
rows_left e rows = rows_by e.outcome (change_of e) rows

-- the table gave this outcome, whatever all agents share, and it is none of what they share
pub record IsAnswered (shelf : Contents) (rows : List Row) (e : Exchange) : Type 0 where
  pub count : ℕ
  pub spent : Bool
  pub full : Bool
  pub is : outcome_of (record { request = e.request; aim = e.aim; row = row_for (asker e) rows; shelf = shelf; count = count; spent = spent; full = full }) ≡ Some e.outcome
  pub own : is_shared (reply_of e.outcome).code ≡ false

-- each was answered over the rows that the one before it left
abbrev pub AnsweredAll : Contents → List Row → List Exchange → List Row → Type 0
AnsweredAll shelf rows [] last = last ≡ rows
AnsweredAll shelf rows (e ∷ es) last = IsAnswered shelf rows e × AnsweredAll shelf (rows_left e rows) es last

-- ---- one agent's row

-- the row of the change's agent after it
abbrev pub row_after : Change → Option Row → Option Row
row_after (Register agent registration) None = Some (record { agent = agent; registration = registration; reports = [] })
row_after (Register agent registration) (Some row) = Some (record row { registration = registration })
row_after (Report agent job body) None = None
row_after (Report agent job body) (Some row) = Some (record row { reports = with_report job body row.reports })

abbrev pub row_made : Option Change → Option Row → Option Row
row_made None row = row
row_made (Some change) row = row_after change row

abbrev pub row_by : Outcome → Option Change → Option Row → Option Row
row_by (leaves reply) change row = row
row_by (makes reply) change row = row_made change row

-- the row of the agent that asks after an exchange
abbrev pub row_left : Exchange → Option Row → Option Row
row_left e row = row_by e.outcome (change_of e) row

-- one agent was answered so over its own row
abbrev pub OwnAll : Contents → Option Row → List Exchange → Option Row → Type 0
OwnAll shelf row [] last = last ≡ row
OwnAll shelf row (e ∷ es) last = (own_outcome e.request e.aim row shelf ≡ Some e.outcome) × OwnAll shelf (row_left e row) es last

abbrev pub exchanges_of : ℕ → List Exchange → List Exchange
exchanges_of agent [] = []
exchanges_of agent (e ∷ es) = if is_agent agent (asker e) then e ∷ exchanges_of agent es else exchanges_of agent es

-- where no reply is 500, 503 or 507, an agent's replies and its row are those that its own requests alone give
abbrev pub AgentsAreAlone : Type 0
AgentsAreAlone = (shelf : Contents) (agent : ℕ) (rows last : List Row) (es : List Exchange) → AnsweredAll shelf rows es last
    → OwnAll shelf (row_of agent rows) (exchanges_of agent es) (row_of agent last)
