-- Each agent's replies depend on its own row alone.
use Rattle.std.specs.Prelude.{◌≡◌, ◌==◌, ◌||◌, ℕ, Bool, false, List, [], ◌∷◌, ◌++◌, Option, Some, None, Result}
use Rattle.std.specs.List.{AllByRecursion}
use Rattle.http_frames.specs.declared.message.Request.{Request}
use Rattle.pull_messages.specs.declared.target_kinds.Target.{Target}
use Rattle.pull_store.specs.declared.row.Row.{Row}
use Rattle.pull_outside.specs.Shelf.{Contents}
use Rattle.pull_server.specs.Answers.{reply_of}
use Rattle.pull_server.specs.Asked.{Asked}
use Rattle.pull_server.specs.Table.{Outcome, Rule, bad_message, bad_target, first, found, no_name, no_row, not_signed, not_there, outcome_of, registered, reported, table, told, unknown_method, wrong_method, wrong_version}

-- the first row that applies: none before it does
pub record IsFirst (rules : List Rule) (a : Asked) (outcome : Outcome) : Type 0 where
  pub before : List Rule
  pub rule : Rule
  pub after : List Rule
  pub split : rules ≡ before ++ rule ∷ after
  pub none : AllByRecursion (λ r. r a ≡ None) before
  pub gives : rule a ≡ Some outcome

-- the codes of what all agents share: a spent store, the number of rows, the capacity
abbrev pub is_shared : ℕ → Bool
is_shared code = code == 500 || (code == 503 || code == 507)

-- the table without its three rows of what is shared
abbrev pub own_table : List Rule
own_table =
    unknown_method ∷ bad_target ∷ wrong_method ∷ wrong_version ∷ not_signed ∷ no_row ∷ bad_message ∷ no_name ∷ not_there
    ∷ registered ∷ reported ∷ told ∷ found ∷ []

-- what an agent with this row is answered
unfoldable pub own_outcome : Request → Result Target ℕ → Option Row → Contents → Option Outcome
own_outcome request aim row shelf =
    first own_table (record { request = request; aim = aim; row = row; shelf = shelf; count = 0; spent = false; full = false })

-- the outcome of the table is that of the first row that applies
abbrev pub FirstDecides : Type 0
FirstDecides = (a : Asked) (outcome : Outcome) → outcome_of a ≡ Some outcome → IsFirst table a outcome

-- a reply that is not 500, 503 or 507 depends on the request, the agent's own row and the shelf alone
abbrev pub RepliesAreOwn : Type 0
RepliesAreOwn = (a : Asked) (outcome : Outcome) → outcome_of a ≡ Some outcome → is_shared (reply_of outcome).code ≡ false
    → own_outcome a.request a.aim a.row a.shelf ≡ Some outcome
