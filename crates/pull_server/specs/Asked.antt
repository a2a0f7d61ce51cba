-- What a request asks for, and all that its answer depends on.
use Rattle.std.specs.Prelude.{◌≡◌, ℕ, Bool, false, ◌&&◌, nat_lt, List, length, codes, option_map, Option, Some, None, Result, Ok, Err, IfSome}
use Rattle.std.specs.Result.{result_ok}
use Rattle.gate_log.specs.Text.{need_of}
use Rattle.gate_log.specs.Log.{capacity_in}
use Rattle.http_frames.specs.declared.message.Request.{Request}
use Rattle.pull_messages.specs.declared.error.MessageError.{MessageError}
use Rattle.pull_messages.specs.declared.target_kinds.Target.{Target}
use Rattle.pull_messages.specs.declared.target_kinds.Target.TheVariants.{Node, Action, Content, Module, SendReport}
use Rattle.pull_messages.specs.Targets.{IsTarget, IsLongestFront}
use Rattle.pull_store.specs.declared.row.Row.{Row}
use Rattle.pull_store.specs.declared.change.Change.{Change}
use Rattle.pull_store.specs.declared.change.Change.TheVariants.{Register, Report}
use Rattle.pull_store.specs.Bodies.{body_of}
use Rattle.pull_store.specs.Rows.{after, row_of}
use Rattle.pull_store.specs.Store.{StoreTerm, is_spent, whole_need, bank_capacity}
use Rattle.pull_outside.specs.Shelf.{Contents}
use Rattle.pull_server.specs.Messages.{registration_in, query_in, report_in, fault_of}

-- ---- what a request asks for

-- a text is this target, or it is none, and the place is the length of the longest front with which one begins
abbrev pub IsAim : List ℕ → Result Target ℕ → Type 0
IsAim text (Ok target) = IsTarget text target
IsAim text (Err at) = IsLongestFront text at × ((target : Target) → IsTarget text target → ⊥)

-- the method that belongs to a target
abbrev pub method_of : Target → List ℕ
method_of (Node agent) = codes "PUT"
method_of (Action agent) = codes "POST"
method_of (Content agent name) = codes "GET"
method_of (Module name version) = codes "GET"
method_of (SendReport agent) = codes "POST"

-- the agent that asks; a package is for everyone
abbrev pub agent_of : Target → Option ℕ
agent_of (Node agent) = Some agent
agent_of (Action agent) = Some agent
agent_of (Content agent name) = Some agent
agent_of (Module name version) = None
agent_of (SendReport agent) = Some agent

abbrev pub row_for : Option ℕ → List Row → Option Row
row_for None rows = None
row_for (Some agent) rows = row_of agent rows

-- why the body is no message of the target's kind
abbrev pub fault_to : Target → List ℕ → Option MessageError
fault_to (Node agent) body = fault_of (registration_in body)
fault_to (Action agent) body = fault_of (query_in body)
fault_to (Content agent name) body = None
fault_to (Module name version) body = None
fault_to (SendReport agent) body = fault_of (report_in body)

-- what the request asks to be kept: a registration, or a report as it was sent
abbrev pub change_to : Target → List ℕ → Option Change
change_to (Node agent) body = option_map (λ registration. Register agent registration) (result_ok (registration_in body))
change_to (Action agent) body = None
change_to (Content agent name) body = None
change_to (Module name version) body = None
change_to (SendReport agent) body = option_map (λ report. Report agent report.job body) (result_ok (report_in body))

-- the request asks for this change
pub record Asks (request : Request) (change : Change) : Type 0 where
  pub target : Target
  pub aim : IsTarget request.target target
  pub is_change : change_to target request.body ≡ Some change

-- ---- what the answer depends on

-- so it is of what the shelf holds, or where the shelf does not show that, of some contents
pub record Over (shelf : Option Contents) (P : Contents → Type 0) : Type 0 where
  pub contents : Contents
  pub are : IfSome shelf (λ told. contents ≡ told)
  pub is : P contents

-- the store answers Full to the change
abbrev pub is_full_for : StoreTerm → Option Change → Bool
is_full_for store None = false
is_full_for store (Some change) =
    nat_lt (capacity_in store.log) (need_of (body_of change)) && nat_lt bank_capacity (whole_need (after change store.rows))

abbrev pub target_in : Result Target ℕ → Option Target
target_in aim = result_ok aim

abbrev pub on : {X Y : Type 0} → Option X → (X → Option Y) → Option Y
on None f = None
on (Some x) f = f x

-- All that the table looks at. Of the rows it sees that of the agent that asks, and how many there are.
pub record Asked : Type 0 where
  pub request : Request
  pub aim : Result Target ℕ
  pub row : Option Row
  pub shelf : Contents
  -- how many agents have a row
  pub count : ℕ
  pub spent : Bool
  pub full : Bool

unfoldable pub asked : StoreTerm → Contents → Request → Result Target ℕ → Asked
asked store shelf request aim = record {
  request = request;
  aim = aim;
  row = row_for (on (target_in aim) agent_of) store.rows;
  shelf = shelf;
  count = length store.rows;
  spent = is_spent store;
  full = is_full_for store (on (target_in aim) (λ target. change_to target request.body));
}
