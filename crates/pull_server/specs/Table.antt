-- The answer table: the first row that applies gives the reply, and says whether the rows of the store change.
use Rattle.std.specs.Prelude.{ℕ, Bool, true, false, not, ◌&&◌, ◌||◌, nat_le, if◌then◌else◌, List, [], ◌∷◌, ◌++◌, bytes_eq, codes, encode_utf8_all, Option, Some, None, is_none, Result, Ok, Err}
use Rattle.std.specs.Fmt.{decimal}
use Rattle.std.specs.Result.{result_ok}
use Rattle.http_frames.specs.declared.message.Reply.{Reply}
use Rattle.http_frames.specs.Headers.{all_named}
use Rattle.http_frames.specs.Replies.{saying}
use Rattle.pull_messages.specs.declared.target_kinds.Target.{Target}
use Rattle.pull_messages.specs.declared.target_kinds.Target.TheVariants.{Node, Action, Content, Module, SendReport}
use Rattle.pull_messages.specs.declared.query.ActionQuery.{ActionQuery}
use Rattle.pull_messages.specs.Writing.{action_text}
use Rattle.pull_store.specs.declared.row.Row.{Row}
use Rattle.pull_store.specs.Rows.{most_rows}
use Rattle.pull_outside.specs.Shelf.{Contents, package_of}
use Rattle.pull_server.specs.Actions.{action_for, asks_unnamed}
use Rattle.pull_server.specs.Asked.{Asked, agent_of, fault_to, method_of, on, target_in}
use Rattle.pull_server.specs.Contents.{content_for}
use Rattle.pull_server.specs.Messages.{fault_text, query_in}
use Rattle.pull_server.specs.Replies.{content_reply, message_reply, plain}
use Rattle.pull_server.specs.Signed.{is_signed}

-- a reply, and whether the rows are left as they are, or the change is made that the request asks for
pub data Outcome : Type 0 where
  leaves : Reply → Outcome
  makes : Reply → Outcome

-- ---- words of the rows

abbrev pub says : ℕ → List ℕ → Outcome
says code body = leaves (saying code body)

-- this outcome where the test holds
abbrev pub where_ : Bool → Outcome → Option Outcome
where_ test outcome = if test then Some outcome else None

abbrev pub target : Asked → Option Target
target a = target_in a.aim

-- where the target goes wrong
abbrev pub place_in : Result Target ℕ → Option ℕ
place_in (Ok target) = None
place_in (Err at) = Some at

abbrev pub is_known : List ℕ → Bool
is_known method = bytes_eq method (codes "GET") || bytes_eq method (codes "PUT") || bytes_eq method (codes "POST")

abbrev pub is_version : List ℕ → Bool
is_version value = bytes_eq value (codes "2.0")

abbrev pub is_node : Target → Bool
is_node (Node agent) = true
is_node (Action agent) = false
is_node (Content agent name) = false
is_node (Module name version) = false
is_node (SendReport agent) = false

abbrev pub is_report : Target → Bool
is_report (Node agent) = false
is_report (Action agent) = false
is_report (Content agent name) = false
is_report (Module name version) = false
is_report (SendReport agent) = true

-- something is fetched from the shelf
abbrev pub is_fetch : Target → Bool
is_fetch (Node agent) = false
is_fetch (Action agent) = false
is_fetch (Content agent name) = true
is_fetch (Module name version) = true
is_fetch (SendReport agent) = false

-- the names that an agent registered
abbrev pub names_of : Option Row → List (List ℕ)
names_of None = []
names_of (Some row) = row.registration.names

abbrev pub names : Asked → List (List ℕ)
names a = names_of a.row

-- what is fetched: a content that the agent may have, or a package
abbrev pub item_for : Contents → List (List ℕ) → Target → Option (List ℕ)
item_for shelf names (Node agent) = None
item_for shelf names (Action agent) = None
item_for shelf names (Content agent name) = content_for shelf names name
item_for shelf names (Module name version) = package_of (encode_utf8_all name) (encode_utf8_all version) shelf
item_for shelf names (SendReport agent) = None

abbrev pub item : Asked → Target → Option (List ℕ)
item a t = item_for a.shelf (names a) t

abbrev pub query_to : Target → List ℕ → Option ActionQuery
query_to (Node agent) body = None
query_to (Action agent) body = result_ok (query_in body)
query_to (Content agent name) body = None
query_to (Module name version) body = None
query_to (SendReport agent) body = None

abbrev pub query : Asked → Option ActionQuery
query a = on (target a) (λ t. query_to t a.request.body)

-- ---- the rows of the table

abbrev pub Rule : Type 0
Rule = Asked → Option Outcome

-- 501: the method is not GET, PUT or POST
abbrev pub unknown_method : Rule
unknown_method a = where_ (not (is_known a.request.method)) (says 501 [])

-- 400: no target; the place at which that shows
abbrev pub bad_target : Rule
bad_target a = on (place_in a.aim) (λ at. Some (says 400 (codes "target " ++ decimal at)))

-- 405: another method belongs to the target
abbrev pub wrong_method : Rule
wrong_method a = on (target a) (λ t. where_ (not (bytes_eq a.request.method (method_of t))) (says 405 []))

-- 400: a ProtocolVersion header is there and is not 2.0
abbrev pub wrong_version : Rule
wrong_version a = where_ (not (all_named (codes "ProtocolVersion") is_version a.request.headers)) (says 400 (codes "wrong ProtocolVersion"))

-- 401: a registration that is not signed under a key of the shelf
abbrev pub not_signed : Rule
not_signed a = on (target a) (λ t. where_ (is_node t && not (is_signed a.shelf.keys a.request)) (says 401 []))

-- 404: another request of an agent without a row
abbrev pub no_row : Rule
no_row a = on (target a) (λ t. on (agent_of t) (λ agent. where_ (not (is_node t) && is_none a.row) (says 404 [])))

-- 400: the body is no message of its kind; the first field that is missing or wrong
abbrev pub bad_message : Rule
bad_message a = on (target a) (λ t. on (fault_to t a.request.body) (λ e. Some (says 400 (fault_text e))))

-- 400: a query with an empty name, of an agent whose names are not one
abbrev pub no_name : Rule
no_name a = on (query a) (λ q. where_ (asks_unnamed (names a) q) (says 400 (codes "wrong ConfigurationName")))

-- 404: the content of a name that the agent did not register or the shelf does not have, or a package that it does not have
abbrev pub not_there : Rule
not_there a = on (target a) (λ t. where_ (is_fetch t && is_none (item a t)) (says 404 []))

-- 500: the store is spent
abbrev pub spent : Rule
spent a = where_ a.spent (says 500 [])

-- 503: a registration of a new agent, while 512 have a row
abbrev pub no_place : Rule
no_place a = on (target a) (λ t. where_ (is_node t && (is_none a.row && nat_le most_rows a.count)) (says 503 []))

-- 507: the store has no capacity for the change
abbrev pub no_capacity : Rule
no_capacity a = where_ a.full (says 507 [])

-- 204: a registration
abbrev pub registered : Rule
registered a = on (target a) (λ t. where_ (is_node t) (makes (plain 204)))

-- 200: a report
abbrev pub reported : Rule
reported a = on (target a) (λ t. where_ (is_report t) (makes (plain 200)))

-- 200: what the agent is to do
abbrev pub told : Rule
told a = on (query a) (λ q. Some (leaves (message_reply (action_text (action_for a.shelf (names a) q)))))

-- 200: what is fetched
abbrev pub found : Rule
found a = on (target a) (λ t. on (item a t) (λ bytes. Some (leaves (content_reply bytes))))

abbrev pub table : List Rule
table =
    unknown_method ∷ bad_target ∷ wrong_method ∷ wrong_version ∷ not_signed ∷ no_row ∷ bad_message ∷ no_name ∷ not_there
    ∷ spent ∷ no_place ∷ no_capacity ∷ registered ∷ reported ∷ told ∷ found ∷ []

abbrev pub or_else : Option Outcome → Option Outcome → Option Outcome
or_else None other = other
or_else (Some outcome) other = Some outcome

-- the first row that applies
abbrev pub first : List Rule → Asked → Option Outcome
first [] a = None
first (rule ∷ rules) a = or_else (rule a) (first rules a)

-- what the table says
unfoldable pub outcome_of : Asked → Option Outcome
outcome_of a = first table a
