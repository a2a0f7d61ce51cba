-- What a request may change of the classes of agents; for private clauses.
use Rattle.std.specs.Prelude.{◌≡◌, ℕ, Bool, false, List, if◌then◌else◌, bytes_eq, is_none, is_some, Option, Some, None}
use Rattle.http_frames.specs.declared.message.Request.{Request}
use Rattle.pull_messages.specs.declared.registration.Registration.{Registration}
use Rattle.pull_store.specs.declared.change.Change.{Change}
use Rattle.pull_store.specs.declared.change.Change.TheVariants.{Register, Report}
use Rattle.pull_store.specs.declared.row.Row.{Row}
use Rattle.pull_store.specs.declared.row.StoredReport.{StoredReport}
use Rattle.pull_store.specs.Rows.{after, row_of}
use Rattle.pull_server.specs.Asked.{Asks, on}
use Rattle.agent_class.specs.declared.class.Class.{Class}
use Rattle.agent_class.specs.declared.class.Class.TheVariants.{Silent}
use Rattle.fleet_view.specs.declared.member.Member.{Member}
use Rattle.fleet_view.specs.declared.news.News.{News}
use Rattle.fleet_view.specs.declared.news.News.TheVariants.{Nothing, Joins, Sends}
use Rattle.agent_class.specs.Classes.{class_of_body, last_report}
use Rattle.fleet_view.specs.Members.{members_of, with_class}

-- it registers the agent
abbrev pub IsOfAgent : ℕ → Change → Type 0
IsOfAgent agent change = (registration : Registration) × (change ≡ Register agent registration)

-- it keeps a report of the agent with this body
abbrev pub IsReportOf : ℕ → List ℕ → Change → Type 0
IsReportOf agent body change = (job : ℕ) × (change ≡ Report agent job body)

-- what the change that a request asks for can do to the classes over these rows
abbrev pub IsNews : List Row → Request → News → Type 0
IsNews rows request Nothing = (change : Change) → Asks request change → members_of (after change rows) ≡ members_of rows
IsNews rows request (Joins agent) = (row_of agent rows ≡ None) × ((change : Change) → Asks request change → IsOfAgent agent change)
IsNews rows request (Sends agent class) =
    (class ≡ class_of_body request.body) × ((change : Change) → Asks request change → IsReportOf agent request.body change)

-- a registration of the agent: it joins where it has no row
abbrev pub joins_of : ℕ → List Row → News
joins_of agent rows = if is_none (row_of agent rows) then Joins agent else Nothing

-- the report has this body
abbrev pub has_body : List ℕ → Option StoredReport → Bool
has_body body None = false
has_body body (Some report) = bytes_eq report.body body

-- the last report of the agent has this body
abbrev pub is_last_of : ℕ → List ℕ → List Row → Bool
is_last_of agent body rows = has_body body (on (row_of agent rows) (λ row. last_report row.reports))

-- the members once the rows are these: a new agent is silent, and a report that is the last of its agent gives it its class
abbrev pub settled : News → List ℕ → List Row → List Member → List Member
settled Nothing body rows members = members
settled (Joins agent) body rows members = if is_some (row_of agent rows) then with_class agent Silent members else members
settled (Sends agent class) body rows members = if is_last_of agent body rows then with_class agent class members else members
