-- The rows of a pull server, and what a registration and a report make of them.
use Rattle.std.specs.Prelude.{◌==◌, ℕ, ◌-◌, Bool, ◌&&◌, not, if◌then◌else◌, nat_le, true, false, List, [], ◌∷◌, ◌++◌, length, drop, filter, Option, Some, None, is_none}
use Rattle.std.specs.List.{list_any}
use Rattle.pull_messages.specs.declared.registration.Registration.{Registration}
use Rattle.pull_store.specs.declared.limits.TheConstants.{MAX_REPORTS, MAX_ROWS}
use Rattle.pull_store.specs.declared.row.Row.{Row}
use Rattle.pull_store.specs.declared.row.StoredReport.{StoredReport}
use Rattle.pull_store.specs.declared.change.Change.{Change}
use Rattle.pull_store.specs.declared.change.Change.TheVariants.{Register, Report}
use Rattle.pull_store.specs.declared.change.Refusal.{Refusal}
use Rattle.pull_store.specs.declared.change.Refusal.TheVariants.{TooMany, Unknown}

-- the row of an agent
abbrev pub row_of : ℕ → List Row → Option Row
row_of agent [] = None
row_of agent (row ∷ rows) = if row.agent == agent then Some row else row_of agent rows

-- the rows after a registration: it takes the place of the agent's last one, or comes in a new row at the end
abbrev pub after_registration : ℕ → Registration → List Row → List Row
after_registration agent registration [] = record { agent = agent; registration = registration; reports = [] } ∷ []
after_registration agent registration (row ∷ rows) = if row.agent == agent then record row { registration = registration } ∷ rows else row ∷ after_registration agent registration rows

-- a report of that job is there
abbrev pub has_job : ℕ → List StoredReport → Bool
has_job job [] = false
has_job job (report ∷ reports) = if report.job == job then true else has_job job reports

-- the reports with another body for that job, in its place
abbrev pub replaced : ℕ → List ℕ → List StoredReport → List StoredReport
replaced job body [] = []
replaced job body (report ∷ reports) = if report.job == job then record { job = job; body = body } ∷ reports else report ∷ replaced job body reports

-- how many reports of an agent are kept
abbrev pub most_reports : ℕ
most_reports = MAX_REPORTS

-- the newest four
abbrev pub newest : List StoredReport → List StoredReport
newest reports = drop (length reports - most_reports) reports

-- the reports after one more: it takes the place of the last one of its job, or is added last, and the newest four are kept
abbrev pub with_report : ℕ → List ℕ → List StoredReport → List StoredReport
with_report job body reports = if has_job job reports then replaced job body reports else newest (reports ++ record { job = job; body = body } ∷ [])

-- the rows after a report of an agent
abbrev pub after_report : ℕ → ℕ → List ℕ → List Row → List Row
after_report agent job body [] = []
after_report agent job body (row ∷ rows) = if row.agent == agent then record row { reports = with_report job body row.reports } ∷ rows else row ∷ after_report agent job body rows

-- the rows after a change
abbrev pub after : Change → List Row → List Row
after (Register agent registration) rows = after_registration agent registration rows
after (Report agent job body) rows = after_report agent job body rows

-- ---- agents that leave

-- the row is of one of these agents
abbrev pub is_of : List ℕ → Row → Bool
is_of agents row = list_any (λ agent. agent == row.agent) agents

-- the rows of all other agents, in their order
abbrev pub rows_without : List ℕ → List Row → List Row
rows_without agents rows = filter (λ row. not (is_of agents row)) rows

-- ---- what is accepted

-- how many agents may have a row
abbrev pub most_rows : ℕ
most_rows = MAX_ROWS

-- a registration of a new agent is accepted while there are fewer than 512 rows, a report where its agent has a row
abbrev pub refusal : Change → List Row → Option Refusal
refusal (Register agent registration) rows = if is_none (row_of agent rows) && nat_le most_rows (length rows) then Some TooMany else None
refusal (Report agent job body) rows = if is_none (row_of agent rows) then Some Unknown else None
