-- What the steps of the code make of rows.
use Rattle.std.specs.Prelude.{◌≡◌, ◌==◌, ℕ, suc, if◌then◌else◌, List, [], ◌∷◌, Option, Some, None}
use Rattle.pull_store.specs.declared.row.Row.{Row}
use Rattle.pull_store.specs.declared.row.StoredReport.{StoredReport}
use Rattle.pull_store.specs.declared.change.Change.{Change}
use Rattle.pull_store.specs.declared.change.Change.TheVariants.{Register, Report}
use Rattle.pull_store.specs.Rows.{with_report}

abbrev pub agent_of : Change → ℕ
agent_of (Register agent registration) = agent
agent_of (Report agent job body) = agent

-- the place of the agent's row, or the number of rows
abbrev pub place_of : ℕ → List Row → ℕ
place_of agent [] = 0
place_of agent (row ∷ rows) = if row.agent == agent then 0 else suc (place_of agent rows)

abbrev pub agent_in : Row → ℕ
agent_in row = row.agent

-- the place of the agent, or the number of agents
abbrev pub place_in : ℕ → List ℕ → ℕ
place_in agent [] = 0
place_in agent (other ∷ agents) = if other == agent then 0 else suc (place_in agent agents)

-- the place of the job's report, or the number of reports
abbrev pub place_of_job : ℕ → List StoredReport → ℕ
place_of_job job [] = 0
place_of_job job (report ∷ reports) = if report.job == job then 0 else suc (place_of_job job reports)

-- a row in the place of its agent's, or at the end
abbrev pub with_row : Row → List Row → List Row
with_row new [] = new ∷ []
with_row new (row ∷ rows) = if row.agent == new.agent then new ∷ rows else row ∷ with_row new rows

-- all rows but the first
abbrev pub tail_of : List Row → List Row
tail_of [] = []
tail_of (row ∷ rows) = rows

abbrev pub reports_in : Option Row → List StoredReport
reports_in None = []
reports_in (Some row) = row.reports

-- this row is what the change makes of the agent's row
abbrev pub Makes : Change → Option Row → Row → Type 0
Makes (Register agent registration) before row = row ≡ record { agent = agent; registration = registration; reports = reports_in before }
Makes (Report agent job body) None row = ⊥
Makes (Report agent job body) (Some before) row = row ≡ record before { agent = agent; reports = with_report job body before.reports }
