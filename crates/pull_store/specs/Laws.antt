-- Laws of rows.
use Rattle.std.specs.Prelude.{◌≡◌, ◌≢◌, ◌==◌, ℕ, ◌≤◌, if◌then◌else◌, List, [], ◌∷◌, Contains, Option, Some, None}
use Rattle.pull_store.specs.declared.row.Row.{Row}
use Rattle.pull_store.specs.declared.row.StoredReport.{StoredReport}
use Rattle.pull_store.specs.declared.change.Change.{Change}
use Rattle.gate_log.specs.Kept.{FailingStandForNone as NoneWhereFailing, StandForOne}
use Rattle.pull_store.specs.Rows.{row_of, rows_without, with_report}
use Rattle.pull_store.specs.Sound.{AreRows, AreOnce}
use Rattle.pull_store.specs.Stands.{Changes, IsBody, Leads, Stands, pull_shape}
use Rattle.pull_store.specs.Steps.{agent_of}
use Rattle.pull_store.specs.Store.{whole_need, bank_capacity}

-- the rows that an image stands for: at most 512 of different agents, each with at most four reports of different jobs
abbrev pub RowsAreSound : Type 0
RowsAreSound = (image : List ℕ) (rows : List Row) → Stands image rows → AreRows rows

-- a change leaves the rows so, and every other agent's row as it was
abbrev pub ChangesKeep : Type 0
ChangesKeep = (old new : List Row) (change : Change) → AreRows old → Changes old change new → AreRows new

abbrev pub OthersStay : Type 0
OthersStay = (old new : List Row) (change : Change) (agent : ℕ) → agent ≢ agent_of change → Changes old change new → row_of agent new ≡ row_of agent old

-- the body of a job's report
abbrev pub body_under : ℕ → List StoredReport → Option (List ℕ)
body_under job [] = None
body_under job (report ∷ reports) = if report.job == job then Some report.body else body_under job reports

-- each job stands once, with the body last accepted for it
abbrev pub JobsStandOnce : Type 0
JobsStandOnce = (job : ℕ) (body : List ℕ) (reports : List StoredReport) → AreOnce reports → AreOnce (with_report job body reports)

abbrev pub LastIsKept : Type 0
LastIsKept = (job : ℕ) (body : List ℕ) (reports : List StoredReport) → body_under job (with_report job body reports) ≡ Some body

-- a body is of one change at most
abbrev pub BodiesAreOfOne : Type 0
BodiesAreOfOne = (bytes : List ℕ) (one other : Change) → IsBody bytes one → IsBody bytes other → one ≡ other

-- an image stands for one list of rows at most
abbrev pub RowsAreOne : Type 0
RowsAreOne = StandForOne pull_shape Leads

-- an image that fails stands for no rows
abbrev pub FailingStandForNone : Type 0
FailingStandForNone = NoneWhereFailing pull_shape Leads

-- agents that are forgotten have no row, and each other agent has the row that it had
abbrev pub NamedLeave : Type 0
NamedLeave = (agents : List ℕ) (rows : List Row) (agent : ℕ) → Contains agents agent → row_of agent (rows_without agents rows) ≡ None

abbrev pub UnnamedStay : Type 0
UnnamedStay = (agents : List ℕ) (rows : List Row) (agent : ℕ) → (Contains agents agent → ⊥) → row_of agent (rows_without agents rows) ≡ row_of agent rows

-- the rows that an image stands for fit a bank, written anew, and so do these without those of some agents
abbrev pub LeftFit : Type 0
LeftFit = (image : List ℕ) (rows : List Row) (agents : List ℕ) → Stands image rows → whole_need (rows_without agents rows) ≤ bank_capacity
