-- Rows as a store may hold them.
use Rattle.std.specs.Prelude.{◌==◌, ℕ, ◌≤◌, suc, if◌then◌else◌, List, [], ◌∷◌, length, encode_utf8_all}
use Rattle.std.specs.List.{AllByRecursion}
use Rattle.std.specs.Int.{w128}
use Rattle.mof_values.specs.declared.limits.TheConstants.{MAX_NAME_BYTES}
use Rattle.store_fields.specs.Fields.{IsList, IsNumber, IsText}
use Rattle.pull_messages.specs.declared.limits.TheConstants.{MAX_LIST_ITEMS, MAX_TEXT_BYTES}
use Rattle.pull_messages.specs.declared.registration.Registration.{Registration}
use Rattle.pull_messages.specs.Sizes.{IsSized, registration_size}
use Rattle.pull_store.specs.declared.row.Row.{Row}
use Rattle.pull_store.specs.declared.row.StoredReport.{StoredReport}
use Rattle.pull_store.specs.declared.change.Change.{Change}
use Rattle.pull_store.specs.declared.change.Change.TheVariants.{Register, Report}
use Rattle.pull_store.specs.declared.limits.TheConstants.{MAX_BYTES}
use Rattle.pull_store.specs.Rows.{most_rows, most_reports}

-- agents and jobs have 16 bytes
abbrev pub IsId : ℕ → Type 0
IsId id = IsNumber w128 id

-- the bytes of a report, and of all texts of a registration in UTF-8
abbrev pub most_bytes : ℕ
most_bytes = MAX_BYTES

-- the sizes of a registration that may be kept: those of one that was read, and all its texts together no longer than a
-- body may be
pub record IsKeepable (registration : Registration) : Type 0 where
  pub sized : IsSized registration
  pub whole : registration_size registration ≤ most_bytes

-- a name of a registration, in characters
pub record IsNameText (name : List ℕ) : Type 0 where
  pub text : IsText MAX_NAME_BYTES name
  pub some : 1 ≤ length (encode_utf8_all name)

-- a registration that may be kept, its texts in characters
pub record IsRegistration (registration : Registration) : Type 0 where
  pub version : IsText MAX_TEXT_BYTES registration.lcm_version
  pub node : IsText MAX_TEXT_BYTES registration.node_name
  pub address : IsText MAX_TEXT_BYTES registration.ip_address
  pub few : length registration.names ≤ MAX_LIST_ITEMS
  pub names : AllByRecursion IsNameText registration.names
  pub whole : registration_size registration ≤ most_bytes

-- the fields of a registration, each in its range
pub record AreFields (registration : Registration) : Type 0 where
  pub version : IsText MAX_TEXT_BYTES registration.lcm_version
  pub node : IsText MAX_TEXT_BYTES registration.node_name
  pub address : IsText MAX_TEXT_BYTES registration.ip_address
  pub names : IsList IsNameText registration.names

abbrev pub AreIds : ℕ × ℕ → Type 0
AreIds ids = IsId ids.0 × IsId ids.1

-- what the caller sees to, of a change
abbrev pub IsKeepableChange : Change → Type 0
IsKeepableChange (Register agent registration) = IsKeepable registration
IsKeepableChange (Report agent job body) = length body ≤ most_bytes

-- what a change must be, whatever the rows are
abbrev pub IsInSize : Change → Type 0
IsInSize (Register agent registration) = IsId agent × IsRegistration registration
IsInSize (Report agent job body) = IsId agent × IsId job × (length body ≤ most_bytes)

-- ---- rows

-- how often a job stands among the reports
abbrev pub times : ℕ → List StoredReport → ℕ
times job [] = 0
times job (report ∷ reports) = if report.job == job then suc (times job reports) else times job reports

-- how many rows an agent has
abbrev pub rows_of : ℕ → List Row → ℕ
rows_of agent [] = 0
rows_of agent (row ∷ rows) = if row.agent == agent then suc (rows_of agent rows) else rows_of agent rows

pub record IsReport (report : StoredReport) : Type 0 where
  pub job : IsId report.job
  pub short : length report.body ≤ most_bytes

-- at most four reports, each job once
pub record AreOnce (reports : List StoredReport) : Type 0 where
  pub few : length reports ≤ most_reports
  pub once : (job : ℕ) → times job reports ≤ 1

pub record IsRow (row : Row) : Type 0 where
  pub agent : IsId row.agent
  pub registration : IsRegistration row.registration
  pub reports : AreOnce row.reports
  pub short : AllByRecursion IsReport row.reports

-- the rows are of different agents
abbrev pub AreApart : List Row → Type 0
AreApart rows = (agent : ℕ) → rows_of agent rows ≤ 1

-- at most 512 rows, each agent has one
pub record AreRows (rows : List Row) : Type 0 where
  pub few : length rows ≤ most_rows
  pub apart : AreApart rows
  pub each : AllByRecursion IsRow rows
