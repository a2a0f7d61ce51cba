-- The bodies of rows that are spelled one after the other.
use Rattle.std.specs.Prelude.{◌≡◌, ℕ, List, [], ◌∷◌, ◌++◌, Option, Some, None}
use Rattle.std.specs.List.{AllByRecursion}
use Rattle.pull_store.specs.declared.row.Row.{Row}
use Rattle.pull_store.specs.declared.row.StoredReport.{StoredReport}
use Rattle.pull_store.specs.Bodies.{bodies_of_reports, bodies_of_rows}
use Rattle.pull_store.specs.Rows.{rows_without}
use Rattle.pull_store.specs.Sound.{IsReport, IsRow}

-- the rows in front, perhaps one more, and those after it
abbrev pub rows_in : List Row → Option Row → List Row → List Row
rows_in front None rest = front ++ rest
rows_in front (Some row) rest = front ++ row ∷ rest

-- these without those of some agents
abbrev pub rows_left : List ℕ → List Row → Option Row → List Row → List Row
rows_left without front row rest = rows_without without (rows_in front row rest)

-- the first of some rows was taken, or there is none
abbrev pub TakesRow : List Row → Option Row → List Row → Type 0
TakesRow old None new = (old ≡ []) × (new ≡ [])
TakesRow old (Some row) new = old ≡ row ∷ new

-- the bodies of an agent's reports, and those of these rows
abbrev pub bodies_left : ℕ → List StoredReport → List Row → List (List ℕ)
bodies_left agent reports rows = bodies_of_reports agent reports ++ bodies_of_rows rows

pub record AreToSpell (reports : List StoredReport) (rows : List Row) : Type 0 where
  pub short : AllByRecursion IsReport reports
  pub each : AllByRecursion IsRow rows
