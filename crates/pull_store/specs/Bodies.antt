-- The bytes of registrations and of reports in the store.
use Rattle.std.specs.Prelude.{ℕ, List, [], ◌∷◌, ◌++◌}
use Rattle.std.specs.Int.{w128}
use Rattle.store_fields.specs.Fields.{bytes_of_number, bytes_of_byte, bytes_of_text, bytes_of_list}
use Rattle.pull_messages.specs.declared.registration.Registration.{Registration}
use Rattle.pull_store.specs.declared.row.Row.{Row}
use Rattle.pull_store.specs.declared.row.StoredReport.{StoredReport}
use Rattle.pull_store.specs.declared.change.Change.{Change}
use Rattle.pull_store.specs.declared.change.Change.TheVariants.{Register, Report}

-- the kind, and the agent
abbrev pub bytes_of_head : ℕ → ℕ → List ℕ
bytes_of_head kind agent = bytes_of_byte kind ++ bytes_of_number w128 agent

-- the version, the node's name and its address
abbrev pub bytes_of_texts : Registration → List ℕ
bytes_of_texts x = bytes_of_text x.lcm_version ++ (bytes_of_text x.node_name ++ bytes_of_text x.ip_address)

-- these texts, a count, and the names
abbrev pub bytes_of_registration : Registration → List ℕ
bytes_of_registration x = bytes_of_texts x ++ bytes_of_list bytes_of_text x.names

-- an agent and a job
abbrev pub bytes_of_ids : ℕ × ℕ → List ℕ
bytes_of_ids ids = bytes_of_number w128 ids.0 ++ bytes_of_number w128 ids.1

-- the byte 1, the agent and its registration, or the byte 2, the agent, the job and the report as it was sent
abbrev pub body_of : Change → List ℕ
body_of (Register agent registration) = bytes_of_head 1 agent ++ bytes_of_registration registration
body_of (Report agent job body) = bytes_of_head 2 agent ++ (bytes_of_number w128 job ++ body)

-- ---- rows, as they are written into an empty bank

abbrev pub bodies_of_reports : ℕ → List StoredReport → List (List ℕ)
bodies_of_reports agent [] = []
bodies_of_reports agent (report ∷ reports) = body_of (Report agent report.job report.body) ∷ bodies_of_reports agent reports

abbrev pub bodies_of_row : Row → List (List ℕ)
bodies_of_row row = body_of (Register row.agent row.registration) ∷ bodies_of_reports row.agent row.reports

abbrev pub bodies_of_rows : List Row → List (List ℕ)
bodies_of_rows [] = []
bodies_of_rows (row ∷ rows) = bodies_of_row row ++ bodies_of_rows rows
