-- The sending of reports as a table over a list: which are due, which of them were accepted, and at which one it stopped.
use Rattle.std.specs.Prelude.{◌≡◌, ◌≢◌, ◌⊎◌, ℕ, ◌&&◌, true, false, cond, List, [], ◌∷◌, ◌++◌, map, Option, Some, None, Result, Ok, Err}
use Rattle.meta_config.specs.declared.server.Server.{Server}
use Rattle.report_log.specs.declared.report.Report.{Report}
use Rattle.node_state.specs.declared.node.Kept.{Kept}
use Rattle.node_state.specs.declared.node.Node.{Node}
use Rattle.node_state.specs.declared.event.Event.{Event}
use Rattle.node_state.specs.declared.event.Event.TheVariants as events
use Rattle.node_state.specs.Sound.{Sound}
use Rattle.node_store.specs.declared.error.StoreError.{StoreError}
use Rattle.node_store.specs.declared.error.StoreError.TheVariants as errors
use Rattle.pull_client.specs.declared.error.PeerError.{PeerError}
use Rattle.pull_client.specs.declared.error.PeerError.TheVariants.{Memory}
use Rattle.node_pull.specs.Reporting.{SendsReport}
use Rattle.dsc_outside.specs.Link.{LinkView}
use Rattle.dsc_node.specs.Commits.{broken_by}
use Rattle.dsc_node.specs.Sending.{Sends, Tried}

-- the reports that were not sent, the oldest first
abbrev pub unsent_reports : List Kept → List Report
unsent_reports [] = []
unsent_reports (kept ∷ reports) = cond kept.sent (unsent_reports reports) (kept.report ∷ unsent_reports reports)

-- those that a node has to send: none where it has no report manager or is not registered
abbrev pub due : Node → List Report
due node = cond (node.meta.reports && node.registered) (unsent_reports node.reports) []

-- the node's server was sent the report of its agent
abbrev pub NodeSends : Node → Report → LinkView → LinkView → Result (Unit {0}) PeerError → Type 0
NodeSends node report asked heard result =
    (server : Server) × (agent : ℕ) × (node.meta.server ≡ Some server) × (node.agent ≡ Some agent) × SendsReport server agent report asked heard result

-- each of them was sent and accepted, one after another
abbrev pub AreAccepted : Node → List Report → LinkView → LinkView → Type 0
AreAccepted node [] asked heard = heard ≡ asked
AreAccepted node (report ∷ reports) asked heard =
    (mid : LinkView) × NodeSends node report asked mid (Ok tt) × AreAccepted node reports mid heard

-- the first of the rest was sent and not accepted, and nothing after it was sent; or there is no rest
abbrev pub StopsAt : Node → List Report → LinkView → LinkView → List Tried → Type 0
StopsAt node [] asked heard tried = (heard ≡ asked) × (tried ≡ [])
StopsAt node (report ∷ reports) asked heard tried =
    (error : PeerError) × NodeSends node report asked heard (Err error) × (error ≢ Memory) × (tried ≡ record { job = report.job; sent = false } ∷ [])

-- nothing was sent after those that were accepted, or the first of the rest was, and not accepted
abbrev pub IsLastAsked : Node → List Report → LinkView → LinkView → Type 0
IsLastAsked node rest mid heard =
    (heard ≡ mid) ⊎ ((next : Report) × (later : List Report) × (error : PeerError) × (rest ≡ next ∷ later) × NodeSends node next mid heard (Err error))

abbrev pub accepted_of : Report → Tried
accepted_of report = record { job = report.job; sent = true }

abbrev pub sent_event : Report → Event
sent_event report = events.Sent report.job

-- the reports that are due, divided before the first that was not accepted: those before it are marked as sent, and printed so
pub record AreSentInOrder (node : Node) (work : List Event) (asked heard : LinkView) (tried : List Tried) (committed : List Event) : Type 0 where
  pub front : List Report
  pub rest : List Report
  pub divided : due node ≡ front ++ rest
  pub mid : LinkView
  pub accepted : AreAccepted node front asked mid
  pub last : List Tried
  pub stopped : StopsAt node rest mid heard last
  pub tried_is : tried ≡ map accepted_of front ++ last
  pub committed_is : committed ≡ work ++ map sent_event front

-- how it ends otherwise: memory ran out, at the request for the first of the rest or after the last that is marked; or the first of the rest
-- was accepted, and its mark was refused
abbrev pub SendingEnds : Node → List Report → LinkView → LinkView → StoreError → Option Event → Type 0
SendingEnds node rest mid heard error broken =
    ((error ≡ errors.Memory) × (broken ≡ None) × IsLastAsked node rest mid heard)
    ⊎ ((next : Report) × (later : List Report) × (rest ≡ next ∷ later) × NodeSends node next mid heard (Ok tt) × (broken ≡ broken_by (sent_event next) error))

-- those that are marked are the first of those that are due, and were accepted one after another
pub record AreMarkedInOrder (node : Node) (work : List Event) (asked heard : LinkView) (error : StoreError) (committed : List Event) (broken : Option Event) : Type 0 where
  pub front : List Report
  pub rest : List Report
  pub divided : due node ≡ front ++ rest
  pub mid : LinkView
  pub accepted : AreAccepted node front asked mid
  pub committed_is : committed ≡ work ++ map sent_event front
  pub ended : SendingEnds node rest mid heard error broken

-- what a start sends at its end, from the node after its other events
abbrev pub ReportsAreSentInOrder : Type 0
ReportsAreSentInOrder = (from node : Node) (counts : ℕ × ℕ) (work committed : List Event) (asked heard : LinkView) (tried : List Tried) (broken : Option Event)
    → Sound node → Sends from counts work node asked heard (Ok tried) committed broken → AreSentInOrder node work asked heard tried committed × (broken ≡ None)

abbrev pub ReportsAreMarkedInOrder : Type 0
ReportsAreMarkedInOrder = (from node : Node) (counts : ℕ × ℕ) (work committed : List Event) (asked heard : LinkView) (error : StoreError) (broken : Option Event)
    → Sound node → Sends from counts work node asked heard (Err error) committed broken → AreMarkedInOrder node work asked heard error committed broken
