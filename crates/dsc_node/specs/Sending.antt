-- The sending of reports, at the end of a start.
use Rattle.std.specs.Prelude.{◌≡◌, ◌≢◌, ℕ, Bool, true, false, ◌&&◌, ◌+◌, cond, List, [], ◌∷◌, ◌++◌, Option, Some, None, Result, Ok, Err, codes}
use Rattle.std.specs.Fmt.{decimal}
use Rattle.std.specs.List.{flat_map}
use Rattle.meta_config.specs.declared.server.Server.{Server}
use Rattle.report_log.specs.declared.report.Report.{Report}
use Rattle.node_state.specs.declared.node.Kept.{Kept}
use Rattle.node_state.specs.declared.node.Node.{Node}
use Rattle.node_state.specs.declared.event.Event.{Event}
use Rattle.node_state.specs.declared.event.Event.TheVariants as events
use Rattle.node_state.specs.Table.{Step}
use Rattle.node_store.specs.declared.error.StoreError.{StoreError}
use Rattle.node_store.specs.declared.error.StoreError.TheVariants as errors
use Rattle.pull_client.specs.declared.error.PeerError.{PeerError}
use Rattle.pull_client.specs.declared.error.PeerError.TheVariants.{Memory}
use Rattle.node_pull.specs.Reporting.{SendsReport}
use Rattle.dsc_outside.specs.Link.{LinkView}
use Rattle.dsc_node.specs.declared.sending.Attempt.{Attempt}
use Rattle.dsc_node.specs.declared.sending.Attempt.TheVariants.{Accepted, NotAccepted, NoMemory}
use Rattle.dsc_node.specs.declared.status.Status.{Status}
use Rattle.dsc_node.specs.declared.status.Status.TheVariants as statuses
use Rattle.dsc_node.specs.Commits.{RefusedAfter}
use Rattle.dsc_node.specs.Endings.{Answers, Ends, status_of}

-- ---- what is to be sent

-- a report that is to be sent, of the agent to the server
pub record ToSend : Type 0 where
  pub server : Server
  pub agent : ℕ
  pub report : Report

-- the first report that was not sent
abbrev pub first_unsent : List Kept → Option Report
first_unsent [] = None
first_unsent (kept ∷ reports) = cond kept.sent (first_unsent reports) (Some kept.report)

abbrev pub to_send_by : Option Server → Option ℕ → Option Report → Option ToSend
to_send_by None agent report = None
to_send_by (Some server) None report = None
to_send_by (Some server) (Some agent) None = None
to_send_by (Some server) (Some agent) (Some report) = Some (record { server = server; agent = agent; report = report })

-- the oldest report that was not sent, where the meta-configuration has a report manager and the node is registered
abbrev pub to_send : Node → Option ToSend
to_send node = cond (node.meta.reports && node.registered) (to_send_by node.meta.server node.agent (first_unsent node.reports)) None

-- ---- what is printed

-- a report that was tried, and whether the server accepted it
pub record Tried : Type 0 where
  pub job : ℕ
  pub sent : Bool

abbrev pub tried_line : Tried → List ℕ
tried_line tried = codes "report " ++ decimal tried.job ++ cond tried.sent (codes " sent\n") (codes " not sent\n")

abbrev pub tried_text : List Tried → List ℕ
tried_text tried = flat_map tried_line tried

abbrev pub before_later : Tried → Result (List Tried) StoreError → Result (List Tried) StoreError
before_later tried (Ok later) = Ok (tried ∷ later)
before_later tried (Err error) = Err error

-- what came of sending a report
abbrev pub not_accepted : PeerError → Attempt
not_accepted Memory = NoMemory
not_accepted error = NotAccepted

abbrev pub attempt_of : Result (Unit {0}) PeerError → Attempt
attempt_of (Ok done) = Accepted
attempt_of (Err error) = not_accepted error

-- a call that tried these reports appended their lines
abbrev pub PrintsTried : {T : Type 0} → Result (List Tried) StoreError → Result T StoreError → List ℕ → List ℕ → Type 0
PrintsTried (Ok tried) (Ok v) old new = new ≡ old ++ tried_text tried
PrintsTried (Ok tried) (Err error) old new = ⊥
PrintsTried (Err error) (Ok v) old new = ⊥
PrintsTried (Err error) (Err other) old new = other ≡ error

-- how many reports were not sent
abbrev pub unsent_among : List Kept → ℕ
unsent_among [] = 0
unsent_among (kept ∷ reports) = cond kept.sent (unsent_among reports) (unsent_among reports + 1)

abbrev pub unsent_count : Node → ℕ
unsent_count node = unsent_among node.reports

-- ---- the sending

-- From this node on, after this work: the reports that were not sent are sent, the oldest first, up to the first that is not accepted, and
-- each that is accepted is marked as sent. Memory may be refused for a request, for a commit or for a line.
pub data Sends (from : Node) (counts : ℕ × ℕ) : List Event → Node → LinkView → LinkView → Result (List Tried) StoreError → List Event → Option Event → Type 0 where
  all_sent : (work : List Event) (node : Node) (view : LinkView) → to_send node ≡ None → Sends from counts work node view view (Ok []) work None
  not_sent : (work : List Event) (node : Node) (asked heard : LinkView) (next : ToSend) (error : PeerError) → to_send node ≡ Some next
      → SendsReport next.server next.agent next.report asked heard (Err error) → error ≢ Memory
      → Sends from counts work node asked heard (Ok (record { job = next.report.job; sent = false } ∷ [])) work None
  no_memory : (work : List Event) (node : Node) (asked heard : LinkView) (next : ToSend) (error : PeerError) → to_send node ≡ Some next
      → SendsReport next.server next.agent next.report asked heard (Err error)
      → Sends from counts work node asked heard (Err errors.Memory) work None
  unmarked : (work : List Event) (node : Node) (asked heard : LinkView) (next : ToSend) (error : StoreError) (committed : List Event) (broken : Option Event) → to_send node ≡ Some next
      → SendsReport next.server next.agent next.report asked heard (Ok tt)
      → RefusedAfter from counts work (events.Sent next.report.job) error committed broken
      → Sends from counts work node asked heard (Err error) committed broken
  unprinted : (work : List Event) (node marked : Node) (asked heard : LinkView) (next : ToSend) → to_send node ≡ Some next
      → SendsReport next.server next.agent next.report asked heard (Ok tt) → Step node (events.Sent next.report.job) marked
      → Sends from counts work node asked heard (Err errors.Memory) (work ++ events.Sent next.report.job ∷ []) None
  sent : (work : List Event) (node marked : Node) (asked mid heard : LinkView) (next : ToSend) (later : Result (List Tried) StoreError) (committed : List Event) (broken : Option Event) → to_send node ≡ Some next
      → SendsReport next.server next.agent next.report asked mid (Ok tt) → Step node (events.Sent next.report.job) marked
      → Sends from counts (work ++ events.Sent next.report.job ∷ []) marked mid heard later committed broken
      → Sends from counts work node asked heard (before_later (record { job = next.report.job; sent = true }) later) committed broken

-- the end of a start after it: its text, the line of its end and those of the reports, or, where an event was refused, its text alone
abbrev pub EndsAfterSending : Status → List ℕ → List ℕ → Result (List Tried) StoreError → Status → List ℕ → Type 0
EndsAfterSending wanted text end (Ok tried) status lines = Answers wanted (text ++ end ++ tried_text tried) status lines
EndsAfterSending wanted text end (Err errors.Memory) status lines = Ends statuses.Memory [] status lines
EndsAfterSending wanted text end (Err error) status lines = Answers (status_of error) text status lines
