-- The replies of the fleet: to its own two targets, and by the answer table of the pull server to any other.
use Rattle.std.specs.Prelude.{◌≡◌, ℕ, not, if◌then◌else◌, List, length, bytes_eq, codes, Option, Some, None}
use Rattle.http_frames.specs.declared.message.Request.{Request}
use Rattle.http_frames.specs.declared.message.Reply.{Reply}
use Rattle.http_frames.specs.Headers.{all_named}
use Rattle.http_frames.specs.Replies.{saying}
use Rattle.pull_messages.specs.declared.target_kinds.FleetTarget.{FleetTarget}
use Rattle.pull_messages.specs.declared.target_kinds.FleetTarget.TheVariants.{Report, Summary}
use Rattle.pull_messages.specs.FleetTargets.{IsFleetTarget}
use Rattle.pull_outside.specs.Shelf.{Contents}
use Rattle.pull_store.specs.declared.row.Row.{Row}
use Rattle.pull_store.specs.Laws.{body_under}
use Rattle.pull_store.specs.Rows.{row_of}
use Rattle.pull_store.specs.Store.{StoreTerm}
use Rattle.pull_server.specs.Answers.{Replies}
use Rattle.pull_server.specs.Asked.{on}
use Rattle.pull_server.specs.Replies.{message_reply, plain}
use Rattle.pull_server.specs.Table.{is_known, is_version}
use Rattle.fleet_view.specs.declared.counts.Counts.{Counts}
use Rattle.fleet_view.specs.Counting.{fleet_of, summary_text}

-- the body that is kept of a job of an agent
abbrev pub kept_body : ℕ → ℕ → List Row → Option (List ℕ)
kept_body agent job rows = on (row_of agent rows) (λ row. body_under job row.reports)

-- 404: the agent has no row, or keeps no such job
abbrev pub told_of : Option (List ℕ) → Reply
told_of None = plain 404
told_of (Some body) = message_reply body

-- 200: the report as it was sent, or the summary
abbrev pub told : FleetTarget → List Row → Reply
told (Report agent job) rows = told_of (kept_body agent job rows)
told Summary rows = message_reply (summary_text (length rows) (fleet_of rows))

-- 501: the method is not GET, PUT or POST; 405: it is not GET; 400: a ProtocolVersion header is there and is not 2.0; else as told
unfoldable pub fleet_reply : FleetTarget → Request → List Row → Reply
fleet_reply target request rows =
    if not (is_known request.method) then plain 501
    else if not (bytes_eq request.method (codes "GET")) then plain 405
    else if not (all_named (codes "ProtocolVersion") is_version request.headers) then saying 400 (codes "wrong ProtocolVersion")
    else told target rows

-- the request has one of the fleet's targets
abbrev pub AsksFleet : Request → Type 0
AsksFleet request = (target : FleetTarget) × IsFleetTarget request.target target

-- The reply to a request, and the rows after it. A target of the fleet leaves the rows; any other is answered as the pull server does.
pub data FleetReplies (store : StoreTerm) (shelf : Contents) (request : Request) (rose : Type 0) (reply : Reply) (rows : List Row) : Type 0 where
  of_fleet : (target : FleetTarget) → IsFleetTarget request.target target → reply ≡ fleet_reply target request store.rows → rows ≡ store.rows
      → FleetReplies store shelf request rose reply rows
  of_table : ((target : FleetTarget) → IsFleetTarget request.target target → ⊥) → Replies store shelf request rose reply rows
      → FleetReplies store shelf request rose reply rows

-- what contracts see of a store with its fleet
pub record FleetStoreTerm : Type 0 where
  pub store : StoreTerm
  pub counts : Counts

-- the counts are the numbers of the store's rows
abbrev pub IsCounted : FleetStoreTerm → Type 0
IsCounted service = service.counts ≡ fleet_of service.store.rows
