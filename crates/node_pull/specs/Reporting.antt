-- The sending of a report.
use Rattle.std.specs.Prelude.{◌≡◌, ◌⊎◌, ℕ, Result, Err}
use Rattle.meta_config.specs.declared.server.Server.{Server}
use Rattle.report_log.specs.declared.report.Report.{Report}
use Rattle.pull_messages.specs.declared.report.ReportMessage.{ReportMessage}
use Rattle.pull_client.specs.Asks.{Asks}
use Rattle.pull_client.specs.declared.error.PeerError.{PeerError}
use Rattle.pull_client.specs.declared.error.PeerError.TheVariants.{Memory}
use Rattle.pull_client.specs.Heard.{IsDone}
use Rattle.pull_client.specs.Reports.{IsMessageOf}
use Rattle.pull_client.specs.Requests.{report_request}
use Rattle.dsc_outside.specs.Link.{LinkView}

-- the server was sent the message of the agent's report
pub record SendsMessage (server : Server) (agent : ℕ) (report : Report) (before after : LinkView) (result : Result (Unit {0}) PeerError) : Type 0 where
  pub message : ReportMessage
  pub is_message : IsMessageOf agent report message
  pub asks : Asks server (report_request server agent message) IsDone before after result

-- so it was, or memory ran out for the message
abbrev pub SendsReport : Server → ℕ → Report → LinkView → LinkView → Result (Unit {0}) PeerError → Type 0
SendsReport server agent report before after result = SendsMessage server agent report before after result ⊎ ((result ≡ Err Memory) × (after ≡ before))
