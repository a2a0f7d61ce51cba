-- The message of a report in size is a body that a server takes.
use Rattle.std.specs.Prelude.{◌≡◌, ℕ, ◌≤◌, length, All}
use Rattle.std.specs.Char.{IsScalar}
use Rattle.hex.specs.Hex.{IsBytes}
use Rattle.http_frames.specs.Limits.{request_limits}
use Rattle.report_log.specs.declared.report.PartMark.{PartMark}
use Rattle.report_log.specs.declared.report.Report.{Report}
use Rattle.report_log.specs.Sizes.{ReportInSize}
use Rattle.pull_messages.specs.declared.report.ReportMessage.{ReportMessage}
use Rattle.pull_messages.specs.Writing.{report_text}
use Rattle.pull_client.specs.Reports.{IsMessageOf}

-- what the types of its fields say of each part: a name is of characters, a digest of 32 bytes
pub record IsMark (part : PartMark) : Type 0 where
  pub name : All IsScalar part.name
  pub bytes : IsBytes part.digest
  pub size : length part.digest ≡ 32

-- the message of any agent's report in size has at most as many bytes as the body of a request may
abbrev pub MessagesFit : Type 0
MessagesFit =
    (agent : ℕ) (report : Report) (message : ReportMessage) → All IsMark report.parts → ReportInSize report → IsMessageOf agent report message
    → length (report_text message) ≤ request_limits.content
