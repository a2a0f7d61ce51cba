-- How messages are put together, and what they are once their texts were written in UTF-8 and read again; for private clauses.
use Rattle.std.specs.Prelude.{◌≡◌, ◌<◌, ◌^◌, ℕ, List, map, codes}
use Rattle.std.specs.Str.{chars, encode_utf8_all}
use Rattle.serde_json.specs.Data.{Members, string, put}
use Rattle.pull_messages.specs.declared.query.Client.{Client}
use Rattle.pull_messages.specs.declared.action.Detail.{Detail}
use Rattle.pull_messages.specs.declared.report.ReportMessage.{ReportMessage}
use Rattle.pull_messages.specs.Writing.{text_data, texts_data, id_text}

abbrev pub recoded : List ℕ → List ℕ
recoded text = chars (encode_utf8_all text)

abbrev pub recoded_client : Client → Client
recoded_client x = record { checksum = recoded x.checksum; name = recoded x.name }

abbrev pub recoded_detail : Detail → Detail
recoded_detail x = record { name = recoded x.name; status = recoded x.status }

-- the texts of a report come back, and its job has 128 bits
pub record IsRecodedReport (x : ReportMessage) : Type 0 where
  pub job : x.job < 2 ^ 128
  pub operation : recoded x.operation ≡ x.operation
  pub refresh : recoded x.refresh ≡ x.refresh
  pub status : recoded x.status ≡ x.status
  pub format : recoded x.format ≡ x.format
  pub version : recoded x.version ≡ x.version
  pub start : recoded x.start ≡ x.start
  pub end : recoded x.end ≡ x.end
  pub reboot : recoded x.reboot ≡ x.reboot
  pub errors : map recoded x.errors ≡ x.errors
  pub status_data : map recoded x.status_data ≡ x.status_data

-- the members of a report, one put after the other
abbrev pub with_first : ReportMessage → Members → Members
with_first x members =
    put (codes "OperationType") (text_data x.operation)
    (put (codes "JobId") (string (id_text x.job))
    (put (codes "Errors") (texts_data x.errors)
    (put (codes "EndTime") (text_data x.end)
    (put (codes "ConfigurationVersion") (text_data x.version) members))))

abbrev pub with_others : ReportMessage → Members → Members
with_others x members =
    put (codes "StatusData") (texts_data x.status_data)
    (put (codes "Status") (text_data x.status)
    (put (codes "StartTime") (text_data x.start)
    (put (codes "ReportFormatVersion") (text_data x.format)
    (put (codes "RefreshMode") (text_data x.refresh)
    (put (codes "RebootRequested") (text_data x.reboot) members)))))
