-- The message of a report in size is a body that a server takes.
use Rattle.std.proofs.Common.{◌≡◌, ℕ, ◌≤◌, true, false, All, IfOk, List, [], ◌∷◌, map, length, Result, Ok, Err, refl, sym, subst, arith}
use Rattle.std.proofs.lemmas.List.Elements.{recursion_from_All}
use Rattle.std.specs.Prelude.{codes}
use Rattle.json.specs.Print.{escape, escape_byte}
use Rattle.serde_json.specs.Data.{Data, string, object, no_items, Members, no_members, member}
use Rattle.serde_json.specs.Written.{compact_text, members_text}
use Rattle.mof_values.specs.declared.memory.Memory.{Memory}
use Rattle.http_frames.specs.declared.limits.TheConstants.{MAX_MESSAGE_BODY}
use Rattle.http_frames.specs.Limits.{request_limits}
use Rattle.report_log.specs.declared.report.Report.{Report}
use Rattle.dsc_document.specs.Sizes.{Fits}
use Rattle.report_log.specs.Sizes.{ReportInSize}
use Rattle.pull_messages.specs.declared.report.ReportMessage.{ReportMessage}
use Rattle.pull_messages.specs.Writing.{id_text, report_text, text_data, texts_data}
use Rattle.pull_client.specs.Fitting.{IsMark, MessagesFit}
use Rattle.pull_client.specs.Reports.{IsMessageOf, counts_text, error_text, operation_name, reboot_name, refresh_name, status_name}
use Rattle.pull_client.proofs.Compact.{item_size, member_size, quoted_size}
use Rattle.pull_client.proofs.CountsSizes.{counts_text_size}
use Rattle.pull_client.proofs.TextSizes.{errors_size, format_size, job_size, moment_size, operation_size, reboot_size, refresh_size, short_size, status_size, text_size}

abbrev Escaped : List ℕ → ℕ → Type 0
Escaped name size = length (escape name) ≡ size

abbrev AtMost : ℕ → Data → Type 0
AtMost limit value = length (compact_text value) ≤ limit

-- the first six members, whose names have 66 bytes
record FirstNames : Type 0 where
  version : Escaped (codes "ConfigurationVersion") 20
  end : Escaped (codes "EndTime") 7
  errors : Escaped (codes "Errors") 6
  job : Escaped (codes "JobId") 5
  operation : Escaped (codes "OperationType") 13
  reboot : Escaped (codes "RebootRequested") 15

first_names : FirstNames
unfolding escape_byte
first_names = record { version = refl; end = refl; errors = refl; job = refl; operation = refl; reboot = refl }

-- the others, whose names have 55
record LastNames : Type 0 where
  refresh : Escaped (codes "RefreshMode") 11
  format : Escaped (codes "ReportFormatVersion") 19
  start : Escaped (codes "StartTime") 9
  status : Escaped (codes "Status") 6
  data_of : Escaped (codes "StatusData") 10

last_names : LastNames
unfolding escape_byte
last_names = record { refresh = refl; format = refl; start = refl; status = refl; data_of = refl }

abbrev last_members : Data → Data → Data → Data → Data → Members
last_members refresh format start status counts =
    member (codes "RefreshMode") refresh
    (member (codes "ReportFormatVersion") format
    (member (codes "StartTime") start
    (member (codes "Status") status
    (member (codes "StatusData") counts no_members))))

last_size : (refresh format start status counts : Data) → AtMost 6 refresh → AtMost 5 format → AtMost 554 start → AtMost 12 status → AtMost 27551 counts
    → length (members_text true (last_members refresh format start status counts)) ≤ 28204
last_size refresh format start status counts a b c d e =
    let fifth : Members = member (codes "StatusData") counts no_members in
    let fourth : Members = member (codes "Status") status fifth in
    let third : Members = member (codes "StartTime") start fourth in
    let second : Members = member (codes "ReportFormatVersion") format third in
    omega (
      arith,
      a,
      b,
      c,
      d,
      e,
      last_names.refresh,
      last_names.format,
      last_names.start,
      last_names.status,
      last_names.data_of,
      member_size true (codes "RefreshMode") refresh second,
      member_size true (codes "ReportFormatVersion") format third,
      member_size true (codes "StartTime") start fourth,
      member_size true (codes "Status") status fifth,
      member_size true (codes "StatusData") counts no_members,
    )

whole_size : (version end errors job operation reboot : Data) (others : Members) → AtMost 1538 version → AtMost 554 end → AtMost 99714 errors
    → AtMost 218 job → AtMost 13 operation → AtMost 7 reboot → length (members_text true others) ≤ 28204
    → AtMost MAX_MESSAGE_BODY (object (member (codes "ConfigurationVersion") version
    (member (codes "EndTime") end
    (member (codes "Errors") errors
    (member (codes "JobId") job
    (member (codes "OperationType") operation
    (member (codes "RebootRequested") reboot others)))))))
whole_size version end errors job operation reboot others a b c d e f g =
    let sixth : Members = member (codes "RebootRequested") reboot others in
    let fifth : Members = member (codes "OperationType") operation sixth in
    let fourth : Members = member (codes "JobId") job fifth in
    let third : Members = member (codes "Errors") errors fourth in
    let second : Members = member (codes "EndTime") end third in
    omega (
      arith,
      a,
      b,
      c,
      d,
      e,
      f,
      g,
      first_names.version,
      first_names.end,
      first_names.errors,
      first_names.job,
      first_names.operation,
      first_names.reboot,
      member_size false (codes "ConfigurationVersion") version second,
      member_size true (codes "EndTime") end third,
      member_size true (codes "Errors") errors fourth,
      member_size true (codes "JobId") job fifth,
      member_size true (codes "OperationType") operation sixth,
      member_size true (codes "RebootRequested") reboot others,
    )

same_size : (text other : List ℕ) (limit : ℕ) → text ≡ other → text_size other ≤ limit → text_size text ≤ limit
same_size text other limit same h = subst (λ (t : List ℕ). text_size t ≤ limit) (sym same) h

same_sizes : (texts others : List (List ℕ)) (limit : ℕ) → texts ≡ others → AtMost limit (texts_data others) → AtMost limit (texts_data texts)
same_sizes texts others limit same h = subst (λ (t : List (List ℕ)). AtMost limit (texts_data t)) (sym same) h

pub messages_fit : MessagesFit
unfolding report_text
messages_fit agent report message are sized is =
    whole_size (text_data message.version) (text_data message.end) (texts_data message.errors) (string (id_text message.job))
    (text_data message.operation) (text_data message.reboot)
    (last_members (text_data message.refresh) (text_data message.format) (text_data message.start) (text_data message.status) (texts_data message.status_data))
    (same_size message.version report.version 1538 is.version (short_size report.version 64 sized.version))
    (moment_size report.end message.end is.end)
    (same_sizes message.errors (map error_text report.listed) 99714 is.errors
    (omega (arith, sized.listed, errors_size false report.listed (recursion_from_All (λ missed. Fits 256 missed.id) report.listed sized.ids))))
    (omega (arith, quoted_size (id_text message.job), job_size message.job))
    (same_size message.operation (operation_name report.initial) 13 is.operation (operation_size report.initial))
    (same_size message.reboot (reboot_name report.outcome) 7 is.reboot (reboot_size report.outcome))
    (last_size (text_data message.refresh) (text_data message.format) (text_data message.start) (text_data message.status) (texts_data message.status_data)
    (same_size message.refresh (refresh_name report.pull) 6 is.refresh (refresh_size report.pull))
    (same_size message.format (codes "2.0") 5 is.format format_size)
    (moment_size report.start message.start is.start)
    (same_size message.status (status_name report.outcome) 12 is.status (status_size report.outcome))
    (same_sizes message.status_data (counts_text report ∷ []) 27551 is.status_data
    (omega (arith, counts_text_size report are sized, item_size false (text_data (counts_text report)) no_items))))

pub fits_if_made : (agent : ℕ) (report : Report) (made : Result ReportMessage Memory) → All IsMark report.parts → ReportInSize report
    → IfOk made (λ message. IsMessageOf agent report message) → IfOk made (λ message. length (report_text message) ≤ request_limits.content)
fits_if_made agent report (Ok message) are sized is = messages_fit agent report message are sized is
fits_if_made agent report (Err e) are sized is = tt
