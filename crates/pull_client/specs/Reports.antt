-- The message of a report.
use Rattle.std.specs.Prelude.{◌≡◌, ℕ, Bool, true, false, List, [], ◌∷◌, ◌++◌, map, codes, bit_xor, Some}
use Rattle.std.specs.Str.{chars}
use Rattle.serde_json.specs.Data.{Data, number, unsigned, array, object, no_members, member}
use Rattle.serde_json.specs.View.{items_of}
use Rattle.serde_json.specs.Written.{compact_text}
use Rattle.shared_key.specs.Checksum.{checksum_of}
use Rattle.report_log.specs.declared.report.FailureKind.{FailureKind}
use Rattle.report_log.specs.declared.report.FailureKind.TheVariants.{NoSuchResource, OutOfProfile, BadPath, InTheWay, HostFailed}
use Rattle.report_log.specs.declared.report.Missed.{Missed}
use Rattle.report_log.specs.declared.report.Outcome.{Outcome}
use Rattle.report_log.specs.declared.report.Outcome.TheVariants.{Success, Failure, Reboot}
use Rattle.report_log.specs.declared.report.PartMark.{PartMark}
use Rattle.report_log.specs.declared.report.Reason.{Reason}
use Rattle.report_log.specs.declared.report.Reason.TheVariants.{NotInDesiredState, Failed, Skipped, RebootAsked, NotReached}
use Rattle.report_log.specs.declared.report.Report.{Report}
use Rattle.pull_messages.specs.declared.report.ReportMessage.{ReportMessage}
use Rattle.pull_messages.specs.Writing.{text_data}
use Rattle.pull_client.specs.Moments.{IsMomentText}

-- ---- names

-- the run was of the document that was pending, or not
abbrev pub operation_name : Bool → List ℕ
operation_name true = codes "Initial"
operation_name false = codes "Consistency"

abbrev pub refresh_name : Bool → List ℕ
refresh_name true = codes "Pull"
refresh_name false = codes "Push"

abbrev pub status_name : Outcome → List ℕ
status_name Success = codes "Success"
status_name Failure = codes "Failure"
status_name Reboot = codes "InProgress"

abbrev pub reboot_name : Outcome → List ℕ
reboot_name Success = codes "False"
reboot_name Failure = codes "False"
reboot_name Reboot = codes "True"

abbrev pub kind_name : FailureKind → List ℕ
kind_name NoSuchResource = codes "NoSuchResource"
kind_name OutOfProfile = codes "OutOfProfile"
kind_name BadPath = codes "BadPath"
kind_name InTheWay = codes "InTheWay"
kind_name HostFailed = codes "HostFailed"

-- of a failure, that of its kind
abbrev pub reason_name : Reason → List ℕ
reason_name NotInDesiredState = codes "NotInDesiredState"
reason_name (Failed kind) = kind_name kind
reason_name Skipped = codes "Skipped"
reason_name RebootAsked = codes "RebootAsked"
reason_name NotReached = codes "NotReached"

-- ---- lists

-- why a resource did not succeed, after its id
abbrev pub error_text : Missed → List ℕ
error_text missed = missed.id ++ (codes ": " ++ reason_name missed.reason)

abbrev pub part_data : PartMark → Data
part_data part = object
    (member (codes "Checksum") (text_data (checksum_of part.digest))
    (member (codes "ConfigurationName") (text_data part.name) no_members))

-- how many resources did not succeed, how many there are, and the parts of the document
abbrev pub counts_data : Report → Data
counts_data report = object
    (member (codes "NumberNotInDesiredState") (number (unsigned report.missed))
    (member (codes "NumberOfResources") (number (unsigned report.total))
    (member (codes "Parts") (array (items_of (map part_data report.parts))) no_members)))

-- as compact JSON
abbrev pub counts_text : Report → List ℕ
counts_text report = chars (compact_text (counts_data report))

-- ---- the message

-- the message of an agent's report; its job is the agent's 128 bits, with the number of the job exclusive-or
pub record IsMessageOf (agent : ℕ) (report : Report) (message : ReportMessage) : Type 0 where
  pub job : message.job ≡ bit_xor agent report.job
  pub operation : message.operation ≡ operation_name report.initial
  pub refresh : message.refresh ≡ refresh_name report.pull
  pub status : message.status ≡ status_name report.outcome
  pub format : message.format ≡ codes "2.0"
  pub version : message.version ≡ report.version
  pub start : IsMomentText (Some 0) report.start message.start
  pub end : IsMomentText (Some 0) report.end message.end
  pub reboot : message.reboot ≡ reboot_name report.outcome
  pub errors : message.errors ≡ map error_text report.listed
  pub status_data : message.status_data ≡ counts_text report ∷ []
