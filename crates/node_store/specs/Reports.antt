-- The bytes of a report.
use Rattle.std.specs.Prelude.{ℕ, Bool, List, ◌++◌}
use Rattle.std.specs.Int.{w32, w64}
use Rattle.store_fields.specs.Fields.{bytes_of_number, bytes_of_byte, bytes_of_flag, bytes_of_text, bytes_of_digest, bytes_of_list, IsNumber, IsText, IsDigest, IsList}
use Rattle.report_log.specs.declared.report.FailureKind.TheVariants.{NoSuchResource, OutOfProfile, BadPath, InTheWay, HostFailed}
use Rattle.report_log.specs.declared.report.Outcome.{Outcome}
use Rattle.report_log.specs.declared.report.Outcome.TheVariants.{Success, Failure, Reboot}
use Rattle.report_log.specs.declared.report.Reason.{Reason}
use Rattle.report_log.specs.declared.report.Reason.TheVariants.{NotInDesiredState, Failed, Skipped, RebootAsked, NotReached}
use Rattle.report_log.specs.declared.report.Missed.{Missed}
use Rattle.report_log.specs.declared.report.PartMark.{PartMark}
use Rattle.report_log.specs.declared.report.Report.{Report}
use Rattle.report_log.specs.Sizes.{ReportInSize}
use Rattle.store_fields.specs.declared.limits.TheConstants.{MAX_TEXT}

abbrev pub byte_of_outcome : Outcome → ℕ
byte_of_outcome Success = 0
byte_of_outcome Failure = 1
byte_of_outcome Reboot = 2

abbrev pub byte_of_reason : Reason → ℕ
byte_of_reason NotInDesiredState = 0
byte_of_reason Skipped = 1
byte_of_reason RebootAsked = 2
byte_of_reason NotReached = 3
byte_of_reason (Failed NoSuchResource) = 4
byte_of_reason (Failed OutOfProfile) = 5
byte_of_reason (Failed BadPath) = 6
byte_of_reason (Failed InTheWay) = 7
byte_of_reason (Failed HostFailed) = 8

abbrev pub bytes_of_outcome : Outcome → List ℕ
bytes_of_outcome outcome = bytes_of_byte (byte_of_outcome outcome)

abbrev pub bytes_of_reason : Reason → List ℕ
bytes_of_reason reason = bytes_of_byte (byte_of_reason reason)

abbrev pub bytes_of_missed : Missed → List ℕ
bytes_of_missed missed = bytes_of_text missed.id ++ bytes_of_reason missed.reason

abbrev pub bytes_of_mark : PartMark → List ℕ
bytes_of_mark mark = bytes_of_text mark.name ++ bytes_of_digest mark.digest

-- the job and its marks: initial, pull
unfoldable pub bytes_of_job : ℕ × Bool × Bool → List ℕ
bytes_of_job job = bytes_of_number w64 job.0 ++ bytes_of_flag job.1 ++ bytes_of_flag job.2

-- start, end and the document's version
unfoldable pub bytes_of_run : ℕ × ℕ × List ℕ → List ℕ
bytes_of_run run = bytes_of_number w64 run.0 ++ bytes_of_number w64 run.1 ++ bytes_of_text run.2

-- the outcome, and the counts total and missed
unfoldable pub bytes_of_result : Outcome × ℕ × ℕ → List ℕ
bytes_of_result result = bytes_of_outcome result.0 ++ bytes_of_number w32 result.1 ++ bytes_of_number w32 result.2

-- the resources that are listed, and the parts
unfoldable pub bytes_of_lists : List Missed × List PartMark → List ℕ
bytes_of_lists lists = bytes_of_list bytes_of_missed lists.0 ++ bytes_of_list bytes_of_mark lists.1

unfoldable pub bytes_of_report : Report → List ℕ
bytes_of_report report =
    bytes_of_job (report.job, report.initial, report.pull) ++ bytes_of_run (report.start, report.end, report.version)
    ++ bytes_of_result (report.outcome, report.total, report.missed) ++ bytes_of_lists (report.listed, report.parts)

-- ---- the values that have such bytes

abbrev pub IsMissed : Missed → Type 0
IsMissed missed = IsText MAX_TEXT missed.id

abbrev pub IsMark : PartMark → Type 0
IsMark mark = IsText MAX_TEXT mark.name × IsDigest mark.digest

abbrev pub IsJob : ℕ × Bool × Bool → Type 0
IsJob job = IsNumber w64 job.0

abbrev pub IsRun : ℕ × ℕ × List ℕ → Type 0
IsRun run = IsNumber w64 run.0 × IsNumber w64 run.1 × IsText MAX_TEXT run.2

abbrev pub IsResult : Outcome × ℕ × ℕ → Type 0
IsResult result = IsNumber w32 result.1 × IsNumber w32 result.2

abbrev pub AreLists : List Missed × List PartMark → Type 0
AreLists lists = IsList IsMissed lists.0 × IsList IsMark lists.1

-- its fields are in the range of their types, and it is in size
pub record IsReport (report : Report) : Type 0 where
  pub job : IsJob (report.job, report.initial, report.pull)
  pub run : IsRun (report.start, report.end, report.version)
  pub result : IsResult (report.outcome, report.total, report.missed)
  pub lists : AreLists (report.listed, report.parts)
  pub size : ReportInSize report
