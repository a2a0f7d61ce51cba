-- The report of a run, by the run's trace.
use Rattle.std.specs.Prelude.{◌≡◌, ◌⊎◌, ◌<◌, ℕ, not, List, length, Option, Some, None, IsSomeAnd, filter, take, slice_get}
use Rattle.std.specs.List.{AllZip}
use Rattle.dsc_terms.specs.Lists.{places_below}
use Rattle.dsc_document.specs.declared.document.Document.{Document}
use Rattle.resource_kinds.specs.declared.entry.Failure.{Failure}
use Rattle.resource_kinds.specs.declared.entry.Failure.TheVariants as faults
use Rattle.resource_kinds.specs.declared.entry.TestAnswer.{TestAnswer}
use Rattle.resource_kinds.specs.declared.entry.TestAnswer.TheVariants as tests
use Rattle.resource_kinds.specs.declared.entry.SetAnswer.{SetAnswer}
use Rattle.resource_kinds.specs.declared.entry.SetAnswer.TheVariants as sets
use Rattle.resource_kinds.specs.declared.entry.Entry.{Entry}
use Rattle.resource_kinds.specs.declared.entry.Entry.TheVariants.{Tested, Set}
use Rattle.resource_kinds.specs.Trace.{EndsInReboot, has_succeeded, last_entry, missed_count}
use Rattle.report_log.specs.declared.report.FailureKind.{FailureKind}
use Rattle.report_log.specs.declared.report.FailureKind.TheVariants as kinds
use Rattle.report_log.specs.declared.report.Reason.{Reason}
use Rattle.report_log.specs.declared.report.Reason.TheVariants.{NotInDesiredState, Failed, Skipped, RebootAsked, NotReached}
use Rattle.report_log.specs.declared.report.Outcome.{Outcome}
use Rattle.report_log.specs.declared.report.Outcome.TheVariants as outcomes
use Rattle.report_log.specs.declared.report.Missed.{Missed}
use Rattle.report_log.specs.declared.report.Frame.{Frame}
use Rattle.report_log.specs.declared.report.Report.{Report}
use Rattle.report_log.specs.declared.limits.TheConstants.{LISTED_LIMIT}

-- ---- reasons

abbrev pub kind_of : Failure → FailureKind
kind_of faults.NoSuchResource = kinds.NoSuchResource
kind_of (faults.OutOfProfile name) = kinds.OutOfProfile
kind_of faults.BadPath = kinds.BadPath
kind_of faults.InTheWay = kinds.InTheWay
kind_of faults.HostFailed = kinds.HostFailed

abbrev pub IsTestReason : TestAnswer → Reason → Type 0
IsTestReason tests.Yes reason = ⊥
IsTestReason tests.No reason = reason ≡ NotInDesiredState
IsTestReason (tests.Fault failure) reason = reason ≡ Failed (kind_of failure)
IsTestReason tests.Memory reason = ⊥

abbrev pub IsSetReason : SetAnswer → Reason → Type 0
IsSetReason sets.Done reason = ⊥
IsSetReason sets.Reboot reason = reason ≡ RebootAsked
IsSetReason (sets.Fault failure) reason = reason ≡ Failed (kind_of failure)
IsSetReason sets.Memory reason = ⊥

-- why a resource of that last entry did not succeed; one without an entry was not reached where the trace ends with a
-- reboot, else it was skipped
abbrev pub IsReason : List Entry → Option Entry → Reason → Type 0
IsReason trace None reason = (EndsInReboot trace × (reason ≡ NotReached)) ⊎ ((EndsInReboot trace → ⊥) × (reason ≡ Skipped))
IsReason trace (Some (Tested place answer)) reason = IsTestReason answer reason
IsReason trace (Some (Set place answer)) reason = IsSetReason answer reason

-- ---- the report

-- the resources that did not succeed, by their places
abbrev pub missed_places : Document → List Entry → List ℕ
missed_places document trace = filter (λ r. not (has_succeeded trace r)) (places_below (length document.resources))

-- the resource at r, with its reason
pub record IsMissed (document : Document) (trace : List Entry) (r : ℕ) (missed : Missed) : Type 0 where
  pub id : IsSomeAnd (slice_get document.resources r) (λ resource. missed.id ≡ resource.id)
  pub reason : IsReason trace (last_entry trace r) missed.reason

-- what a run came to in which that many did not succeed
abbrev pub IsOutcome : List Entry → ℕ → Outcome → Type 0
IsOutcome trace missed outcomes.Reboot = EndsInReboot trace
IsOutcome trace missed outcomes.Success = (EndsInReboot trace → ⊥) × (missed ≡ 0)
IsOutcome trace missed outcomes.Failure = (EndsInReboot trace → ⊥) × (0 < missed)

pub record IsReport (document : Document) (trace : List Entry) (frame : Frame) (report : Report) : Type 0 where
  pub job : report.job ≡ frame.job
  pub initial : report.initial ≡ frame.initial
  pub pull : report.pull ≡ frame.pull
  pub start : report.start ≡ frame.start
  pub end : report.end ≡ frame.end
  pub version : report.version ≡ document.version
  pub outcome : IsOutcome trace report.missed report.outcome
  pub total : report.total ≡ length document.resources
  pub missed : report.missed ≡ missed_count document trace
  pub listed : AllZip (IsMissed document trace) (take LISTED_LIMIT (missed_places document trace)) report.listed
  pub parts : report.parts ≡ frame.parts

-- ---- traces of runs that are reported

-- no resource's last entry is a Set that was done
abbrev pub HasNoUntestedSet : Document → List Entry → Type 0
HasNoUntestedSet document trace = (r place : ℕ) → r < length document.resources → last_entry trace r ≡ Some (Set place sets.Done) → ⊥
