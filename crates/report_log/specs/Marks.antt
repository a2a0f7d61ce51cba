-- Marks: what the last entry of a resource says of it.
use Rattle.std.specs.Prelude.{ℕ, ◌==◌, if◌then◌else◌, Bool, true, false, List, [], Option, Some, None, map, get_or, option_map, take, filter_map, length}
use Rattle.dsc_terms.specs.Lists.{places_below}
use Rattle.resource_kinds.specs.declared.entry.TestAnswer.{TestAnswer}
use Rattle.resource_kinds.specs.declared.entry.TestAnswer.TheVariants as tests
use Rattle.resource_kinds.specs.declared.entry.SetAnswer.{SetAnswer}
use Rattle.resource_kinds.specs.declared.entry.SetAnswer.TheVariants as sets
use Rattle.resource_kinds.specs.declared.entry.Entry.{Entry}
use Rattle.resource_kinds.specs.declared.entry.Entry.TheVariants.{Tested, Set}
use Rattle.resource_kinds.specs.Trace.{last_entry}
use Rattle.report_log.specs.declared.marks.Mark.{Mark}
use Rattle.report_log.specs.declared.marks.Mark.TheVariants as marks
use Rattle.report_log.specs.declared.report.Missed.{Missed}
use Rattle.report_log.specs.declared.report.Outcome.{Outcome}
use Rattle.report_log.specs.declared.report.Outcome.TheVariants.{Success, Failure, Reboot}
use Rattle.report_log.specs.declared.report.Reason.{Reason}
use Rattle.report_log.specs.declared.report.Reason.TheVariants.{NotInDesiredState, Failed, Skipped, RebootAsked, NotReached}
use Rattle.report_log.specs.Report.{kind_of}
use Rattle.report_log.specs.declared.limits.TheConstants.{LISTED_LIMIT}

abbrev pub test_mark : TestAnswer → Mark
test_mark tests.Yes = marks.Succeeded
test_mark tests.No = marks.Missed NotInDesiredState
test_mark (tests.Fault failure) = marks.Missed (Failed (kind_of failure))
test_mark tests.Memory = marks.Unsettled

abbrev pub set_mark : SetAnswer → Mark
set_mark sets.Done = marks.Unsettled
set_mark sets.Reboot = marks.Missed RebootAsked
set_mark (sets.Fault failure) = marks.Missed (Failed (kind_of failure))
set_mark sets.Memory = marks.Unsettled

abbrev pub entry_mark : Entry → Mark
entry_mark (Tested place answer) = test_mark answer
entry_mark (Set place answer) = set_mark answer

abbrev pub mark_of : Option Entry → Mark
mark_of None = marks.NotCalled
mark_of (Some entry) = entry_mark entry

-- the marks of that many resources
abbrev pub marks_of : List Entry → ℕ → List Mark
marks_of trace count = map (λ r. mark_of (last_entry trace r)) (places_below count)

abbrev pub is_success : Mark → Bool
is_success marks.NotCalled = false
is_success marks.Succeeded = true
is_success marks.Unsettled = false
is_success (marks.Missed reason) = false

-- why a resource without an entry has none
abbrev pub uncalled : Bool → Reason
uncalled true = NotReached
uncalled false = Skipped

-- why a resource of that mark did not succeed, where it did not, in a run that ended with a reboot or not
abbrev pub reason_of : Bool → Mark → Option Reason
reason_of rebooting marks.NotCalled = Some (uncalled rebooting)
reason_of rebooting marks.Succeeded = None
reason_of rebooting marks.Unsettled = None
reason_of rebooting (marks.Missed reason) = Some reason

-- what is listed of the resource at r
abbrev pub listed_at : Bool → List (List ℕ) → List Mark → ℕ → Option Missed
listed_at rebooting ids marked r =
    option_map (λ reason. record { id = get_or ids r []; reason = reason }) (reason_of rebooting (get_or marked r marks.NotCalled))

-- what is listed of all
abbrev pub listed_of : Bool → List (List ℕ) → List Mark → List Missed
listed_of rebooting ids marked = take LISTED_LIMIT (filter_map (listed_at rebooting ids marked) (places_below (length marked)))

-- what a run came to that ended with a reboot or not, and in which that many resources did not succeed
abbrev pub outcome_of : Bool → ℕ → Outcome
outcome_of rebooting missed = if rebooting then Reboot else if missed == 0 then Success else Failure
