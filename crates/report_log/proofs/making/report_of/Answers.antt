use Rattle.std.proofs.Common.{rules, ◌≡◌, ◌≤◌, ◌-◌, ◌∙◌, ℕ, List, All, length, take, sym, ap, subst, arith, refl}
use Rattle.std.specs.Prelude.{count_by}
use Rattle.std.specs.List.{AllZip}
use Rattle.std.proofs.lemmas.List.{length-map, length-replicate}
use Rattle.dsc_document.specs.declared.document.Document.{Document}
use Rattle.dsc_document.specs.declared.document.Resource.{Resource}
use Rattle.resource_kinds.specs.declared.entry.Entry.{Entry}
use Rattle.resource_kinds.specs.Trace.{missed_count}
use Rattle.resource_kinds.proofs.Marks.{length-marks}
use Rattle.report_log.specs.declared.marks.Mark.{Mark}
use Rattle.report_log.specs.declared.marks.Mark.TheVariants.{NotCalled, Unsettled}
use Rattle.report_log.specs.declared.report.Missed.{Missed}
use Rattle.report_log.specs.declared.room.ReportRoom.{ReportRoom}
use Rattle.report_log.specs.Marks.{is_success, listed_of, mark_of, marks_of}
use Rattle.report_log.specs.Report.{IsMissed, IsOutcome, missed_places}
use Rattle.report_log.specs.declared.limits.TheConstants.{LISTED_LIMIT}
use Rattle.report_log.specs.Room.{IsRoomFor}
use Rattle.report_log.proofs.InSize.{report_in_size}
use Rattle.report_log.proofs.Listed.{ids_of, listed_first}
use Rattle.report_log.proofs.Outcomes.{is_outcome}
use Rattle.report_log.proofs.Settled.{all_settled, missed_by_marks, settled}
use Rattle.report_log.proofs.making.report_of.Goals as goal

-- the marks that were made
made : (document : Document) (calls : List Entry) (room : ReportRoom) (marked seen : List Mark) → IsRoomFor document room
    → seen ≡ marked → marked ≡ marks_of calls (length room.marks.items) → seen ≡ marks_of calls (length document.resources)
made document calls room marked seen is shown marks =
    shown ∙ marks ∙ ap (marks_of calls) (ap length is.marks ∙ length-replicate (length document.resources) NotCalled)

-- how many were missed
counted : (document : Document) (calls : List Entry) (seen : List Mark) (n : ℕ) → seen ≡ marks_of calls (length document.resources)
    → n ≡ length seen - count_by is_success seen → n ≡ missed_count document calls
counted document calls seen n is count = count ∙ ap (λ (l : List Mark). length l - count_by is_success l) is ∙ missed_by_marks document calls

pub overflow_cast-result-2 : goal.overflow_cast-result-2
overflow_cast-result-2 c =
    let document = c.args.document.now in
    let marks = made document c.args.calls.now c.args.room c.marked-marks.result.items c.deref.result.now c.requires.room c.deref.ensures.value c.marked-marks.ensures in
    let missed = counted document c.args.calls.now c.deref.result.now c.count_missed-missed.result marks c.count_missed-missed.ensures in
    let small : c.count_missed-missed.result ≤ 4096 = omega (arith, missed, c.requires.document.resources) in
    search (rules, small)

pub listed_of-requires-clause-ids : goal.listed_of-requires-clause-ids
listed_of-requires-clause-ids c =
    let document = c.args.document.now in
    let calls = c.args.calls.now in
    let marks = made document calls c.args.room c.marked-marks.result.items c.deref-2.result.now c.requires.room c.deref-2.ensures.value c.marked-marks.ensures in
    ap length c.requires.room.ids ∙ length-map document.resources (λ (resource : Resource). resource.id)
    ∙ sym (ap length marks ∙ length-marks mark_of calls (length document.resources))

pub listed_of-requires-clause-settled : goal.listed_of-requires-clause-settled
listed_of-requires-clause-settled c =
    let document = c.args.document.now in
    let calls = c.args.calls.now in
    let marks = made document calls c.args.room c.marked-marks.result.items c.deref-2.result.now c.requires.room c.deref-2.ensures.value c.marked-marks.ensures in
    subst (All (λ mark. mark ≡ Unsettled → ⊥)) (sym marks) (all_settled document calls c.requires.memory c.requires.settled)

reported : goal.returns-clause-report
reported c =
    let document = c.args.document.now in
    let calls = c.args.calls.now in
    let rebooting = c.ends_in_reboot-rebooting.result in
    let says = c.ends_in_reboot-rebooting.ensures in
    let marks = made document calls c.args.room c.marked-marks.result.items c.deref.result.now c.requires.room c.deref.ensures.value c.marked-marks.ensures in
    let listed_marks = made document calls c.args.room c.marked-marks.result.items c.deref-2.result.now c.requires.room c.deref-2.ensures.value c.marked-marks.ensures in
    let listed : c.of.result ≡ listed_of rebooting (ids_of document) (marks_of calls (length document.resources)) =
    c.of.ensures ∙ c.listed_of.ensures ∙ ap (λ (l : List Mark). listed_of rebooting c.args.room.ids.items l) listed_marks
    ∙ ap (λ (l : List (List ℕ)). listed_of rebooting l (marks_of calls (length document.resources))) c.requires.room.ids in
    record {
      job = refl;
      initial = refl;
      pull = refl;
      start = refl;
      end = refl;
      version = c.requires.room.version;
      outcome = subst (IsOutcome calls c.count_missed-missed.result) (sym c.outcome_of.ensures) (is_outcome calls rebooting says c.count_missed-missed.result);
      total = ap length c.as_slice.ensures;
      missed = counted document calls c.deref.result.now c.count_missed-missed.result marks c.count_missed-missed.ensures;
      listed = subst (λ (l : List Missed). AllZip (IsMissed document calls) (take LISTED_LIMIT (missed_places document calls)) l) (sym listed)
          (listed_first document calls rebooting says (settled document calls c.requires.memory c.requires.settled));
      parts = refl;
    }

pub returns-clause-report : goal.returns-clause-report
returns-clause-report c = reported c

pub returns-clause-in_size : goal.returns-clause-in_size
returns-clause-in_size c = report_in_size c.args.document.now c.args.calls.now c.requires.document c.args.frame _ c.requires.frame (reported c)
