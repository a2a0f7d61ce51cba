use Rattle.std.proofs.Common.{ℕ, List, ◌++◌, ◌≤◌, length, subst, sym, arith, Err}
use Rattle.report_log.specs.declared.report.Missed.{Missed}
use Rattle.report_log.specs.declared.report.PartMark.{PartMark}
use Rattle.report_log.specs.declared.limits.TheConstants.{LISTED_LIMIT, MAX_PARTS}
use Rattle.dsc_document.specs.declared.limits.TheConstants.{MAX_ID}
use Rattle.mof_values.specs.declared.limits.TheConstants.{MAX_NAME_BYTES}
use Rattle.store_fields.specs.declared.limits.TheConstants.{MAX_TEXT}
use Rattle.store_fields.specs.Writing.{Writes}
use Rattle.store_fields.proofs.Appending.{both, cut, exit}
use Rattle.node_store.specs.Reports.{bytes_of_report, bytes_of_job, bytes_of_run, bytes_of_result, bytes_of_lists}
use Rattle.node_store.proofs.Reported.{job_of, run_of, result_of, lists_of, spelled}
use Rattle.node_store.proofs.Lengths.{utf8_most, all_fit}
use Rattle.node_store.proofs.reports.put_report.Goals as goal

pub put_run-requires : goal.put_run-requires
put_run-requires c = omega (arith, utf8_most c.args.report.now.version, c.requires.version)

pub put_lists-requires-clause-listed : goal.put_lists-requires-clause-listed
put_lists-requires-clause-listed c = (subst (λ (l : List Missed). length l ≤ LISTED_LIMIT) (sym c.as_slice.ensures) c.requires.listed, all_fit (λ (m : Missed). m.id) MAX_ID MAX_TEXT _ _ c.as_slice.ensures (omega arith) c.requires.ids)

pub put_lists-requires-clause-parts : goal.put_lists-requires-clause-parts
put_lists-requires-clause-parts c = (subst (λ (l : List PartMark). length l ≤ MAX_PARTS) (sym c.as_slice-2.ensures) c.requires.parts.count, all_fit (λ (m : PartMark). m.name) MAX_NAME_BYTES MAX_TEXT _ _ c.as_slice-2.ensures (omega arith) c.requires.parts.names)

pub returns-in_err-put_result-clause-writes : goal.returns-in_err-put_result-clause-writes
returns-in_err-put_result-clause-writes c =
    let report = c.args.report.now in
    exit _ (bytes_of_report report) _ _ _ c.from_residual-in_err-put_result.ensures.1 (λ e.
    subst (λ (bytes : List ℕ). Writes bytes c.args.into.now c.put_result.new.into (Err e)) (spelled report)
    (both (bytes_of_job (job_of report)) (bytes_of_run (run_of report) ++ (bytes_of_result (result_of report) ++ bytes_of_lists (lists_of report))) _ _ _ _ c.in_ok-put_job.ensures.writes
    (both (bytes_of_run (run_of report)) (bytes_of_result (result_of report) ++ bytes_of_lists (lists_of report)) _ _ _ _ c.in_ok-put_run.ensures.writes
    (cut (bytes_of_result (result_of report)) (bytes_of_lists (lists_of report)) _ _ _ e c.in_err-put_result.ensures.writes))))

pub returns-clause-writes : goal.returns-clause-writes
returns-clause-writes c =
    let report = c.args.report.now in
    let listed = subst (λ (l : List Missed). Writes (bytes_of_lists (l, c.as_slice-2.result.now)) c.put_result.new.into c.put_lists.new.into c.put_lists.result) c.as_slice.ensures c.put_lists.ensures.writes in
    let lists = subst (λ (l : List PartMark). Writes (bytes_of_lists (report.listed, l)) c.put_result.new.into c.put_lists.new.into c.put_lists.result) c.as_slice-2.ensures listed in
    subst (λ (bytes : List ℕ). Writes bytes c.args.into.now c.put_lists.new.into c.put_lists.result) (spelled report)
    (both (bytes_of_job (job_of report)) (bytes_of_run (run_of report) ++ (bytes_of_result (result_of report) ++ bytes_of_lists (lists_of report))) _ _ _ _ c.in_ok-put_job.ensures.writes
    (both (bytes_of_run (run_of report)) (bytes_of_result (result_of report) ++ bytes_of_lists (lists_of report)) _ _ _ _ c.in_ok-put_run.ensures.writes
    (both (bytes_of_result (result_of report)) (bytes_of_lists (lists_of report)) _ _ _ _ c.in_ok-put_result.ensures.writes lists)))
