use Rattle.std.proofs.Common.{◌∙◌}
use Rattle.store_fields.proofs.Composing.{exit}
use Rattle.node_store.specs.Reports.{bytes_of_report, bytes_of_job, bytes_of_run, bytes_of_result, bytes_of_lists, IsReport, IsJob, IsRun, IsResult, AreLists}
use Rattle.node_store.proofs.Reported.{opened, job_of, run_of, result_of, lists_of, report_taken, report_too_long, never}
use Rattle.node_store.proofs.reports.read_report.Goals as goal

pub returns-in_err-job : goal.returns-in_err-job
returns-in_err-job c =
    exit bytes_of_report IsReport bytes_of_job IsJob _ _ _ _ _ _ c.from_residual.ensures.1 c.in_err-job.ensures (λ report rest range is.
    (job_of report, (_, (range.job, is ∙ opened report rest))))

pub returns-in_err-start : goal.returns-in_err-start
returns-in_err-start c =
    exit bytes_of_report IsReport bytes_of_run IsRun _ _ _ _ _ _ c.from_residual-in_err-start.ensures.1 c.in_err-start.ensures (λ report rest range is.
    let job = c.in_ok-job.ensures.only (job_of report) _ range.job (is ∙ opened report rest) in
    (run_of report, (_, (range.run, job.1))))

pub returns-in_err-outcome : goal.returns-in_err-outcome
returns-in_err-outcome c =
    exit bytes_of_report IsReport bytes_of_result IsResult _ _ _ _ _ _ c.from_residual-in_err-outcome.ensures.1 c.in_err-outcome.ensures (λ report rest range is.
    let job = c.in_ok-job.ensures.only (job_of report) _ range.job (is ∙ opened report rest) in
    let run = c.in_ok-start.ensures.only (run_of report) _ range.run job.1 in
    (result_of report, (_, (range.result, run.1))))

pub returns-in_err-listed : goal.returns-in_err-listed
returns-in_err-listed c =
    exit bytes_of_report IsReport bytes_of_lists AreLists _ _ _ _ _ _ c.from_residual-in_err-listed.ensures.1 c.in_err-listed.ensures (λ report rest range is.
    let job = c.in_ok-job.ensures.only (job_of report) _ range.job (is ∙ opened report rest) in
    let run = c.in_ok-start.ensures.only (run_of report) _ range.run job.1 in
    let result = c.in_ok-outcome.ensures.only (result_of report) _ range.result run.1 in
    (lists_of report, (rest, (range.lists, result.1))))

pub returns-then-is_in_size : goal.returns-then-is_in_size
returns-then-is_in_size c = report_taken _ _ _ _ _ _ _ _ _ c.in_ok-job.ensures c.in_ok-start.ensures c.in_ok-outcome.ensures c.in_ok-listed.ensures (c.is_in_size.ensures.0 c.if-is_in_size.true)

pub returns-else-is_in_size : goal.returns-else-is_in_size
returns-else-is_in_size c = report_too_long _ _ _ _ _ _ _ _ _ c.in_ok-job.ensures c.in_ok-start.ensures c.in_ok-outcome.ensures c.in_ok-listed.ensures (λ size. never c.is_in_size.result (c.is_in_size.ensures.1 size) c.if-is_in_size.false)
