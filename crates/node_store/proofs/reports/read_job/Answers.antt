use Rattle.std.proofs.Common.{◌∙◌}
use Rattle.store_fields.specs.Fields.{bytes_of_flag, IsFlag}
use Rattle.store_fields.proofs.Composing.{exit}
use Rattle.node_store.specs.Reports.{bytes_of_job, IsJob}
use Rattle.node_store.proofs.Reported.{job_opened}
use Rattle.node_store.proofs.reports.read_job.Goals as goal

pub returns-in_err-initial : goal.returns-in_err-initial
returns-in_err-initial c =
    exit bytes_of_job IsJob bytes_of_flag IsFlag _ _ _ _ _ _ c.from_residual-in_err-initial.ensures.1 c.in_err-initial.ensures.reads (λ job rest range is.
    let number = c.in_ok-job.ensures.reads.only job.0 _ range (is ∙ job_opened job rest) in
    (job.1, (_, (tt, number.1))))

pub returns-in_err-pull : goal.returns-in_err-pull
returns-in_err-pull c =
    exit bytes_of_job IsJob bytes_of_flag IsFlag _ _ _ _ _ _ c.from_residual-in_err-pull.ensures.1 c.in_err-pull.ensures.reads (λ job rest range is.
    let number = c.in_ok-job.ensures.reads.only job.0 _ range (is ∙ job_opened job rest) in
    let initial = c.in_ok-initial.ensures.reads.only job.1 _ tt number.1 in
    (job.2, (rest, (tt, initial.1))))
