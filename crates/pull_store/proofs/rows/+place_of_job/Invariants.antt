use Rattle.std.proofs.Common.{length}
use Rattle.pull_store.proofs.rows.+place_of_job.Given as goal

abbrev pub decreases-place_of_job : goal.decreases-place_of_job
decreases-place_of_job l = length l.reports.now
