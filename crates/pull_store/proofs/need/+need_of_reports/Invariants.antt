use Rattle.std.proofs.Common.{length}
use Rattle.pull_store.proofs.need.+need_of_reports.Given as goal

abbrev pub decreases-need_of_reports : goal.decreases-need_of_reports
decreases-need_of_reports l = length l.reports.now
