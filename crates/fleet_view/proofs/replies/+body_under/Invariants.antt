use Rattle.std.proofs.Common.{length}
use Rattle.fleet_view.proofs.replies.+body_under.Given as goal

abbrev pub decreases-body_under : goal.decreases-body_under
decreases-body_under l = length l.reports.now
