use Rattle.std.proofs.Common.{◌≡◌, length}
use Rattle.node_state.specs.Table.{newest}
use Rattle.node_state.proofs.apply.newest_of.Given as goal
use Rattle.node_state.specs.declared.limits.TheConstants.{OLDER_REPORTS}

abbrev pub invariant-loop-left : goal.invariant-loop-left
invariant-loop-left l = newest OLDER_REPORTS l.left.items ≡ newest OLDER_REPORTS l.fn.reports.items

abbrev pub decreases-loop-left : goal.decreases-loop-left
decreases-loop-left l = length l.left.items
