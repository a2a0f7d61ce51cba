use Rattle.std.proofs.Common.{◌∙◌, ap, List, arith}
use Rattle.node_state.specs.declared.node.Kept.{Kept}
use Rattle.node_state.specs.Table.{newest}
use Rattle.node_state.proofs.Newest.{newest_without_first}
use Rattle.node_state.proofs.apply.newest_of.Goals as goal
use Rattle.node_state.specs.declared.limits.TheConstants.{OLDER_REPORTS}

pub loop-left-preserved : goal.loop-left-preserved
loop-left-preserved c =
    ap (λ (l : List Kept). newest OLDER_REPORTS l) c.remove.ensures.items
    ∙ newest_without_first c.loop-left.left.items (omega arith)
    ∙ c.loop-left.invariant
