use Rattle.node_pull.proofs.names.order_of.Goals as goal

pub unreachable-requires : goal.unreachable-requires
unreachable-requires c =
    let ensures = rw c.in-Err-Cycle.field-0-is at c.in-Err-Cycle.ensures in
    ensures.no_order c.requires.ordered.0 c.requires.ordered.1
