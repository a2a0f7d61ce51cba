use Rattle.dsc_node.proofs.order.order_of_merged.Goals as goal

-- a merged document has an order
pub unreachable-requires : goal.unreachable-requires
unreachable-requires c =
    let merged = c.requires.merged.1 in
    let none = rw c.in-Err-Cycle.field-0-is at c.in-Err-Cycle.ensures.no_order in
    none merged.ordered.0 merged.ordered.1
