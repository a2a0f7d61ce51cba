use Rattle.node_pull.proofs.PartNames.{order_below}
use Rattle.node_pull.proofs.names.part_names.Goals as goal

pub names_at-requires : goal.names_at-requires
names_at-requires c = rw (c.deref.ensures.value, c.as_slice-partials.ensures) (order_below c.args.meta.now c.in_ok-order.order.items c.in_ok-order.ensures)
