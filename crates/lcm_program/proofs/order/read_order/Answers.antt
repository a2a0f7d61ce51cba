use Rattle.depend_order.proofs.DocumentOrders.{order_below}
use Rattle.lcm_program.proofs.order.read_order.Goals as goal

pub id_lines-requires : goal.id_lines-requires
id_lines-requires g c = record { known = rw c.as_slice.ensures (order_below c.in-Ok.ordered.document c.in-Ok.ordered.order c.in-Ok.ensures.ordered.order) }
