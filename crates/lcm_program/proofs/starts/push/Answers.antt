use Rattle.std.proofs.Common.{refl}
use Rattle.lcm_program.specs.Started.{started, unread}
use Rattle.node_pull.proofs.GoingOn.{stays}
use Rattle.lcm_program.proofs.starts.push.Goals as goal

pub returns-in-Ok-clause-ends : goal.returns-in-Ok-clause-ends
returns-in-Ok-clause-ends g c = started c.in-Ok.bytes.items c.in-Ok.ensures.ok (rw c.of.ensures at c.start_node.ensures.starts)

pub returns-in-Err-clause-ends : goal.returns-in-Err-clause-ends
returns-in-Err-clause-ends g c = unread c.in-Err.unread c.in-Err.ensures.err c.print_unread.ensures refl

pub returns-in-Err-clause-goes_on : goal.returns-in-Err-clause-goes_on
returns-in-Err-clause-goes_on g c = stays _
