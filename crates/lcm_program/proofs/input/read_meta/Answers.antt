use Rattle.lcm_program.proofs.Inputs.{declared_input, too_long_undeclared, undeclared_unread, unordered_unread}
use Rattle.lcm_program.proofs.input.read_meta.Goals as goal

pub returns-in-Err-clause-err : goal.returns-in-Err-clause-err
returns-in-Err-clause-err g c = too_long_undeclared (g.S.Ends.left c.args.input.now) _ _ c.in-Err.unread c.in-Err.ensures.err

pub returns-in-Err-read_meta-clause-err : goal.returns-in-Err-read_meta-clause-err
returns-in-Err-read_meta-clause-err g c =
    undeclared_unread (g.S.Ends.left c.args.input.now) _ _ c.in-Ok.bytes.items _ c.in-Err-read_meta.error c.undeclared.result
    c.in-Ok.ensures.ok c.deref.ensures.value c.in-Err-read_meta.ensures.only c.in-Err-read_meta.ensures.refused c.undeclared.ensures

pub returns-in-Ok-parts_order-clause-ok : goal.returns-in-Ok-parts_order-clause-ok
returns-in-Ok-parts_order-clause-ok g c =
    declared_input (g.S.Ends.left c.args.input.now) c.in-Ok.bytes.items _ c.in-Ok-read_meta.meta
    c.in-Ok.ensures.ok c.deref.ensures.value c.in-Ok-read_meta.ensures.ok (_, c.in-Ok-parts_order.ensures.order)

pub returns-in-Err-Cycle-clause-err : goal.returns-in-Err-Cycle-clause-err
returns-in-Err-Cycle-clause-err g c =
    unordered_unread (g.S.Ends.left c.args.input.now) (g.S.Ends.faults c.args.input.now) (g.S.Ends.faults c.read_within.new.input) c.in-Ok.bytes.items _ c.in-Err-Cycle.walk c.in-Ok-read_meta.meta
    c.in-Ok.ensures.ok c.deref.ensures.value c.in-Ok-read_meta.ensures.ok
    (rw c.in-Err-Cycle.field-0-is at c.in-Err-Cycle.ensures.cycle) (rw c.in-Err-Cycle.field-0-is at c.in-Err-Cycle.ensures.no_order)
