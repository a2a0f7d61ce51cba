use Rattle.depend_order.proofs.Resolved.{are_dependencies, cycle_resolved, order_resolved, resolved_below, resolved_count}
use Rattle.depend_order.proofs.Unknown.{names_resources}
use Rattle.depend_order.proofs.ordered.in_order.Goals as goal

pub order_of-requires-clause-few : goal.order_of-requires-clause-few
order_of-requires-clause-few c = rw (c.deref.ensures.value, resolved_count c.args.document c.in_ok-depends.depends.items c.in_ok-depends.ensures.places) c.requires.few

pub order_of-requires-clause-below : goal.order_of-requires-clause-below
order_of-requires-clause-below c = rw c.deref.ensures.value (resolved_below c.args.document c.in_ok-depends.depends.items c.in_ok-depends.ensures.places)

pub returns-in-Ok-clause-ordered : goal.returns-in-Ok-clause-ordered
returns-in-Ok-clause-ordered c =
    let document = c.args.document in
    let depends = c.in_ok-depends.depends.items in
    rw (c.of-in-Ok.ensures, c.of.ensures) (record {
      few = c.requires.few;
      distinct = c.in_ok-depends.ensures.distinct;
      known = names_resources document depends c.in_ok-depends.ensures.places;
      order = order_resolved document depends c.in_ok-depends.ensures.places c.in_ok-depends.ensures.distinct c.in-Ok.order.items (rw c.deref.ensures.value at c.in-Ok.ensures.order);
      depends = are_dependencies document depends c.in_ok-depends.ensures.places c.in_ok-depends.ensures.distinct;
    })

pub returns-in-Err-Cycle-clause-refused : goal.returns-in-Err-Cycle-clause-refused
returns-in-Err-Cycle-clause-refused c =
    let document = c.args.document in
    let depends = c.in_ok-depends.depends.items in (
      c.in_ok-depends.ensures.distinct,
      names_resources document depends c.in_ok-depends.ensures.places,
      cycle_resolved document depends c.in_ok-depends.ensures.places c.in_ok-depends.ensures.distinct c.in-Err-Cycle.cycle (rw (c.deref.ensures.value, c.in-Err-Cycle.field-0-is) at c.in-Err-Cycle.ensures.cycle),
    )
