use Rattle.std.proofs.Common.{ℕ, List, length, ap, arith}
use Rattle.std.proofs.lemmas.Result.{IfOk-weaker}
use Rattle.depend_order.specs.Documents.{IsOrderOfDocument, IsCycleOfDocument}
use Rattle.depend_order.specs.Numbers.{IsOrderOfNumbers, IsCycleOfNumbers, numbers_in}
use Rattle.depend_order.proofs.Answered.{IfCycle-weaker}
use Rattle.depend_order.proofs.Counting.{numbers_names}
use Rattle.depend_order.proofs.Resolved.{resolved_count, resolved_below, order_resolved, order_of_names, cycle_resolved}
use Rattle.depend_order.proofs.documents.order_counted.Goals as goal

pub order_of_counted-requires-clause-few : goal.order_of_counted-requires-clause-few
order_of_counted-requires-clause-few g c = rw (c.deref.ensures.value, resolved_count c.args.document.now c.in_ok-depends.depends.items c.in_ok-depends.ensures.places) c.requires.few

pub order_of_counted-requires-clause-below : goal.order_of_counted-requires-clause-below
order_of_counted-requires-clause-below g c = rw c.deref.ensures.value (resolved_below c.args.document.now c.in_ok-depends.depends.items c.in_ok-depends.ensures.places)

pub returns-clause-order : goal.returns-clause-order
returns-clause-order g c =
    let document = c.args.document.now in
    let depends = c.in_ok-depends.depends.items in
    IfOk-weaker c.order_of_counted.result (λ order. IsOrderOfNumbers depends order.items) (λ order. IsOrderOfDocument document order.items)
    (λ order. order_resolved document depends c.in_ok-depends.ensures.places c.requires.distinct order.items)
    (rw c.deref.ensures.value at c.order_of_counted.ensures.order)

pub returns-clause-cycle : goal.returns-clause-cycle
returns-clause-cycle g c =
    let document = c.args.document.now in
    let depends = c.in_ok-depends.depends.items in
    IfCycle-weaker c.order_of_counted.result (IsCycleOfNumbers depends) (IsCycleOfDocument document)
    (cycle_resolved document depends c.in_ok-depends.ensures.places c.requires.distinct)
    (rw c.deref.ensures.value at c.order_of_counted.ensures.cycle)

pub returns-clause-no_order : goal.returns-clause-no_order
returns-clause-no_order g c =
    let document = c.args.document.now in
    let depends = c.in_ok-depends.depends.items in
    IfCycle-weaker c.order_of_counted.result (λ _. (order : List ℕ) → IsOrderOfNumbers depends order → ⊥) (λ _. (order : List ℕ) → IsOrderOfDocument document order → ⊥)
    (λ _ none order is. none order (order_of_names document depends c.in_ok-depends.ensures.places c.requires.distinct order is))
    (rw c.deref.ensures.value at c.order_of_counted.ensures.no_order)

pub returns-clause-steps : goal.returns-clause-steps
returns-clause-steps g c =
    let all = c.args.document.now.resources in
    let depends = c.in_ok-depends.depends.items in
    omega (
      arith,
      c.known_places.ensures.steps,
      c.order_of_counted.ensures.steps,
      ap length c.deref.ensures.value,
      ap numbers_in c.deref.ensures.value,
      resolved_count c.args.document.now depends c.in_ok-depends.ensures.places,
      numbers_names all all depends c.in_ok-depends.ensures.places,
    )
