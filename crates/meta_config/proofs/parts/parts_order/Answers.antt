use Rattle.std.proofs.Common.{◌<◌, ◌≤◌, ◌^◌, ℕ, List, length, arith}
use Rattle.std.proofs.lemmas.Result.{IfOk-weaker}
use Rattle.depend_order.specs.Numbers.{IsOrderOfNumbers, IsCycleOfNumbers}
use Rattle.depend_order.proofs.Answered.{IfCycle-weaker}
use Rattle.meta_config.specs.Parts.{IsOrderOfParts, IsCycleOfParts}
use Rattle.meta_config.proofs.PartPlaces.{all_known, resolved_count, resolved_below, order_resolved, order_of_names, cycle_resolved}
use Rattle.meta_config.proofs.ReadBack.{is_well_formed}
use Rattle.meta_config.proofs.WrittenTexts.{at_most}
use Rattle.meta_config.proofs.parts.parts_order.Goals as goal
use Rattle.meta_config.specs.declared.limits.TheConstants.{MAX_PARTIALS}

few : (n : ℕ) → n ≤ MAX_PARTIALS → n < 2 ^ 32
few n h = omega arith

pub places_of_names-requires-clause-few : goal.places_of_names-requires-clause-few
places_of_names-requires-clause-few c =
    let w = is_well_formed c.args.meta.now c.requires in
    rw c.as_slice.ensures (few (length c.args.meta.now.partials) (at_most (length c.args.meta.now.partials) MAX_PARTIALS w.few_partials))

pub places_of_names-requires-clause-known : goal.places_of_names-requires-clause-known
places_of_names-requires-clause-known c =
    let w = is_well_formed c.args.meta.now c.requires in
    rw c.as_slice.ensures (all_known c.args.meta.now.partials w.known)

pub order_of-requires-clause-few : goal.order_of-requires-clause-few
order_of-requires-clause-few c =
    let meta = c.args.meta.now in
    let w = is_well_formed meta c.requires in
    rw (c.deref.ensures.value, resolved_count meta c.in_ok-depends.depends.items (rw c.as_slice.ensures at c.in_ok-depends.ensures))
    (few (length meta.partials) (at_most (length meta.partials) MAX_PARTIALS w.few_partials))

pub order_of-requires-clause-below : goal.order_of-requires-clause-below
order_of-requires-clause-below c =
    rw c.deref.ensures.value (resolved_below c.args.meta.now c.in_ok-depends.depends.items (rw c.as_slice.ensures at c.in_ok-depends.ensures))

pub returns-clause-order : goal.returns-clause-order
returns-clause-order c =
    let meta = c.args.meta.now in
    let depends = c.in_ok-depends.depends.items in
    IfOk-weaker c.order_of.result (λ order. IsOrderOfNumbers depends order.items) (λ order. IsOrderOfParts meta order.items)
    (λ order. order_resolved meta depends (rw c.as_slice.ensures at c.in_ok-depends.ensures) (is_well_formed meta c.requires).apart order.items)
    (rw c.deref.ensures.value at c.order_of.ensures.order)

pub returns-clause-cycle : goal.returns-clause-cycle
returns-clause-cycle c =
    let meta = c.args.meta.now in
    let depends = c.in_ok-depends.depends.items in
    IfCycle-weaker c.order_of.result (IsCycleOfNumbers depends) (IsCycleOfParts meta)
    (cycle_resolved meta depends (rw c.as_slice.ensures at c.in_ok-depends.ensures) (is_well_formed meta c.requires).apart)
    (rw c.deref.ensures.value at c.order_of.ensures.cycle)

pub returns-clause-no_order : goal.returns-clause-no_order
returns-clause-no_order c =
    let meta = c.args.meta.now in
    let depends = c.in_ok-depends.depends.items in
    IfCycle-weaker c.order_of.result (λ _. (order : List ℕ) → IsOrderOfNumbers depends order → ⊥) (λ _. (order : List ℕ) → IsOrderOfParts meta order → ⊥)
    (λ _ none order is. none order (order_of_names meta depends (rw c.as_slice.ensures at c.in_ok-depends.ensures) (is_well_formed meta c.requires).apart order is))
    (rw c.deref.ensures.value at c.order_of.ensures.no_order)
