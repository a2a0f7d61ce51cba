use Rattle.std.proofs.Common.{◌≡◌, inl, refl, rules, length-append, ◌∷◌, [], ◌++◌, List, arith, sym, ◌∙◌, ap, subst, length, get_or}
use Rattle.resource_kinds.specs.declared.entry.Entry.TheVariants.{Tested}
use Rattle.resource_kinds.specs.declared.entry.TestAnswer.TheVariants as tests
use Rattle.lcm_core.specs.declared.modes.RunMode.TheVariants.{Monitor}
use Rattle.resource_kinds.specs.declared.entry.Entry.{Entry}
use Rattle.resource_kinds.specs.declared.entry.TestAnswer.{TestAnswer}
use Rattle.lcm_core.specs.Legal.{Legal}
use Rattle.resource_kinds.specs.Trace.{IsFinal}
use Rattle.lcm_core.proofs.Traces.{legal_push, ends_with_push, may_test, places_push, host_failures_push, whole_at_memory}
use Rattle.depend_order.proofs.DocumentOrders.{order_below, order_count}
use Rattle.resource_kinds.proofs.Chains.{chain_push}
use Rattle.lcm_core.proofs.runs.monitor.Goals as goal

pub loop-place-init : goal.loop-place-init
loop-place-init g c =
    let none = c.requires.fresh in
    rw none (record {
      places = search rules;
      legal = λ before e after p. absurd (omega (arith, ap length p, length-append before (e ∷ after)));
      goes_on = λ e ends last. absurd (omega (arith, ap length ends.1, length-append ends.0 (e ∷ [])));
      chain = g.met.R.Resources.stays _;
      faults = omega arith;
      later = omega arith;
      used = omega arith;
      capacity = omega (arith, c.requires.capacity, order_count c.args.document.now c.args.order.now c.requires.order);
    })

pub returns-in-Memory-clause-legal : goal.returns-in-Memory-clause-legal
returns-in-Memory-clause-legal g c =
    let i = c.loop-place.place-index in
    let so_far = c.loop-place.invariant in
    let may = may_test c.args.document.now c.args.order.now (g.R.Resources.trace c.loop-place.resources) i c.loop-place-test.true so_far.places (order_below c.args.document.now c.args.order.now c.requires.order i 0 c.loop-place-test.true) c.requires.order.once so_far.goes_on in
    rw c.test.ensures.trace (legal_push _ Monitor _ _ _ so_far.legal may)

pub returns-in-Memory-clause-whole : goal.returns-in-Memory-clause-whole
returns-in-Memory-clause-whole g c =
    let order = c.args.order.now in
    let i = c.loop-place.place-index in
    let trace = g.R.Resources.trace c.loop-place.resources in
    let grown : g.R.Resources.trace c.test.new.self ≡ trace ++ Tested (get_or order i 0) tests.Memory ∷ [] =
    c.test.ensures.trace ∙ ap (λ (a : TestAnswer). trace ++ Tested (get_or order i 0) a ∷ []) c.in-Memory.is in
    let legal = subst (λ (t : List Entry). Legal c.args.document.now Monitor order t) grown (returns-in-Memory-clause-legal g c) in
    rw grown (whole_at_memory c.args.document.now order trace i c.loop-place-test.true c.requires.order.once c.loop-place.invariant.places legal)

pub returns-in-Memory-clause-end : goal.returns-in-Memory-clause-end
returns-in-Memory-clause-end g c =
    let order = c.args.order.now in
    let place = get_or order c.loop-place.place-index 0 in
    let trace = g.R.Resources.trace c.loop-place.resources in
    inl (Tested place tests.Memory, (trace, c.test.ensures.trace ∙ ap (λ (a : TestAnswer). trace ++ Tested place a ∷ []) c.in-Memory.is), refl)

pub returns-in-Memory-clause-chain : goal.returns-in-Memory-clause-chain
returns-in-Memory-clause-chain g c = rw c.test.ensures.trace (chain_push g.R.Resources.does g.R.Resources.still _ _ _ _ _ _ g.met.R.Resources.still_does g.met.R.Resources.stays c.loop-place.invariant.chain c.test.ensures.does)

pub loop-place-preserved : goal.loop-place-preserved
loop-place-preserved g c =
    let order = c.args.order.now in
    let i = c.loop-place.place-index in
    let lt = c.loop-place-test.true in
    let so_far = c.loop-place.invariant in
    let trace = g.R.Resources.trace c.loop-place.resources in
    let entry = Tested (get_or order i 0) c.test.result in
    let may = may_test c.args.document.now order trace i lt so_far.places (order_below c.args.document.now order c.requires.order i 0 lt) c.requires.order.once so_far.goes_on in
    rw c.test.ensures.trace (record {
      places = places_push c.args.document.now order trace i lt so_far.places c.test.result;
      legal = legal_push c.args.document.now Monitor order trace entry so_far.legal may;
      goes_on = λ e ends last. c.in_default.not-Memory (subst IsFinal (sym (ends_with_push trace entry e ends)) last);
      chain = chain_push g.R.Resources.does g.R.Resources.still _ _ _ _ _ _ g.met.R.Resources.still_does g.met.R.Resources.stays so_far.chain c.test.ensures.does;
      faults = omega (arith, host_failures_push trace entry, so_far.faults, c.test.ensures.cause);
      later = omega (arith, so_far.later, c.test.ensures.later);
      used = omega (arith, so_far.used, c.test.ensures.capacity, length-append trace (entry ∷ []));
      capacity = omega (arith, so_far.capacity, c.test.ensures.capacity);
    })

pub test-requires-clause-place : goal.test-requires-clause-place
test-requires-clause-place g c = order_below c.args.document.now c.args.order.now c.requires.order c.loop-place.place-index 0 c.loop-place-test.true
