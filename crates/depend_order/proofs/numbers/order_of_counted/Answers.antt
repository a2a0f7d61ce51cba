use Rattle.std.proofs.Common.{◌≡◌, ◌<◌, ◌+◌, ◌-◌, ℕ, List, [], ◌∷◌, drop, length, map, slice_index, sym, ◌∙◌, ap, arith, length-append}
use Rattle.std.proofs.lemmas.List.{length-map, take_at}
use Rattle.std.proofs.lemmas.List.Sums.{sum-map}
use Rattle.std.specs.Prelude.{sum, vec_len}
use Rattle.std.specs.BinaryHeap.{heap_items}
use Rattle.std.specs.declared.cmp.Reverse.{Reverse}
use Rattle.depend_order.specs.Counts.{none_left, times, zeros}
use Rattle.depend_order.specs.Cycle.{DependsOn}
use Rattle.depend_order.specs.Numbers.{Lists, numbers_of}
use Rattle.depend_order.proofs.Counting.{zeros_at_most}
use Rattle.depend_order.proofs.Cycles.{never_both}
use Rattle.depend_order.proofs.NumberLemmas.{numbers_of_read}
use Rattle.depend_order.proofs.Orders.{earliest_count, earliest_none, earliest_push}
use Rattle.depend_order.proofs.Placing.{all_placed, counted_first, counted_push, dependents_below, enough, least_left, readied_push, ready_next, ready_place, place_left, stuck, times_none}
use Rattle.depend_order.proofs.Ready.{least_popped, popped_some, times_popped}
use Rattle.depend_order.proofs.numbers.order_of_counted.Goals as goal

-- the places of the heap
abbrev places : List (Reverse ℕ) → List ℕ
places items = map (λ x. x.0) items

pub loop-place-init : goal.loop-place-init
loop-place-init g c =
    let depends = c.args.depends.now in
    let ready = rw c.deref.ensures.value at c.in_ok-ready.ensures.ready in
    rw c.new-order.ensures.items (record {
      earliest = earliest_none (length depends) (DependsOn (Lists depends));
      counted = counted_first depends c.in_ok-waiting.waiting.items c.in_ok-waiting.ensures;
      readied = ready;
      heap = c.in_ok-ready.ensures.heap;
      steps = omega (arith, c.first_ready.ensures.steps, ap zeros c.deref.ensures.value, ap sum c.in_ok-waiting.ensures, sum-map vec_len depends);
    })

pub index-requires : goal.index-requires
index-requires g c =
    let so_far = c.loop-place.invariant in
    let place = c.in-Some.field-0.0 in
    let ready = heap_items c.loop-place.ready in
    let some = popped_some {X = Reverse ℕ} (λ x. x.0) c.in-Some.field-0 ready (heap_items c.pop.new.self) c.in-Some.ensures.permutation in
    let lt = ready_place c.args.depends.now c.loop-place.order.items c.loop-place.waiting.items (places ready) so_far.counted so_far.readied place some in
    omega (arith, lt, so_far.counted.size, c.in_ok-dependents.ensures.count, c.in_ok-dependents.dependents.ok)

pub release-requires-clause-below : goal.release-requires-clause-below
release-requires-clause-below g c =
    let so_far = c.loop-place.invariant in
    let depends = c.args.depends.now in
    let dependents = c.in_ok-dependents.dependents.items in
    let place = c.in-Some.field-0.0 in
    let ready = heap_items c.loop-place.ready in
    let some = popped_some {X = Reverse ℕ} (λ x. x.0) c.in-Some.field-0 ready (heap_items c.pop.new.self) c.in-Some.ensures.permutation in
    let lt = ready_place depends c.loop-place.order.items c.loop-place.waiting.items (places ready) so_far.counted so_far.readied place some in
    let within : place < length dependents = omega (arith, lt, so_far.counted.size, c.in_ok-dependents.ensures.count) in
    let read : numbers_of dependents place ≡ c.deref-in-Some.result.now =
    numbers_of_read dependents place c.index.result.now within c.index.ensures ∙ sym c.deref-in-Some.ensures.value in
    let below = dependents_below depends dependents place c.in_ok-dependents.ensures in
    let all = rw read at below in
    λ k d inside. omega (arith, all k d inside, so_far.counted.size, ap length c.deref_mut.ensures.value)

pub release-requires-clause-enough : goal.release-requires-clause-enough
release-requires-clause-enough g c =
    let so_far = c.loop-place.invariant in
    let depends = c.args.depends.now in
    let dependents = c.in_ok-dependents.dependents.items in
    let place = c.in-Some.field-0.0 in
    let waiting = c.loop-place.waiting.items in
    let ready = heap_items c.loop-place.ready in
    let some = popped_some {X = Reverse ℕ} (λ x. x.0) c.in-Some.field-0 ready (heap_items c.pop.new.self) c.in-Some.ensures.permutation in
    let lt = ready_place depends c.loop-place.order.items waiting (places ready) so_far.counted so_far.readied place some in
    let within : place < length dependents = omega (arith, lt, so_far.counted.size, c.in_ok-dependents.ensures.count) in
    let read : numbers_of dependents place ≡ c.deref-in-Some.result.now =
    numbers_of_read dependents place c.index.result.now within c.index.ensures ∙ sym c.deref-in-Some.ensures.value in
    λ r. omega (
      arith,
      ap (times r) read,
      ap (λ (xs : List ℕ). slice_index xs r) c.deref_mut.ensures.value,
      enough depends c.loop-place.order.items waiting (places ready) so_far.counted so_far.readied place some dependents c.in_ok-dependents.ensures r,
    )

pub loop-place-smaller : goal.loop-place-smaller
loop-place-smaller g c =
    let so_far = c.loop-place.invariant in
    let depends = c.args.depends.now in
    let order = c.loop-place.order.items in
    let x = c.in-Some.field-0 in
    let ready = heap_items c.loop-place.ready in
    let some = popped_some {X = Reverse ℕ} (λ x. x.0) x ready (heap_items c.pop.new.self) c.in-Some.ensures.permutation in
    let top = c.in-Some.ensures.heap_order so_far.heap in
    let within = place_left depends order c.loop-place.waiting.items (places ready) so_far.counted so_far.readied x.0 some
    (λ s has. least_popped {X = Reverse ℕ} (λ x. x.0) x ready top.1 s has) so_far.earliest in
    let smaller : length depends - length c.push.new.self.items < length depends - length order =
    omega (arith, within, c.in_ok-push.ensures.len, c.push.new.self.ok, c.loop-place.order.ok) in
    smaller

pub loop-place-preserved : goal.loop-place-preserved
loop-place-preserved g c =
    let so_far = c.loop-place.invariant in
    let depends = c.args.depends.now in
    let dependents = c.in_ok-dependents.dependents.items in
    let order = c.loop-place.order.items in
    let waiting = c.loop-place.waiting.items in
    let x = c.in-Some.field-0 in
    let ready = heap_items c.loop-place.ready in
    let left = heap_items c.pop.new.self in
    let now = heap_items c.release.new.ready in
    let lowered = c.release.new.waiting in
    let some = popped_some {X = Reverse ℕ} (λ x. x.0) x ready left c.in-Some.ensures.permutation in
    let taken = times_popped {X = Reverse ℕ} (λ x. x.0) x ready left c.in-Some.ensures.permutation in
    let lt = ready_place depends order waiting (places ready) so_far.counted so_far.readied x.0 some in
    let within : x.0 < length dependents = omega (arith, lt, so_far.counted.size, c.in_ok-dependents.ensures.count) in
    let read : numbers_of dependents x.0 ≡ c.deref-in-Some.result.now =
    numbers_of_read dependents x.0 c.index.result.now within c.index.ensures ∙ sym c.deref-in-Some.ensures.value in
    let top = c.in-Some.ensures.heap_order so_far.heap in
    let next = ready_next depends order waiting (places ready) so_far.counted so_far.readied x.0 some
    (λ s has. least_popped {X = Reverse ℕ} (λ x. x.0) x ready top.1 s has) in
    let size : length lowered ≡ length waiting = c.release.ensures.len ∙ ap length c.deref_mut.ensures.value in
    let lowers : (s : ℕ) → slice_index lowered s + times s (numbers_of dependents x.0) ≡ slice_index waiting s =
    λ s. omega (arith, c.in_ok-release.ensures.lowered s, ap (times s) read, ap (λ (xs : List ℕ). slice_index xs s) c.deref_mut.ensures.value) in
    let readies : (s : ℕ) → times s (places now) + none_left (slice_index waiting s) ≡ times s (places left) + none_left (slice_index lowered s) =
    λ s. omega (arith, c.in_ok-release.ensures.ready s, ap (λ (xs : List ℕ). none_left (slice_index xs s)) c.deref_mut.ensures.value) in
    let whole : length lowered ≡ c.loop-place.waiting.len = omega (arith, size, c.loop-place.waiting.ok) in
    rw (c.in_ok-push.ensures.items, take_at lowered (drop (length lowered) waiting) c.loop-place.waiting.len whole) (record {
      earliest = earliest_push (length depends) (DependsOn (Lists depends)) order x.0 so_far.earliest next;
      counted = counted_push depends order waiting (places ready) so_far.counted so_far.readied x.0 some dependents c.in_ok-dependents.ensures lowered (places left) (places now) size lowers taken readies;
      readied = readied_push depends order waiting (places ready) so_far.counted so_far.readied x.0 some dependents c.in_ok-dependents.ensures lowered (places left) (places now) size lowers taken readies;
      heap = c.in_ok-release.ensures.heap;
      steps = omega (
        arith,
        so_far.steps,
        c.tick.ensures,
        c.release.ensures.steps,
        ap sum c.deref_mut.ensures.value,
        ap zeros c.deref_mut.ensures.value,
        length-append order (x.0 ∷ []),
      );
    })

pub returns-in-None-clause-order : goal.returns-in-None-clause-order
returns-in-None-clause-order g c =
    let so_far = c.loop-place.invariant in
    let ready = heap_items c.loop-place.ready in
    let empty : length (places ready) ≡ 0 = omega (arith, length-map ready (λ (x : Reverse ℕ). x.0), c.in_default.ensures.none, c.loop-place.ready.data.ok) in
    let none = rw c.deref-2.ensures.value at c.in-None.ensures.none in
    all_placed c.args.depends.now c.loop-place.order.items c.loop-place.waiting.items (places ready) so_far.counted so_far.readied so_far.earliest
    (λ r. times_none r (places ready) empty) none

pub closed_walk-requires-clause-start : goal.closed_walk-requires-clause-start
closed_walk-requires-clause-start g c =
    let so_far = c.loop-place.invariant in
    let ready = heap_items c.loop-place.ready in
    let empty : length (places ready) ≡ 0 = omega (arith, length-map ready (λ (x : Reverse ℕ). x.0), c.in_default.ensures.none, c.loop-place.ready.data.ok) in
    let start = rw c.deref-2.ensures.value at c.in-Some-first_waiting.ensures in
    least_left c.args.depends.now c.loop-place.order.items c.loop-place.waiting.items (places ready) so_far.counted so_far.readied so_far.earliest
    (λ r. times_none r (places ready) empty) c.in-Some-first_waiting.start start.found start.waits start.least

pub closed_walk-requires-clause-stuck : goal.closed_walk-requires-clause-stuck
closed_walk-requires-clause-stuck g c =
    let so_far = c.loop-place.invariant in
    let ready = heap_items c.loop-place.ready in
    let empty : length (places ready) ≡ 0 = omega (arith, length-map ready (λ (x : Reverse ℕ). x.0), c.in_default.ensures.none, c.loop-place.ready.data.ok) in
    rw c.deref-in-Some-first_waiting.ensures.value
    (stuck c.args.depends.now c.loop-place.order.items c.loop-place.waiting.items (places ready) so_far.counted so_far.readied so_far.earliest
    (λ r. times_none r (places ready) empty) c.requires.below)

pub returns-clause-no_order : goal.returns-clause-no_order
returns-clause-no_order g c = λ order is. never_both (length c.args.depends.now) (Lists c.args.depends.now) order _ is c.in_ok-cycle-in-Some-first_waiting.ensures

pub returns-in_err-release-clause-steps : goal.returns-in_err-release-clause-steps
returns-in_err-release-clause-steps g c =
    let so_far = c.loop-place.invariant in
    let depends = c.args.depends.now in
    let waiting = c.loop-place.waiting.items in
    let x = c.in-Some.field-0 in
    let ready = heap_items c.loop-place.ready in
    let some = popped_some {X = Reverse ℕ} (λ x. x.0) x ready (heap_items c.pop.new.self) c.in-Some.ensures.permutation in
    let top = c.in-Some.ensures.heap_order so_far.heap in
    let within = place_left depends c.loop-place.order.items waiting (places ready) so_far.counted so_far.readied x.0 some
    (λ s has. least_popped {X = Reverse ℕ} (λ x. x.0) x ready top.1 s has) so_far.earliest in
    omega (
      arith,
      so_far.steps,
      c.tick.ensures,
      c.release.ensures.steps,
      ap sum c.deref_mut.ensures.value,
      ap zeros c.deref_mut.ensures.value,
      zeros_at_most c.release.new.waiting,
      c.release.ensures.len,
      ap length c.deref_mut.ensures.value,
      so_far.counted.size,
      within,
    )

pub returns-in_err-push-clause-steps : goal.returns-in_err-push-clause-steps
returns-in_err-push-clause-steps g c =
    let so_far = c.loop-place.invariant in
    let depends = c.args.depends.now in
    let waiting = c.loop-place.waiting.items in
    let x = c.in-Some.field-0 in
    let ready = heap_items c.loop-place.ready in
    let some = popped_some {X = Reverse ℕ} (λ x. x.0) x ready (heap_items c.pop.new.self) c.in-Some.ensures.permutation in
    let top = c.in-Some.ensures.heap_order so_far.heap in
    let within = place_left depends c.loop-place.order.items waiting (places ready) so_far.counted so_far.readied x.0 some
    (λ s has. least_popped {X = Reverse ℕ} (λ x. x.0) x ready top.1 s has) so_far.earliest in
    omega (
      arith,
      so_far.steps,
      c.tick.ensures,
      c.release.ensures.steps,
      ap sum c.deref_mut.ensures.value,
      ap zeros c.deref_mut.ensures.value,
      zeros_at_most c.release.new.waiting,
      c.release.ensures.len,
      ap length c.deref_mut.ensures.value,
      so_far.counted.size,
      within,
    )

pub returns-in-None-clause-steps : goal.returns-in-None-clause-steps
returns-in-None-clause-steps g c =
    let so_far = c.loop-place.invariant in
    omega (
      arith,
      so_far.steps,
      zeros_at_most c.loop-place.waiting.items,
      so_far.counted.size,
      earliest_count (length c.args.depends.now) (DependsOn (Lists c.args.depends.now)) c.loop-place.order.items so_far.earliest,
    )

pub returns-in_err-cycle-in-Some-first_waiting-clause-steps : goal.returns-in_err-cycle-in-Some-first_waiting-clause-steps
returns-in_err-cycle-in-Some-first_waiting-clause-steps g c =
    let so_far = c.loop-place.invariant in
    omega (
      arith,
      so_far.steps,
      zeros_at_most c.loop-place.waiting.items,
      so_far.counted.size,
      earliest_count (length c.args.depends.now) (DependsOn (Lists c.args.depends.now)) c.loop-place.order.items so_far.earliest,
    )

pub returns-clause-steps : goal.returns-clause-steps
returns-clause-steps g c =
    let so_far = c.loop-place.invariant in
    omega (
      arith,
      so_far.steps,
      zeros_at_most c.loop-place.waiting.items,
      so_far.counted.size,
      earliest_count (length c.args.depends.now) (DependsOn (Lists c.args.depends.now)) c.loop-place.order.items so_far.earliest,
    )
