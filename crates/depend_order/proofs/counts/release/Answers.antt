use Rattle.std.proofs.Common.{◌<◌, ◌≡◌, ◌+◌, ◌-◌, ℕ, length, map, refl, set, slice_index, ◌∙◌, arith, length-set}
use Rattle.std.specs.BinaryHeap.{heap_items}
use Rattle.std.specs.declared.cmp.Reverse.{Reverse}
use Rattle.depend_order.proofs.Ready.{times_pushed}
use Rattle.depend_order.proofs.Releasing.{lowered_more, not_readied, readied, waits_here}
use Rattle.depend_order.proofs.Counting.{sum_lowered, zeros_lowered}
use Rattle.depend_order.proofs.Times.{none_is}
use Rattle.depend_order.proofs.counts.release.Goals as goal
use Rattle.depend_order.proofs.counts.release.Goals.{then-left-eq0+in_ok-push, else-left-eq0}

pub overflow_sub-left : goal.overflow_sub-left
overflow_sub-left g c =
    let i = c.loop-dependent.dependent-index in
    waits_here c.args.dependents.now c.args.waiting.now c.loop-dependent.waiting i (slice_index c.args.dependents.now i)
    c.loop-dependent-test.true refl c.loop-dependent.invariant.lowered c.requires.enough

pub loop-dependent-preserved : goal.loop-dependent-preserved
loop-dependent-preserved g c =
    let dependents = c.args.dependents.now in
    let start = c.args.waiting.now in
    let waiting = c.loop-dependent.waiting in
    let i = c.loop-dependent.dependent-index in
    let q = slice_index dependents i in
    let left = slice_index waiting q - 1 in
    let so_far = c.loop-dependent.invariant in
    let lt = c.loop-dependent-test.true in
    let waits = waits_here dependents start waiting i q lt refl so_far.lowered c.requires.enough in
    let below : q < length waiting = omega (arith, c.requires.below i 0 lt, so_far.size) in
    let size : length (set waiting q left) ≡ length start = length-set waiting q left ∙ so_far.size in
    let one_less : left + 1 ≡ slice_index waiting q = omega (arith, waits) in
    let lowered = lowered_more dependents start waiting i q lt refl so_far.lowered c.requires.enough left below one_less in
    let sums = sum_lowered waiting q left below one_less in
    let zero = zeros_lowered waiting q left below one_less in
    let first = map (λ (x : Reverse ℕ). x.0) (heap_items c.args.ready.now) in
    let ready = map (λ (x : Reverse ℕ). x.0) (heap_items c.loop-dependent.ready) in
    elim c.if-left-eq0.branch [
      | then-left-eq0+in_ok-push w ↦
          let pushed = times_pushed {X = Reverse ℕ} (λ x. x.0) _ (heap_items c.loop-dependent.ready) (heap_items w.push.new.self) w.in_ok-push.ensures.permutation in
          let now = map (λ (x : Reverse ℕ). x.0) (heap_items w.push.new.self) in
          rw (w.ready-is, w.steps-is) (record {
            size = size;
            lowered = lowered;
            ready = readied dependents start waiting i q lt refl so_far.lowered c.requires.enough left below one_less first ready so_far.ready now w.if-left-eq0.true pushed;
            heap = w.in_ok-push.ensures.heap_order so_far.heap;
            steps = omega (arith, so_far.steps, sums, zero, none_is left w.if-left-eq0.true, w.tick-then-left-eq0.ensures, c.tick.ensures);
          })
      | else-left-eq0 w ↦ rw (w.ready-is, w.steps-is) (record {
        size = size;
        lowered = lowered;
        ready = not_readied dependents start waiting i q lt refl so_far.lowered c.requires.enough left below one_less first ready so_far.ready (omega (arith, w.if-left-eq0.false));
        heap = so_far.heap;
        steps = omega (arith, so_far.steps, sums, zero, c.tick.ensures);
      })
    ]

pub returns-in_err-push-clause-steps : goal.returns-in_err-push-clause-steps
returns-in_err-push-clause-steps g c =
    let dependents = c.args.dependents.now in
    let start = c.args.waiting.now in
    let waiting = c.loop-dependent.waiting in
    let i = c.loop-dependent.dependent-index in
    let q = slice_index dependents i in
    let left = slice_index waiting q - 1 in
    let so_far = c.loop-dependent.invariant in
    let lt = c.loop-dependent-test.true in
    let waits = waits_here dependents start waiting i q lt refl so_far.lowered c.requires.enough in
    let below : q < length waiting = omega (arith, c.requires.below i 0 lt, so_far.size) in
    let one_less : left + 1 ≡ slice_index waiting q = omega (arith, waits) in
    omega (arith, so_far.steps, sum_lowered waiting q left below one_less, zeros_lowered waiting q left below one_less, c.tick.ensures)
