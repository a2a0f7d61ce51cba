use Rattle.std.proofs.Common.{ℕ, map, slice_index, arith}
use Rattle.std.specs.BinaryHeap.{heap_items}
use Rattle.std.specs.declared.cmp.Reverse.{Reverse}
use Rattle.depend_order.proofs.Ready.{times_pushed}
use Rattle.depend_order.proofs.Releasing.{after_ready, passed_ready, passed_waiting}
use Rattle.depend_order.proofs.Counting.{zeros_more}
use Rattle.depend_order.proofs.Times.{none_is}
use Rattle.depend_order.proofs.counts.first_ready.Goals as goal
use Rattle.depend_order.proofs.counts.first_ready.Goals.{then-left-eq0+in_ok-push, else-left-eq0}

pub loop-place-preserved : goal.loop-place-preserved
loop-place-preserved g c =
    let waiting = c.args.waiting.now in
    let i = c.loop-place.place in
    let so_far = c.loop-place.invariant in
    let zero = zeros_more waiting i c.loop-place-test.true in
    let ready = map (λ (x : Reverse ℕ). x.0) (heap_items c.loop-place.ready) in
    elim c.if-left-eq0.branch [
      | then-left-eq0+in_ok-push w ↦
          let pushed = times_pushed {X = Reverse ℕ} (λ x. x.0) _ (heap_items c.loop-place.ready) (heap_items w.push.new.self) w.in_ok-push.ensures.permutation in
          let now = map (λ (x : Reverse ℕ). x.0) (heap_items w.push.new.self) in
          rw (w.ready-is, w.steps-is) (record {
            heap = w.in_ok-push.ensures.heap_order so_far.heap;
            passed = passed_ready waiting ready i so_far.passed so_far.after now w.if-left-eq0.true pushed;
            after = after_ready waiting ready i so_far.passed so_far.after now pushed;
            steps = omega (arith, so_far.steps, zero, none_is (slice_index waiting i) w.if-left-eq0.true, w.tick.ensures);
          })
      | else-left-eq0 w ↦ rw (w.ready-is, w.steps-is) (record {
        heap = so_far.heap;
        passed = passed_waiting waiting ready i so_far.passed so_far.after (omega (arith, w.if-left-eq0.false));
        after = λ r past. so_far.after r (omega (arith, past));
        steps = omega (arith, so_far.steps, zero);
      })
    ]
