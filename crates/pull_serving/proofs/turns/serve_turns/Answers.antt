use Rattle.std.proofs.Common.{◌≡◌, ◌+◌, ◌∙◌, [], ◌∷◌, ◌++◌, length, refl, sym, subst, arith}
use Rattle.std.specs.Io.KnownBytes.{Appends}
use Rattle.std.proofs.KnownBytes.{Appends-nil}
use Rattle.pull_store.proofs.Committed.{is_kept}
use Rattle.pull_serving.specs.declared.status.ServeStatus.{ServeStatus}
use Rattle.pull_serving.specs.declared.status.ServeStatus.TheVariants as statuses
use Rattle.pull_serving.specs.Printing.{Printed, lines, output_of, refusal_line}
use Rattle.pull_serving.specs.Turn.{state}
use Rattle.pull_serving.specs.Turns.{doorway_of}
use Rattle.pull_serving.proofs.Ends.{rose_earlier, writes_earlier}
use Rattle.pull_serving.proofs.Pushed.{prints_more, prints_part, run_push, run_start}
use Rattle.pull_serving.proofs.turns.serve_turns.Goals as goal

pub loop-number-init : goal.loop-number-init
loop-number-init g c = record {
  kept = c.requires;
  run = run_start g.A.Answerer.replies g.D.Disk c.args.disk.now (g.A.Answerer.store c.args.service.now) (g.S.Shelf.holds c.args.shelf.now) (g.S.Shelf.faults c.args.shelf.now)
      (doorway_of g.G.Door c.args.door.now)
      (λ turns. (length turns ≡ 0) × Appends (g.K.Ends.held c.args.output.now) (g.K.Ends.held c.args.output.now) (lines 1 turns))
      (g.met.D.Disk.only_now c.args.disk.now) c.requires (refl, Appends-nil (g.K.Ends.held c.args.output.now));
  holds = refl;
  door = omega arith;
  output = omega arith;
}

pub returns-in-Err-clause-run : goal.returns-in-Err-clause-run
returns-in-Err-clause-run g c =
    let first = state g.D.Disk c.args.disk.now (g.A.Answerer.store c.args.service.now) (g.S.Shelf.faults c.args.shelf.now) in
    let half = state g.D.Disk c.loop-number.disk (g.A.Answerer.store c.loop-number.service) (g.S.Shelf.faults c.loop-number.shelf) in
    let last = state g.D.Disk c.serve_next.new.disk (g.A.Answerer.store c.serve_next.new.service) (g.S.Shelf.faults c.serve_next.new.shelf) in
    let door = doorway_of g.G.Door c.args.door.now in
    let door1 = doorway_of g.G.Door c.loop-number.door in
    let door2 = doorway_of g.G.Door c.serve_next.new.door in
    let old = output_of g.K.Ends c.args.output.now in
    let new = output_of g.K.Ends c.write_all.new.sink in
    let is = c.as_bytes.ensures.value ∙ c.as_str.ensures.value ∙ c.line.ensures in
    let rose = rose_earlier old.faults (g.K.Ends.faults c.loop-number.output) new.faults c.loop-number.invariant.output c.in-Err.ensures.cause.failed in
    run_push g.A.Answerer.replies g.D.Disk c.args.disk.now c.loop-number.disk c.serve_next.new.disk (g.S.Shelf.holds c.args.shelf.now) (g.S.Shelf.holds c.loop-number.shelf) first half last door door1 door2 c.in-Ok.end
    (λ turns. (length turns ≡ c.loop-number.number) × Appends old.held (g.K.Ends.held c.loop-number.output) (lines 1 turns))
    (Printed c.args.count last (g.G.Door.faults c.args.door.now) (g.G.Door.faults c.serve_next.new.door) old new statuses.WriteFault)
    c.loop-number.invariant.run c.in-Ok.ensures.step c.loop-number.invariant.holds
    (λ ts t so_far same.
    let part = prints_part old.held (g.K.Ends.held c.loop-number.output) new.held c.loop-number.number c.in-Ok.end c.as_bytes.result.now is c.in-Err.ensures.err ts t so_far same in
    (omega (arith, part.0, c.loop-number-test.true), rose, part.1))

pub returns-then-is_spent-clause-run : goal.returns-then-is_spent-clause-run
returns-then-is_spent-clause-run g c =
    let first = state g.D.Disk c.args.disk.now (g.A.Answerer.store c.args.service.now) (g.S.Shelf.faults c.args.shelf.now) in
    let half = state g.D.Disk c.loop-number.disk (g.A.Answerer.store c.loop-number.service) (g.S.Shelf.faults c.loop-number.shelf) in
    let last = state g.D.Disk c.serve_next.new.disk (g.A.Answerer.store c.serve_next.new.service) (g.S.Shelf.faults c.serve_next.new.shelf) in
    let door = doorway_of g.G.Door c.args.door.now in
    let door1 = doorway_of g.G.Door c.loop-number.door in
    let door2 = doorway_of g.G.Door c.serve_next.new.door in
    let old = output_of g.K.Ends c.args.output.now in
    let mid = output_of g.K.Ends c.write_all.new.sink in
    let new = output_of g.K.Ends c.refuse-then-is_spent.new.output in
    let is = c.as_bytes.ensures.value ∙ c.as_str.ensures.value ∙ c.line.ensures in
    let spent = sym c.is_spent.ensures ∙ c.if-is_spent.true in
    run_push g.A.Answerer.replies g.D.Disk c.args.disk.now c.loop-number.disk c.serve_next.new.disk (g.S.Shelf.holds c.args.shelf.now) (g.S.Shelf.holds c.loop-number.shelf) first half last door door1 door2 c.in-Ok.end
    (λ turns. (length turns ≡ c.loop-number.number) × Appends old.held (g.K.Ends.held c.loop-number.output) (lines 1 turns))
    (Printed c.args.count last (g.G.Door.faults c.args.door.now) (g.G.Door.faults c.serve_next.new.door) old new c.refuse-then-is_spent.result)
    c.loop-number.invariant.run c.in-Ok.ensures.step c.loop-number.invariant.holds
    (λ ts t so_far same.
    let more = prints_more old.held (g.K.Ends.held c.loop-number.output) mid.held c.loop-number.number c.in-Ok.end c.as_bytes.result.now is c.in-Ok-write_all.ensures.ok ts t so_far same in
    subst (λ (s : ServeStatus). Printed c.args.count last (g.G.Door.faults c.args.door.now) (g.G.Door.faults c.serve_next.new.door) old new s (ts ++ t ∷ [])) (sym c.refuse-then-is_spent.ensures.status)
    (omega (arith, more.0, c.loop-number-test.true), spent, record { mid = mid.held; lines = more.1; refusal = writes_earlier mid.held new.held (refusal_line statuses.DiskFault) old.faults mid.faults new.faults (omega (arith, c.loop-number.invariant.output, c.write_all.ensures.cause.later)) c.refuse-then-is_spent.ensures.writes }))

pub loop-number-preserved : goal.loop-number-preserved
loop-number-preserved g c =
    let first = state g.D.Disk c.args.disk.now (g.A.Answerer.store c.args.service.now) (g.S.Shelf.faults c.args.shelf.now) in
    let half = state g.D.Disk c.loop-number.disk (g.A.Answerer.store c.loop-number.service) (g.S.Shelf.faults c.loop-number.shelf) in
    let last = state g.D.Disk c.serve_next.new.disk (g.A.Answerer.store c.serve_next.new.service) (g.S.Shelf.faults c.serve_next.new.shelf) in
    let door = doorway_of g.G.Door c.args.door.now in
    let door1 = doorway_of g.G.Door c.loop-number.door in
    let door2 = doorway_of g.G.Door c.serve_next.new.door in
    let is = c.as_bytes.ensures.value ∙ c.as_str.ensures.value ∙ c.line.ensures in
    record {
      kept = is_kept g.D.Disk c.serve_next.new.disk (g.A.Answerer.store c.serve_next.new.service) c.serve_next.ensures.ready (sym c.is_spent.ensures ∙ c.if-is_spent.false);
      run =
          run_push g.A.Answerer.replies g.D.Disk c.args.disk.now c.loop-number.disk c.serve_next.new.disk (g.S.Shelf.holds c.args.shelf.now) (g.S.Shelf.holds c.loop-number.shelf) first half last door door1 door2 c.in-Ok.end
          (λ turns. (length turns ≡ c.loop-number.number) × Appends (g.K.Ends.held c.args.output.now) (g.K.Ends.held c.loop-number.output) (lines 1 turns))
          (λ turns. (length turns ≡ c.loop-number.number + 1) × Appends (g.K.Ends.held c.args.output.now) (g.K.Ends.held c.write_all.new.sink) (lines 1 turns))
          c.loop-number.invariant.run c.in-Ok.ensures.step c.loop-number.invariant.holds
          (prints_more (g.K.Ends.held c.args.output.now) (g.K.Ends.held c.loop-number.output) (g.K.Ends.held c.write_all.new.sink) c.loop-number.number c.in-Ok.end c.as_bytes.result.now is c.in-Ok-write_all.ensures.ok);
      holds = c.serve_next.ensures.shelf ∙ c.loop-number.invariant.holds;
      door = omega (arith, c.loop-number.invariant.door, c.serve_next.ensures.door_count);
      output = omega (arith, c.loop-number.invariant.output, c.write_all.ensures.cause.later);
    }
