use Rattle.std.proofs.Common.{ℕ, List, take, ap, arith, rules}
use Rattle.std.proofs.lemmas.Grind.{common_steps}
use Rattle.std.proofs.lemmas.Result.{err_from_is_err_and}
use Rattle.dsc_terms.specs.Counts.{Rose}
use Rattle.dsc_outside.proofs.Moments.{still_here, still_then}
use Rattle.gate_log.proofs.Failing.{rose_sooner}
use Rattle.gate_log.proofs.WhatIsRead.{handed_none, handed_more, handed_all, unread_cell, untaken_cell}
use Rattle.gate_log.proofs.reading.read_cells.Goals as goal

pub loop-size-init : goal.loop-size-init
loop-size-init g c =
    let disk = c.args.disk.now in
    record {
      still = still_here g.D.Disk.shown g.D.Disk.images g.D.Disk.moment g.D.Disk.left_since disk (g.met.D.Disk.only_now disk);
      count = omega arith;
      limit = search rules;
      inside = search rules;
      capacity = omega arith;
      handed = handed_none c.args.shape c.args.second _ (g.D.Disk.shown disk) (g.R.Replay.took c.args.replay.now) c.requires.some c.begin-at.ensures c.requires.first;
    }

pub loop-size-preserved : goal.loop-size-preserved
loop-size-preserved g c =
    let disk = c.args.disk.now in
    let l = c.loop-size in
    let here = rw c.in-Some.is at c.in_ok-size.ensures.cell in
    let fits = rw c.in-Some.is at c.in_ok-size.ensures.fits in
    let enough = rw c.in-Some.is at c.in_ok-size.ensures.read in
    let is = ap (λ (b : List ℕ). take c.in-Some.size b) c.deref.ensures.value in
    record {
      still = still_then g.D.Disk.shown g.D.Disk.images g.D.Disk.moment g.D.Disk.left_since disk l.disk c.read_cell.new.disk l.invariant.still c.read_cell.ensures.still;
      count = omega (arith, l.invariant.count, c.read_cell.ensures.count);
      limit = l.invariant.limit;
      inside = grind (arith, common_steps, fits);
      capacity = omega (arith, l.invariant.capacity, c.read_cell.ensures.capacity);
      handed = handed_more c.args.shape c.args.second l.at c.in-Some.size (g.D.Disk.shown disk) (g.D.Disk.shown l.disk) (g.R.Replay.took l.replay) (g.R.Replay.took c.hand_on.new.replay) c.read_cell.new.buffer.items (take c.in-Some.size c.deref.result.now) l.invariant.handed is enough
          (grind (arith, common_steps, fits, l.invariant.limit)) l.invariant.still.same here (c.in_ok-hand_on.ensures.taken l.invariant.handed.bodies l.invariant.handed.took);
    }

pub returns-in_err-size-clause-cause : goal.returns-in_err-size-clause-cause
returns-in_err-size-clause-cause g c =
    let p = err_from_is_err_and c.from_residual.result c.from_residual.ensures.1 in
    let l = c.loop-size in
    let cause = unread_cell _ (Rose (g.D.Disk.faults c.args.disk.now) (g.D.Disk.faults c.read_cell.new.disk)) c.args.shape c.args.second l.at _ (g.D.Disk.shown c.args.disk.now) (g.D.Disk.shown l.disk) (g.R.Replay.took l.replay) (g.R.Replay.refused l.replay)
    c.in_err-size.field-0.0 l.invariant.handed l.invariant.still.same l.invariant.limit (rose_sooner _ _ _ l.invariant.count) c.in_err-size.ensures.cause in
    rw (p.1, p.2) cause

pub returns-in_err-hand_on-clause-cause : goal.returns-in_err-hand_on-clause-cause
returns-in_err-hand_on-clause-cause g c =
    let p = err_from_is_err_and c.from_residual-in_err-hand_on.result c.from_residual-in_err-hand_on.ensures.1 in
    let l = c.loop-size in
    let here = rw c.in-Some.is at c.in_ok-size.ensures.cell in
    let fits = rw c.in-Some.is at c.in_ok-size.ensures.fits in
    let enough = rw c.in-Some.is at c.in_ok-size.ensures.read in
    let is = ap (λ (b : List ℕ). take c.in-Some.size b) c.deref.ensures.value in
    let cause = untaken_cell (Rose (g.D.Disk.faults c.args.disk.now) (g.D.Disk.faults c.read_cell.new.disk)) c.args.shape c.args.second l.at c.in-Some.size (g.D.Disk.shown c.args.disk.now) (g.D.Disk.shown l.disk) (g.R.Replay.took l.replay) (g.R.Replay.took c.hand_on.new.replay)
    (g.R.Replay.refused c.hand_on.new.replay) c.read_cell.new.buffer.items (take c.in-Some.size c.deref.result.now) c.in_err-hand_on.field-0.0 l.invariant.handed is enough (grind (arith, common_steps, fits, l.invariant.limit)) l.invariant.still.same here
    (c.in_err-hand_on.ensures.refused l.invariant.handed.bodies l.invariant.handed.took) in
    rw (p.1, p.2) cause

pub returns-clause-cells : goal.returns-clause-cells
returns-clause-cells g c =
    let l = c.loop-size in
    handed_all _ c.args.shape c.args.second l.at (g.D.Disk.shown c.args.disk.now) (g.D.Disk.shown l.disk) (g.R.Replay.took l.replay) c.in_ok-size.field-0 (search rules) l.invariant.handed l.invariant.still.same c.in_ok-size.ensures.cell
