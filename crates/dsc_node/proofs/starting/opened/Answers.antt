use Rattle.std.proofs.Common.{Some, None, false, refl, arith}
use Rattle.dsc_node.specs.Commands.{IsAllowed}
use Rattle.dsc_node.specs.Work.{clock_failed, not_allowed, waiting}
use Rattle.dsc_node.proofs.Commits.{ends_as, ends_here}
use Rattle.dsc_node.proofs.Plans.{failed_reads, said_waits, said_why, starts_before}
use Rattle.dsc_node.proofs.starting.opened.Goals as goal

pub returns-in-Some-clause-goes : goal.returns-in-Some-clause-goes
returns-in-Some-clause-goes g c =
    let is = said_why c.args.store.now.node c.state.result.now c.args.plan.needs c.why_not.result (Some c.in-Some.why) c.state.ensures c.why_not.ensures c.in-Some.is in
    record {
      ready = c.args.machine.now;
      run = None;
      leaves = record { trace = refl; packages = g.met.M.Machine.still_changed c.args.machine.now c.args.machine.now (g.met.M.Resources.stays c.args.machine.now); later = omega arith };
      ends = ends_here g.D.Disk c.requires.kept (λ from counts work. not_allowed c.in-Some.why is refl (c.silent.ensures.status, c.silent.ensures.lines));
    }

pub returns-then-waits-clause-goes : goal.returns-then-waits-clause-goes
returns-then-waits-clause-goes g c =
    let none = said_why c.args.store.now.node c.state.result.now c.args.plan.needs c.why_not.result None c.state.ensures c.why_not.ensures c.in_default.is in
    let is = said_waits c.args.store.now.node c.state-2.result.now c.args.plan c.waits.result _ c.state-2.ensures c.waits.ensures c.if-waits.true in
    record {
      ready = c.args.machine.now;
      run = None;
      leaves = record { trace = refl; packages = g.met.M.Machine.still_changed c.args.machine.now c.args.machine.now (g.met.M.Resources.stays c.args.machine.now); later = omega arith };
      ends = ends_here g.D.Disk c.requires.kept (λ from counts work. waiting none is refl (c.silent-then-waits.ensures.status, c.silent-then-waits.ensures.lines));
    }

pub returns-in_default-started-clause-goes : goal.returns-in_default-started-clause-goes
returns-in_default-started-clause-goes g c =
    let none = said_why c.args.store.now.node c.state.result.now c.args.plan.needs c.why_not.result None c.state.ensures c.why_not.ensures c.in_default.is in
    let ready = said_waits c.args.store.now.node c.state-2.result.now c.args.plan c.waits.result false c.state-2.ensures c.waits.ensures c.if-waits.false in
    let allowed : IsAllowed c.args.store.now.node c.args.plan = record { allowed = none; ready = ready } in
    let failed = failed_reads g.C.Clock c.args.plan.reads_clock c.started.result c.in_default-started.field-0 c.args.clock.now c.started.new.clock c.in_default-started.is c.started.ensures.starts in
    record {
      ready = c.args.machine.now;
      run = None;
      leaves = record { trace = refl; packages = g.met.M.Machine.still_changed c.args.machine.now c.args.machine.now (g.met.M.Resources.stays c.args.machine.now); later = omega arith };
      ends = ends_here g.D.Disk c.requires.kept (λ from counts work.
          clock_failed allowed failed.0 failed.1 failed.2 failed.3 refl refl (c.silent-in_default-started.ensures.status, c.silent-in_default-started.ensures.lines));
    }

pub carried_out-requires-clause-allowed : goal.carried_out-requires-clause-allowed
carried_out-requires-clause-allowed g c = said_why c.args.store.now.node c.state.result.now c.args.plan.needs c.why_not.result None c.state.ensures c.why_not.ensures c.in_default.is

pub returns-clause-goes : goal.returns-clause-goes
returns-clause-goes g c =
    let none = said_why c.args.store.now.node c.state.result.now c.args.plan.needs c.why_not.result None c.state.ensures c.why_not.ensures c.in_default.is in
    let ready = said_waits c.args.store.now.node c.state-2.result.now c.args.plan c.waits.result false c.state-2.ensures c.waits.ensures c.if-waits.false in
    let allowed : IsAllowed c.args.store.now.node c.args.plan = record { allowed = none; ready = ready } in
    let reads = starts_before g.C.Clock c.args.plan.reads_clock c.started.result c.in-Ok.start c.args.clock.now c.started.new.clock c.in-Ok.is c.started.ensures.starts in
    let goes = c.carried_out.ensures.goes in
    record {
      ready = goes.ready;
      run = goes.run;
      leaves = goes.leaves;
      ends = ends_as g.D.Disk goes.ends (λ from counts work committed broken table. table c.args.clock.now allowed reads);
    }
