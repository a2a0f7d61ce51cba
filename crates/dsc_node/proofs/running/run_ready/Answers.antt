use Rattle.std.proofs.Common.{List, inr, refl, sym, subst}
use Rattle.resource_kinds.specs.declared.entry.Entry.{Entry}
use Rattle.lcm_core.specs.RepairLaws.{IsReportable}
use Rattle.dsc_node.specs.Runs.{Choice}
use Rattle.dsc_node.proofs.RunReports.{frame_in_size, framed, ran_of, reportable, reported_of, the_run}
use Rattle.dsc_node.proofs.running.run_ready.Goals as goal

pub returns-in-Memory-clause-step : goal.returns-in-Memory-clause-step
returns-in-Memory-clause-step g c =
    let choice : Choice = record { parts = c.args.chosen.parts.now; mode = c.args.chosen.mode; pending = c.args.chosen.pending } in
    let document = c.args.ready.ordered.document in
    let order = c.args.ready.ordered.order in
    let r = c.run_merged-end.ensures in
    λ stopped chosen. (
      inr (
        the_run g.M.Resources choice document order c.run_merged-end.result c.args.machine.now c.run_merged-end.new.machine,
        record {
          chosen = chosen;
          ran = ran_of g.M.Resources choice document order c.run_merged-end.result c.args.machine.now c.run_merged-end.new.machine
              c.requires.ready.merged c.requires.ready.ordered.order r.legal r.whole r.end r.chain r.faults r.later;
          ended = c.in-Memory.is;
        },
      ),
      refl,
    )

pub report_of-report-requires : goal.report_of-report-requires
report_of-report-requires g c =
    let choice : Choice = record { parts = c.args.chosen.parts.now; mode = c.args.chosen.mode; pending = c.args.chosen.pending } in
    let document = c.args.ready.ordered.document in
    let order = c.args.ready.ordered.order in
    let r = c.run_merged-end.ensures in
    let ran = ran_of g.M.Resources choice document order c.run_merged-end.result c.args.machine.now c.run_merged-end.new.machine
    c.requires.ready.merged c.requires.ready.ordered.order r.legal r.whole r.end r.chain r.faults r.later in
    let run = the_run g.M.Resources choice document order c.run_merged-end.result c.args.machine.now c.run_merged-end.new.machine in
    let shown = subst (λ (t : List Entry). IsReportable document t) (sym c.calls.ensures) (reportable c.report_laws.ensures.runs g.M.Resources run c.args.machine.now c.run_merged-end.new.machine ran c.in_default.not-Memory) in
    record {
      room = c.requires.ready.room;
      document = c.requires.ready.in_size;
      known = shown.known;
      memory = shown.memory;
      settled = λ place at lt. shown.settled place at;
      frame = frame_in_size c.args.chosen.parts.now _ c.requires.staged.named c.requires.ready.marks c.requires.moment c.end_of.ensures.moment;
    }

pub returns : goal.returns
returns g c =
    let choice : Choice = record { parts = c.args.chosen.parts.now; mode = c.args.chosen.mode; pending = c.args.chosen.pending } in
    let document = c.args.ready.ordered.document in
    let order = c.args.ready.ordered.order in
    let r = c.run_merged-end.ensures in
    let ran = ran_of g.M.Resources choice document order c.run_merged-end.result c.args.machine.now c.run_merged-end.new.machine
    c.requires.ready.merged c.requires.ready.ordered.order r.legal r.whole r.end r.chain r.faults r.later in
    let run = the_run g.M.Resources choice document order c.run_merged-end.result c.args.machine.now c.run_merged-end.new.machine in
    record {
      step = λ stopped chosen. (
        record {
          parts = c.args.chosen.parts.now;
          mode = c.args.chosen.mode;
          order = order;
          reported = reported_of g.M.Resources c.args.node.now stopped (g.C.Clock.coming c.args.clock.now) c.args.start run c.report_of-report.result c.args.machine.now c.run_merged-end.new.machine
              c.end_of.ensures.time.0 _ c.calls.result.now chosen ran c.in_default.not-Memory c.end_of.ensures.time.1
              (framed c.args.node.now choice c.args.start c.is_pull.result c.end_of.result c.args.ready.marks c.end_of.ensures.time.0 c.is_pull.ensures c.end_of.ensures.time.2 c.requires.ready.marks)
              c.calls.ensures c.report_of-report.ensures.report c.report_of-report.ensures.in_size;
          found = c.requires.ready.found;
        },
        c.end_of.ensures.took,
      );
      later = c.end_of.ensures.later;
    }
