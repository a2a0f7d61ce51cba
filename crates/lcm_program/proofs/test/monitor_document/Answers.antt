use Rattle.std.proofs.Common.{◌∙◌, ◌++◌, inr, ap}
use Rattle.lcm_core.specs.declared.modes.RunMode.TheVariants.{Monitor}
use Rattle.lcm_core.proofs.Successes.{legal_ends}
use Rattle.lcm_core.proofs.Traces.{legal_places}
use Rattle.dsc_node.specs.Lines.{overlap_line, run_lines}
use Rattle.lcm_program.specs.Further.{nothing_further_of_runs}
use Rattle.lcm_program.specs.Test.{Monitored}
use Rattle.lcm_program.proofs.Monitoring.{is_run_text, monitored_all}
use Rattle.lcm_program.proofs.test.monitor_document.Goals as goal

pub outcome_of-requires-clause-known : goal.outcome_of-requires-clause-known
outcome_of-requires-clause-known g c =
    rw c.calls.ensures (legal_places c.args.ordered.now.document Monitor c.args.ordered.now.order (g.M.Resources.trace c.run_merged.new.machine) c.run_merged.ensures.legal)

pub outcome_of-requires-clause-ends : goal.outcome_of-requires-clause-ends
outcome_of-requires-clause-ends g c =
    rw c.calls.ensures (legal_ends c.args.ordered.now.document Monitor c.args.ordered.now.order (g.M.Resources.trace c.run_merged.new.machine) c.run_merged.ensures.legal)

pub returns-in_err-outcome_of-in-Finished-clause-run : goal.returns-in_err-outcome_of-in-Finished-clause-run
returns-in_err-outcome_of-in-Finished-clause-run g c =
    inr (
      c.run_merged.result,
      record {
        order = c.args.ordered.now.order;
        is_order = c.requires.ordered.order;
        legal = c.run_merged.ensures.legal;
        whole = c.run_merged.ensures.whole;
        ended = c.run_merged.ensures.end;
        chain = c.run_merged.ensures.chain;
        failures = c.run_merged.ensures.faults;
        later = c.run_merged.ensures.later;
        more = tt;
      },
    )

pub returns-in_ok-outcome_of-in-Finished : goal.returns-in_ok-outcome_of-in-Finished
returns-in_ok-outcome_of-in-Finished g c =
    let document = c.args.ordered.now.document in
    let trace = g.M.Resources.trace c.run_merged.new.machine in
    let overlaps = c.in_ok-overlap.overlap in
    let run : Monitored g.M.Resources nothing_further_of_runs document c.run_merged.result c.args.machine.now c.run_merged.new.machine = record {
      order = c.args.ordered.now.order;
      is_order = c.requires.ordered.order;
      legal = c.run_merged.ensures.legal;
      whole = c.run_merged.ensures.whole;
      ended = c.run_merged.ensures.end;
      chain = c.run_merged.ensures.chain;
      failures = c.run_merged.ensures.faults;
      later = c.run_merged.ensures.later;
      more = tt;
    } in
    let all = monitored_all g.M.Resources document c.run_merged.result c.args.machine.now c.run_merged.new.machine c.in-Finished.is run in
    record {
      run = inr (c.run_merged.result, run);
      ok = all;
      lines = is_run_text document trace _ overlaps c.in_ok-overlap.ensures.apart c.in_ok-overlap.ensures.overlap
          (c.in_ok-outcome_of-in-Finished.ensures.lines ∙ ap (λ calls. run_lines document calls ++ overlap_line overlaps) c.calls.ensures);
      missed = rw c.calls.ensures at c.in_ok-outcome_of-in-Finished.ensures.missed;
    }

pub returns-in-Memory-clause-run : goal.returns-in-Memory-clause-run
returns-in-Memory-clause-run g c =
    inr (
      c.run_merged.result,
      record {
        order = c.args.ordered.now.order;
        is_order = c.requires.ordered.order;
        legal = c.run_merged.ensures.legal;
        whole = c.run_merged.ensures.whole;
        ended = c.run_merged.ensures.end;
        chain = c.run_merged.ensures.chain;
        failures = c.run_merged.ensures.faults;
        later = c.run_merged.ensures.later;
        more = tt;
      },
    )
