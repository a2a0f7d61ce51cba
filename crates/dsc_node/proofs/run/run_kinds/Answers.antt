use Rattle.resource_kinds.specs.Kinds.{calls_of}
use Rattle.dsc_node.proofs.Runs.{kinds_tell}
use Rattle.dsc_node.proofs.run.run_kinds.Goals as goal

pub returns : goal.returns
returns g c =
    let run = c.run_merged.ensures in
    record {
      ran = record {
        is_order = c.requires.ordered.order;
        legal = run.legal;
        whole = run.whole;
        ended = run.end;
        is_true = kinds_tell g.H.Host.shown c.args.ordered.now.document c.args.kinds.now c.run_merged.new.machine (calls_of c.run_merged.new.machine) run.chain;
        failures = run.faults;
        later = run.later;
      };
      later = run.later;
      bound = run.bound;
    }
