use Rattle.std.proofs.Common.{sym}
use Rattle.dsc_node.proofs.KnownDocuments.{known_chosen}
use Rattle.dsc_node.proofs.RunReports.{chosen_staged}
use Rattle.dsc_node.proofs.running.run_step.Goals as goal

pub prepared-requires : goal.prepared-requires
prepared-requires g c =
    let chosen = sym (rw c.in-Some.is at c.chosen_of.ensures) in
    record {
      staged = chosen_staged c.args.stopped c.args.node.now _ c.requires.sound chosen;
      known = known_chosen c.args.stopped c.args.node.now _ chosen c.args.document c.requires.document;
    }

pub run_ready-requires-clause-staged : goal.run_ready-requires-clause-staged
run_ready-requires-clause-staged g c = chosen_staged c.args.stopped c.args.node.now _ c.requires.sound (sym (rw c.in-Some.is at c.chosen_of.ensures))
