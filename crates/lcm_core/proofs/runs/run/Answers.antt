use Rattle.lcm_core.specs.declared.modes.RunMode.TheVariants.{Monitor, Repair}
use Rattle.lcm_core.proofs.Bounded.{at_most}
use Rattle.lcm_core.proofs.runs.run.Goals as goal

pub returns-in-Monitor-clause-bound : goal.returns-in-Monitor-clause-bound
returns-in-Monitor-clause-bound g c = λ r. at_most c.args.document.now Monitor c.args.order.now _ r c.monitor.ensures.legal

pub returns-in-Repair-clause-bound : goal.returns-in-Repair-clause-bound
returns-in-Repair-clause-bound g c = λ r. at_most c.args.document.now Repair c.args.order.now _ r c.repair_by_names.ensures.legal
