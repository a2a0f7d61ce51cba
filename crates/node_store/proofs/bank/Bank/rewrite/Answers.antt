use Rattle.node_state.specs.Table.{after}
use Rattle.node_store.proofs.BankRewritten.{chosen_all}
use Rattle.node_store.proofs.bank.Bank.rewrite.Goals as goal

pub returns-clause-there : goal.returns-clause-there
returns-clause-there g c =
    chosen_all c.keep-apart.new.self (after c.args.node.now c.args.event.now) c.pending_after.result c.current_after.result c.previous_after.result c.pending_after.ensures c.current_after.ensures c.previous_after.ensures c.keep-apart.result c.keep-apart.ensures
