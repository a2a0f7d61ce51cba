use Rattle.memory_outside.proofs.Named.{value_put}
use Rattle.memory_outside.proofs.variable.put_value.Goals as goal

pub returns-clause-ok : goal.returns-clause-ok
returns-clause-ok c = value_put _ c.args.name.now c.args.value.now _ c.remove_value.new.variables.items _ c.in_ok-variable.ensures c.push.ensures (rw c.reserve.ensures.items at c.remove_value.ensures.removed)
