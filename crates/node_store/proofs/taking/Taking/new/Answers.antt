use Rattle.std.proofs.Common.{[], false, sym, subst}
use Rattle.node_state.specs.declared.node.Node.{Node}
use Rattle.node_store.specs.Taking.{Reached}
use Rattle.node_store.proofs.Runs.{nothing_reached}
use Rattle.node_store.proofs.taking.Taking.new.Goals as goal

pub returns : goal.returns
returns c = subst (λ (n : Node). Reached n false []) (sym c.new.ensures) nothing_reached
