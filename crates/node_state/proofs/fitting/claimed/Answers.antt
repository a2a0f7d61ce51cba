use Rattle.node_state.proofs.Claims.{type_first}
use Rattle.node_state.proofs.fitting.claimed.Goals as goal

pub loop-left-init : goal.loop-left-init
loop-left-init c = type_first c.args.claim.now
