use Rattle.agent_line.proofs.NoFloat.{unmet_no_float}
use Rattle.agent_line.proofs.unmet.push_unmet.Goals as goal

pub push_value-requires : goal.push_value-requires
push_value-requires c = rw c.in_ok-value.ensures (unmet_no_float c.args.errors.now)
