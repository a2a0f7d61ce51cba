use Rattle.agent_line.proofs.NoFloat.{texts_no_float}
use Rattle.agent_line.proofs.json.push_texts.Goals as goal

pub push_value-requires : goal.push_value-requires
push_value-requires c = rw c.in_ok-value.ensures (texts_no_float c.args.texts.now)
