use Rattle.std.proofs.Common.{refl}
use Rattle.agent_line.proofs.json.push_text.Goals as goal

pub push_value-requires : goal.push_value-requires
push_value-requires c = rw c.in_ok-value.ensures refl
