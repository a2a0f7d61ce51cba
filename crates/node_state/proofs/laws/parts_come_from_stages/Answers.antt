use Rattle.node_state.proofs.SlotSteps.{parts_come_from_stages}
use Rattle.node_state.proofs.laws.parts_come_from_stages.Goals as goal

pub returns : goal.returns
returns c = parts_come_from_stages
