use Rattle.node_state.proofs.FittingParts.{fitting_are_taken}
use Rattle.node_state.proofs.laws.fitting_are_taken.Goals as goal

pub returns : goal.returns
returns c = fitting_are_taken
