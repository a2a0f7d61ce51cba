use Rattle.node_state.proofs.Building.{fronts_build, fronts_are_small, built_is_sound}
use Rattle.node_state.proofs.laws.piece_laws.Goals as goal

pub returns : goal.returns
returns c = record { built = fronts_build; small = fronts_are_small; sound = built_is_sound }
