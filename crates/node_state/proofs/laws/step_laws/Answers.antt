use Rattle.node_state.proofs.SoundSteps.{steps_are_sound, steps_have_agents}
use Rattle.node_state.proofs.laws.step_laws.Goals as goal

pub returns : goal.returns
returns c = record { sound = steps_are_sound; agent = steps_have_agents }
