use Rattle.node_store.proofs.Meaning.{failing_for_none, one_node, sound_node}
use Rattle.node_store.proofs.laws.images_have_one_meaning.Goals as goal

pub returns : goal.returns
returns c = record { one = one_node; sound = sound_node; none = failing_for_none }
