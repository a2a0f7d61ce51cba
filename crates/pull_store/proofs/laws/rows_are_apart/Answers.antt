use Rattle.pull_store.proofs.SoundSteps.{sound_after}
use Rattle.pull_store.proofs.Others.{others_stay, stands_sound}
use Rattle.pull_store.proofs.laws.rows_are_apart.Goals as goal

pub returns : goal.returns
returns c = record { sound = stands_sound; keep = λ old new change are changes. sound_after old new change are changes; others = others_stay }
