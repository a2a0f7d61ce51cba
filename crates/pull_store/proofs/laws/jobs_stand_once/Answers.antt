use Rattle.pull_store.proofs.SoundSteps.{once_with}
use Rattle.pull_store.proofs.Others.{body_with}
use Rattle.pull_store.proofs.laws.jobs_stand_once.Goals as goal

pub returns : goal.returns
returns c = record { once = once_with; last = body_with }
