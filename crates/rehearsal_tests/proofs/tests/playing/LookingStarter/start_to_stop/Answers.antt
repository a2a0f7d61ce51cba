use Rattle.pull_serving.specs.ServerLinks.{server_stays}
use Rattle.rehearsal_tests.proofs.tests.playing.LookingStarter.start_to_stop.Goals as goal

pub returns-clause-again : goal.returns-clause-again
returns-clause-again c = λ all image left. all image (c.look.ensures image left)

pub returns-clause-becomes : goal.returns-clause-becomes
returns-clause-becomes c = server_stays _ _ _
