use Rattle.pull_serving.proofs.CompleteRuns.{valid_runs_complete}
use Rattle.pull_serving.proofs.laws.valid_runs_complete.Goals as goal

pub returns : goal.returns
returns g c = valid_runs_complete g.A.Answerer.replies g.D.Disk
