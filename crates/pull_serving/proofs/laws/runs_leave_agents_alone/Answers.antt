use Rattle.std.proofs.Common.{inl}
use Rattle.pull_server.specs.Answers.{Replies}
use Rattle.pull_serving.specs.Alone.{NoneApart}
use Rattle.pull_serving.proofs.Alone.{runs_alone}
use Rattle.pull_serving.proofs.laws.runs_leave_agents_alone.Goals as goal

pub returns : goal.returns
returns c = runs_alone Replies NoneApart (λ store contents request rose reply rows told. inl told)
