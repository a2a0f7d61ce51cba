use Rattle.resource_kinds.specs.Paths.{path_of}
use Rattle.resource_kinds.proofs.WhyMemory.{why_memory}
use Rattle.resource_kinds.proofs.wanted.on_path.Goals as goal

pub returns-in_err-path : goal.returns-in_err-path
returns-in_err-path c = why_memory c.args.instance.now (path_of c.args.text.now) c.from_residual.result c.in_err-path.ensures.memory c.from_residual.ensures.1
