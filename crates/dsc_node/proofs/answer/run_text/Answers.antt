use Rattle.std.proofs.Common.{length}
use Rattle.dsc_node.proofs.answer.run_text.Goals as goal

pub lines_of-requires-clause-bound : goal.lines_of-requires-clause-bound
lines_of-requires-clause-bound c = c.count_succeeded-good.ensures.bound (length c.args.document.now.resources) c.requires.known
