use Rattle.partial_merge.proofs.OnePartRefusals.{of_one_part}
use Rattle.partial_merge.proofs.laws.one_part_laws.Goals as goal

pub returns : goal.returns
returns c = of_one_part c.args.part.now
