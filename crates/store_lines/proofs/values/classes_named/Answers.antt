use Rattle.store_lines.proofs.Unnamed.{unnamed}
use Rattle.store_lines.proofs.values.classes_named.Goals as goal

pub returns-in-None-clause-usage : goal.returns-in-None-clause-usage
returns-in-None-clause-usage c refused = unnamed c.args.names.now c.loop-name.name-index _ c.loop-name-test.true c.in-None.ensures.none
