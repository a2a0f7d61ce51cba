use Rattle.node_store.proofs.Lengths.{staged_fit}
use Rattle.node_store.proofs.spelling.put_parts.Goals as goal

pub put_list-requires-clause-fits : goal.put_list-requires-clause-fits
put_list-requires-clause-fits c = staged_fit c.args.parts.now c.requires
