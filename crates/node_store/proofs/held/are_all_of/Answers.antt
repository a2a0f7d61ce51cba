use Rattle.node_store.proofs.Lengths.{staged_fit}
use Rattle.node_store.proofs.held.are_all_of.Goals as goal

pub are_bytes_of-requires : goal.are_bytes_of-requires
are_bytes_of-requires c = staged_fit c.args.parts.now c.requires
