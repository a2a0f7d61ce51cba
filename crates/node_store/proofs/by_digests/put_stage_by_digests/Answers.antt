use Rattle.node_store.proofs.Lengths.{staged_fit}
use Rattle.node_store.proofs.by_digests.put_stage_by_digests.Goals as goal

pub put_marks-requires : goal.put_marks-requires
put_marks-requires c = staged_fit c.args.parts.now c.requires
