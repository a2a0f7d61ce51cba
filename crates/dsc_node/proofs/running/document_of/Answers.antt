use Rattle.dsc_node.proofs.PushedParts.{refused_for_memory}
use Rattle.dsc_node.proofs.running.document_of.Goals as goal

pub only_memory-requires : goal.only_memory-requires
only_memory-requires c = refused_for_memory c.args.parts.now c.in-Err.error c.requires.staged.merged c.in-Err.ensures.refused
