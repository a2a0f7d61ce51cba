use Rattle.node_state.proofs.Merging.{unmerged}
use Rattle.node_state.proofs.staging.are_merged.Goals as goal

pub returns : goal.returns
returns c = unmerged c.args.parts.now c.in-Err.refusal c.not_merged.result c.in-Err.ensures.refused c.not_merged.ensures
