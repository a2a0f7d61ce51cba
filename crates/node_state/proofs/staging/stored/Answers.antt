use Rattle.std.proofs.Common.{List, subst}
use Rattle.partial_merge.specs.declared.part.Part.{Part}
use Rattle.node_state.specs.Lists.{IsMerged}
use Rattle.node_state.proofs.staging.stored.Goals as goal

pub listed-requires-clause-merged : goal.listed-requires-clause-merged
listed-requires-clause-merged c =
    subst (λ (ps : List Part). IsMerged ps) c.deref-else-not-are_named.ensures.value (c.in_ok-are_merged.ensures.0 c.if-not-branch.false)
