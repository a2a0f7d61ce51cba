use Rattle.resource_kinds.specs.EntrySets.{is_in}
use Rattle.resource_kinds.proofs.entry_sets.EntrySet.has.Goals as goal

pub returns : goal.returns
unfolding is_in
returns c = c.contains.ensures
