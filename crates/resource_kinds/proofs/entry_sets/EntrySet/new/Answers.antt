use Rattle.std.proofs.Common.{refl}
use Rattle.resource_kinds.specs.EntrySets.{is_in}
use Rattle.resource_kinds.proofs.entry_sets.EntrySet.new.Goals as goal

pub returns : goal.returns
unfolding is_in
returns c = λ entry. rw c.new.ensures.empty refl
