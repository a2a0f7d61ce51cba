use Rattle.std.proofs.Common.{refl}
use Rattle.resource_kinds.specs.Keys.{kept_place}
use Rattle.resource_kinds.proofs.keys.Keys.new.Goals as goal

pub returns : goal.returns
unfolding kept_place
returns c = λ key. rw c.new.ensures.empty refl
