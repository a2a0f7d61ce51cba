use Rattle.std.proofs.Common.{◌≡◌, [], length}
use Rattle.meta_config.specs.Making.{with_names}
use Rattle.meta_config.proofs.making.distinct.Given as goal

abbrev pub invariant-loop-left : goal.invariant-loop-left
invariant-loop-left l = with_names l.names.items l.left ≡ with_names [] l.texts

abbrev pub decreases-loop-left : goal.decreases-loop-left
decreases-loop-left l = length l.left
