use Rattle.std.proofs.Common.{◌≡◌, length}
use Rattle.meta_config.specs.Properties.{from_given}
use Rattle.meta_config.proofs.properties.from_given.Given as goal

abbrev pub invariant-loop-left : goal.invariant-loop-left
invariant-loop-left l = from_given l.name l.properties ≡ from_given l.name l.left

abbrev pub decreases-loop-left : goal.decreases-loop-left
decreases-loop-left l = length l.left
