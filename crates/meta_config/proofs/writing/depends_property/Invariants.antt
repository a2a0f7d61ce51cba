use Rattle.std.proofs.Common.{◌≡◌, ◌++◌, length, map}
use Rattle.meta_config.specs.Writing.{reference_to}
use Rattle.meta_config.proofs.writing.depends_property.Given as goal

abbrev pub invariant-loop-left : goal.invariant-loop-left
invariant-loop-left l = l.references.items ++ map reference_to l.left ≡ map reference_to l.names

abbrev pub decreases-loop-left : goal.decreases-loop-left
decreases-loop-left l = length l.left
