use Rattle.std.proofs.Common.{◌≡◌, ◌++◌, length, map}
use Rattle.meta_config.specs.Writing.{partial_instance}
use Rattle.meta_config.proofs.writing.push_partials.Given as goal

abbrev pub invariant-loop-left : goal.invariant-loop-left
invariant-loop-left l = l.instances.items ++ map partial_instance l.left ≡ l.fn.instances.items ++ map partial_instance l.partials

abbrev pub decreases-loop-left : goal.decreases-loop-left
decreases-loop-left l = length l.left
