use Rattle.std.proofs.Common.{◌≡◌, ◌++◌, length, filter, map}
use Rattle.meta_config.specs.declared.tables.Class.TheVariants as classes
use Rattle.meta_config.specs.Making.{partial_of}
use Rattle.meta_config.specs.Tables.{is_of}
use Rattle.meta_config.proofs.partials.partials_of.Given as goal

abbrev pub invariant-loop-left : goal.invariant-loop-left
invariant-loop-left l = l.partials.items ++ map partial_of (filter (is_of classes.Partial) l.left) ≡ map partial_of (filter (is_of classes.Partial) l.instances)

abbrev pub decreases-loop-left : goal.decreases-loop-left
decreases-loop-left l = length l.left
