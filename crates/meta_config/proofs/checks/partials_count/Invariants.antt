use Rattle.std.proofs.Common.{◌≡◌, ◌≤◌, ◌+◌, length, count_by}
use Rattle.meta_config.specs.declared.tables.Class.TheVariants as classes
use Rattle.meta_config.specs.Tables.{is_of}
use Rattle.meta_config.proofs.checks.partials_count.Given as goal

abbrev pub invariant-loop-left : goal.invariant-loop-left
invariant-loop-left l = (l.count + count_by (is_of classes.Partial) l.left ≡ count_by (is_of classes.Partial) l.instances) × (l.count + length l.left ≤ length l.instances)

abbrev pub decreases-loop-left : goal.decreases-loop-left
decreases-loop-left l = length l.left
