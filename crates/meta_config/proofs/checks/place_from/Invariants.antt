use Rattle.std.proofs.Common.{◌≡◌, ◌+◌, length}
use Rattle.std.specs.List.{position_from}
use Rattle.meta_config.specs.Tables.{is_of}
use Rattle.meta_config.proofs.checks.place_from.Given as goal

abbrev pub invariant-loop-left : goal.invariant-loop-left
invariant-loop-left l = (position_from (is_of l.class) l.place l.left ≡ position_from (is_of l.class) l.from l.instances) × (l.place + length l.left ≡ l.from + length l.instances)

abbrev pub decreases-loop-left : goal.decreases-loop-left
decreases-loop-left l = length l.left
