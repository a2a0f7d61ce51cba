use Rattle.std.proofs.Common.{◌≡◌, ◌+◌, length}
use Rattle.meta_config.specs.Refusals.{duplicate_from}
use Rattle.meta_config.proofs.checks.first_duplicate.Given as goal

abbrev pub invariant-loop-left : goal.invariant-loop-left
invariant-loop-left l = (duplicate_from l.instances l.place l.left ≡ duplicate_from l.instances 0 l.instances) × (l.place + length l.left ≡ length l.instances)

abbrev pub decreases-loop-left : goal.decreases-loop-left
decreases-loop-left l = length l.left
