use Rattle.std.proofs.Common.{◌≡◌, ◌+◌, length}
use Rattle.std.specs.List.{position_from}
use Rattle.meta_config.specs.Refusals.{is_partial_named}
use Rattle.meta_config.proofs.checks.named_place.Given as goal

abbrev pub invariant-loop-left : goal.invariant-loop-left
invariant-loop-left l = (position_from (is_partial_named l.name) l.place l.left ≡ position_from (is_partial_named l.name) 0 l.instances) × (l.place + length l.left ≡ length l.instances)

abbrev pub decreases-loop-left : goal.decreases-loop-left
decreases-loop-left l = length l.left
