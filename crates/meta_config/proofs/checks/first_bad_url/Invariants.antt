use Rattle.std.proofs.Common.{◌≡◌, ◌+◌, length}
use Rattle.std.specs.List.{position_from}
use Rattle.meta_config.specs.Refusals.{has_bad_url}
use Rattle.meta_config.proofs.checks.first_bad_url.Given as goal

abbrev pub invariant-loop-left : goal.invariant-loop-left
invariant-loop-left l = (position_from has_bad_url l.place l.left ≡ position_from has_bad_url 0 l.instances) × (l.place + length l.left ≡ length l.instances)

abbrev pub decreases-loop-left : goal.decreases-loop-left
decreases-loop-left l = length l.left
