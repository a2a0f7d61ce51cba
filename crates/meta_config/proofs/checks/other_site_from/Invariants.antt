use Rattle.std.proofs.Common.{◌≡◌, ◌+◌, length}
use Rattle.std.specs.List.{position_from}
use Rattle.meta_config.specs.Refusals.{has_other_site}
use Rattle.meta_config.proofs.checks.other_site_from.Given as goal

abbrev pub invariant-loop-left : goal.invariant-loop-left
invariant-loop-left l = (position_from (has_other_site l.site) l.place l.left ≡ position_from (has_other_site l.site) l.from l.instances) × (l.place + length l.left ≡ l.from + length l.instances)

abbrev pub decreases-loop-left : goal.decreases-loop-left
decreases-loop-left l = length l.left
