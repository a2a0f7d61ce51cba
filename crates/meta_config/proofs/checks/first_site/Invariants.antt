use Rattle.std.proofs.Common.{◌≡◌, ◌+◌, length}
use Rattle.meta_config.specs.Refusals.{first_found, manager_site}
use Rattle.meta_config.proofs.checks.first_site.Given as goal

abbrev pub invariant-loop-left : goal.invariant-loop-left
invariant-loop-left l = (first_found manager_site l.place l.left ≡ first_found manager_site 0 l.instances) × (l.place + length l.left ≡ length l.instances)

abbrev pub decreases-loop-left : goal.decreases-loop-left
decreases-loop-left l = length l.left
