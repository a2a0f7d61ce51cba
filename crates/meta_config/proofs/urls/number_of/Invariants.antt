use Rattle.std.proofs.Common.{◌≡◌, ◌≤◌, length}
use Rattle.meta_config.specs.Urls.{number_after}
use Rattle.meta_config.proofs.urls.number_of.Given as goal

abbrev pub invariant-loop-left : goal.invariant-loop-left
invariant-loop-left l = (number_after l.number l.left ≡ number_after 0 l.digits) × (l.number ≤ 65535)

abbrev pub decreases-loop-left : goal.decreases-loop-left
decreases-loop-left l = length l.left
