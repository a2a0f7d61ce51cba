use Rattle.std.proofs.Common.{◌≡◌, length, find, not}
use Rattle.std.specs.List.{list_any}
use Rattle.meta_config.specs.Refusals.{is_partial_named}
use Rattle.meta_config.proofs.checks.first_unnamed.Given as goal

abbrev pub invariant-loop-left : goal.invariant-loop-left
invariant-loop-left l = find (λ name. not (list_any (is_partial_named name) l.instances)) l.names ≡ find (λ name. not (list_any (is_partial_named name) l.instances)) l.left

abbrev pub decreases-loop-left : goal.decreases-loop-left
decreases-loop-left l = length l.left
