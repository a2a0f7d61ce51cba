use Rattle.std.proofs.Common.{◌≡◌, length, not}
use Rattle.std.specs.List.{find}
use Rattle.resource_kinds.specs.Tables.{may_stand}
use Rattle.command_kind.specs.Tables.{command_rows}
use Rattle.command_kind.proofs.tables.first_wrong.Given as goal

-- each of the properties that were passed may stand there
abbrev pub invariant-loop-left : goal.invariant-loop-left
invariant-loop-left l =
    find (λ p. not (may_stand command_rows p)) l.instance.properties ≡ find (λ p. not (may_stand command_rows p)) l.left

abbrev pub decreases-loop-left : goal.decreases-loop-left
decreases-loop-left l = length l.left
