use Rattle.std.proofs.Common.{◌≡◌, ◌+◌, ◌≤◌, length, IfSome}
use Rattle.agent_line.specs.Unmet.{last_mark, onward}
use Rattle.agent_line.proofs.unmet.place_of_mark.Given as goal

abbrev pub invariant-loop-left : goal.invariant-loop-left
invariant-loop-left l =
    (last_mark l.error ≡ onward l.at l.found (last_mark l.left)) × (l.at + length l.left ≡ length l.error)
    × IfSome l.found (λ at. at + 2 ≤ length l.error)

abbrev pub decreases-loop-left : goal.decreases-loop-left
decreases-loop-left l = length l.left
