use Rattle.std.proofs.Common.{◌≡◌, length}
use Rattle.std.specs.List.{find}
use Rattle.mof_values.specs.Fold.{same_name}
use Rattle.mof_values.proofs.instance.Instance.value_named.Given as goal

abbrev pub invariant-loop-left : goal.invariant-loop-left
invariant-loop-left l = find (λ p. same_name p.name l.name) l.self.properties ≡ find (λ p. same_name p.name l.name) l.left

abbrev pub decreases-loop-left : goal.decreases-loop-left
decreases-loop-left l = length l.left
