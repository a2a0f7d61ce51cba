use Rattle.std.proofs.Common.{ℕ, ◌<◌, get_or}
use Rattle.mof_values.specs.declared.instance.Instance.{Instance}
use Rattle.dsc_document.specs.Rules.{HasBadDependsOn}
use Rattle.dsc_document.proofs.depends.check_depends_on.Given as goal

-- none of the instances so far
abbrev pub invariant-loop-index : goal.invariant-loop-index
invariant-loop-index l = (k : ℕ) (d : Instance) → k < l.index → HasBadDependsOn (get_or l.instances k d) → ⊥
