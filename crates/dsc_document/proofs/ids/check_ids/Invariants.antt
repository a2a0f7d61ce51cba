use Rattle.std.proofs.Common.{ℕ, ◌<◌, get_or}
use Rattle.mof_values.specs.declared.instance.Instance.{Instance}
use Rattle.dsc_document.specs.Rules.{HasBadId}
use Rattle.dsc_document.proofs.ids.check_ids.Given as goal

-- none of the instances so far
abbrev pub invariant-loop-index : goal.invariant-loop-index
invariant-loop-index l = (k : ℕ) (d : Instance) → k < l.index → HasBadId (get_or l.instances k d) → ⊥
