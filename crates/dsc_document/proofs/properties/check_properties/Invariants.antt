use Rattle.std.proofs.Common.{ℕ, ◌<◌, List, get_or}
use Rattle.mof_values.specs.declared.instance.Instance.{Instance}
use Rattle.dsc_document.specs.Rules.{RepeatsName}
use Rattle.dsc_document.proofs.properties.check_properties.Given as goal

-- none of the instances so far
abbrev pub invariant-loop-index : goal.invariant-loop-index
invariant-loop-index l = (name : List ℕ) (k : ℕ) (d : Instance) → k < l.index → RepeatsName (get_or l.instances k d).properties name → ⊥
