use Rattle.std.proofs.Common.{◌≡◌, ℕ, ◌<◌, List, Some}
use Rattle.mof_values.specs.Fold.{SameName}
use Rattle.dsc_document.specs.Rules.{property_name_at}
use Rattle.dsc_document.proofs.properties.is_name.Given as goal

abbrev pub invariant-loop-property : goal.invariant-loop-property
invariant-loop-property l =
    (k : ℕ) (other : List ℕ) → k < l.property-index → property_name_at l.properties k ≡ Some other → SameName other l.name → ⊥
