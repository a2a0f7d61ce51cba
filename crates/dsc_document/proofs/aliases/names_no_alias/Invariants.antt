use Rattle.std.proofs.Common.{◌≡◌, ℕ, ◌<◌, get_or}
use Rattle.mof_values.specs.declared.instance.Property.{Property}
use Rattle.dsc_document.specs.Tests.{HoldsUnplaced}
use Rattle.mof_values.specs.Values.{scalars_of}
use Rattle.dsc_document.proofs.aliases.names_no_alias.Given as goal

abbrev pub invariant-loop-property : goal.invariant-loop-property
invariant-loop-property l =
    (k : ℕ) (p : Property) → k < l.property-index → get_or l.instance.properties k p ≡ p → HoldsUnplaced l.aliases (scalars_of p.value) → ⊥
