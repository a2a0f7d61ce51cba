use Rattle.std.proofs.Common.{◌≡◌, ℕ, ◌<◌, List, None, get_or}
use Rattle.mof_values.specs.declared.value.Scalar.TheVariants.{Alias}
use Rattle.dsc_document.specs.Places.{place_of}
use Rattle.dsc_document.proofs.aliases.is_unknown_alias.Given as goal

abbrev pub invariant-loop-scalar : goal.invariant-loop-scalar
invariant-loop-scalar l =
    (k : ℕ) (alias : List ℕ) → k < l.scalar-index → get_or l.scalars k (Alias alias) ≡ Alias alias → place_of l.aliases alias ≡ None → ⊥
