use Rattle.std.proofs.Common.{ℕ, ◌≤◌}
use Rattle.dsc_document.specs.Names.{ShareName}
use Rattle.dsc_document.specs.Rules.{property_name_at}
use Rattle.dsc_document.proofs.properties.repeated_name.Given as goal

abbrev pub invariant-loop-place : goal.invariant-loop-place
invariant-loop-place l = (i j : ℕ) → ShareName (property_name_at l.properties) i j → l.place ≤ j
