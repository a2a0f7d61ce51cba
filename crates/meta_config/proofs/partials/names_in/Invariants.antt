use Rattle.std.proofs.Common.{◌≡◌, ◌++◌, length, map}
use Rattle.meta_config.specs.Words.{name_of_reference}
use Rattle.meta_config.proofs.partials.names_in.Given as goal

abbrev pub invariant-loop-left : goal.invariant-loop-left
invariant-loop-left l = l.names.items ++ map name_of_reference l.left ≡ map name_of_reference l.references

abbrev pub decreases-loop-left : goal.decreases-loop-left
decreases-loop-left l = length l.left
