use Rattle.std.proofs.Common.{◌≡◌, List, ℕ, ◌++◌, All, IsTrue, is_some, filter_map, length}
use Rattle.mof_values.specs.Values.{text_of_scalar}
use Rattle.dsc_document.specs.Places.{place_of}
use Rattle.dsc_document.proofs.depends.first_unknown.Given as goal

-- the names that were passed have places
abbrev pub invariant-loop-left : goal.invariant-loop-left
invariant-loop-left l =
    (known : List (List ℕ)) × (filter_map text_of_scalar l.scalars ≡ known ++ filter_map text_of_scalar l.left)
    × All (λ name. IsTrue (is_some (place_of l.ids name))) known

abbrev pub decreases-loop-left : goal.decreases-loop-left
decreases-loop-left l = length l.left
