use Rattle.std.proofs.Common.{◌≡◌, ℕ, List, ◌++◌, IsTrue, length}
use Rattle.std.specs.List.{list_all}
use Rattle.dsc_document.specs.Declarations.{is_plain}
use Rattle.dsc_document.proofs.ids.ends_kind.Given as goal

-- what was passed has no bracket
abbrev pub invariant-loop-left : goal.invariant-loop-left
invariant-loop-left l = (passed : List ℕ) × (l.chars ≡ passed ++ l.left) × IsTrue (list_all is_plain passed)

abbrev pub decreases-loop-left : goal.decreases-loop-left
decreases-loop-left l = length l.left
