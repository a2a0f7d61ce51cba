use Rattle.std.proofs.Common.{◌≡◌, ℕ, List, ◌++◌, length}
use Rattle.mof_values.specs.Fold.{fold_case}
use Rattle.pull_messages.proofs.parts.word.Given as goal

abbrev pub invariant-loop-codes : goal.invariant-loop-codes
invariant-loop-codes l = (front : List ℕ) × (said : List ℕ) × (l.chars ≡ front ++ l.left) × (l.name ≡ said ++ l.codes) × (fold_case front ≡ fold_case said)

abbrev pub decreases-loop-codes : goal.decreases-loop-codes
decreases-loop-codes l = length l.codes
