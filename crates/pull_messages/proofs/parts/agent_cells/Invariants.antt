use Rattle.std.proofs.Common.{◌≡◌, ℕ, List, ◌++◌, length}
use Rattle.pull_messages.specs.Cells.{AreCells}
use Rattle.pull_messages.proofs.parts.agent_cells.Given as goal

abbrev pub invariant-loop-place : goal.invariant-loop-place
invariant-loop-place l = (front : List ℕ) × (l.chars ≡ front ++ l.left) × AreCells front × (length front ≡ l.place)
