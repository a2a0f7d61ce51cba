use Rattle.std.proofs.Common.{◌≡◌, ℕ, List, ◌++◌, length}
use Rattle.pull_messages.specs.Escapes.{IsWritten}
use Rattle.pull_messages.specs.Spelling.{Spells}
use Rattle.pull_messages.proofs.escapes.front_size.Given as goal

abbrev pub invariant-loop : goal.invariant-loop
invariant-loop l = (front : List ℕ) × (bytes : List ℕ) × (l.text ≡ front ++ l.left) × Spells IsWritten bytes front × (length bytes ≡ l.counter)
