use Rattle.std.proofs.Common.{◌≡◌, ℕ, List, ◌++◌, length}
use Rattle.pull_messages.specs.Escapes.{IsWritten}
use Rattle.pull_messages.specs.Spelling.{Spells}
use Rattle.pull_messages.proofs.escapes.unescape.Given as goal

abbrev pub invariant-loop-byte : goal.invariant-loop-byte
invariant-loop-byte l = (front : List ℕ) × (l.text ≡ front ++ l.left) × Spells IsWritten l.bytes.items front

abbrev pub decreases-loop-byte : goal.decreases-loop-byte
decreases-loop-byte l = length l.left
