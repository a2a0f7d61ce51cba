-- What is known of the real things.
use Rattle.std.specs.Prelude.{ℕ, List, Option}

-- standard input: what its reader has left, where that is shown, and how often a read failed
pub record Input : Type 0 where
  pub left : Option (List ℕ)
  pub faults : ℕ
