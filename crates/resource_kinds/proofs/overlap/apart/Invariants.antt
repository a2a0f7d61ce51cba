use Rattle.std.proofs.Common.{ℕ, ◌<◌}
use Rattle.resource_kinds.specs.Apart.{MeetsEarlier}
use Rattle.resource_kinds.proofs.overlap.apart.Given as goal

-- none of the resources so far meets one before it
abbrev pub invariant-loop-second : goal.invariant-loop-second
invariant-loop-second l = (k : ℕ) → k < l.second → MeetsEarlier l.document k → ⊥
