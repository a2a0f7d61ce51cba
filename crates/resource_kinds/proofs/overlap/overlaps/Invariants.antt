use Rattle.std.proofs.Common.{ℕ, ◌<◌, get_or, None}
use Rattle.resource_kinds.specs.OverlapSteps.{HasInside}
use Rattle.resource_kinds.proofs.Meets.{Indexed}
use Rattle.resource_kinds.proofs.overlap.overlaps.Given as goal

-- the keys are those of the resources so far
abbrev pub invariant-loop-place : goal.invariant-loop-place
invariant-loop-place l = Indexed l.all.items l.place l.keys

-- none of the resources so far has another inside it
abbrev pub invariant-loop-outer : goal.invariant-loop-outer
invariant-loop-outer l = (k : ℕ) → k < l.outer → HasInside l.keys (get_or l.all.items k None) → ⊥
