use Rattle.std.proofs.Common.{ℕ, ◌<◌, ◌≤◌}
use Rattle.dsc_document.specs.Tests.{IsHeaderAt}
use Rattle.dsc_document.proofs.headers.header_from.Given as goal

abbrev pub invariant-loop-index : goal.invariant-loop-index
invariant-loop-index l = (k : ℕ) → l.from ≤ k → k < l.index → IsHeaderAt l.instances k → ⊥
