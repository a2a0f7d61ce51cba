use Rattle.std.proofs.Common.{◌≡◌, ◌∷◌, ◌++◌, drop}
use Rattle.resource_kinds.specs.OverlapSteps.{entry_key}
use Rattle.resource_kinds.proofs.overlap.entry_key.Given as goal

-- the key so far, and what comes of the bytes that are left
abbrev pub invariant-loop-byte : goal.invariant-loop-byte
invariant-loop-byte l = 2 ∷ entry_key l.byte-items l.message ≡ l.key.items ++ entry_key (drop l.byte-index l.byte-items) l.message
