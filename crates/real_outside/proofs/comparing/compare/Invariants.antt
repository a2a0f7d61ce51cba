use Rattle.std.proofs.Common.{◌≡◌, ◌++◌, ◌<◌, List, ℕ, length}
use Rattle.std.specs.Io.KnownBytes.{Consumes}
use Rattle.real_outside.proofs.comparing.compare.Given as goal

-- what was read is the front of the bytes, the rest is still to come, and the buffer has capacity
abbrev pub invariant-loop : goal.invariant-loop
invariant-loop g l = (gone : List ℕ) × (l.bytes ≡ gone ++ l.rest) × Consumes (g.R.Read.remaining l.fn.reader) (g.R.Read.remaining l.reader) gone × (0 < length l.buffer)
