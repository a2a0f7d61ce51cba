use Rattle.std.proofs.Common.{◌≡◌, ◌≤◌, ℕ, List, ◌++◌, length}
use Rattle.std.specs.Io.KnownBytes.{Appends}
use Rattle.dsc_outside.proofs.streams.write_all.Given as goal

abbrev pub invariant-loop-rest : goal.invariant-loop-rest
invariant-loop-rest g l = record {
  so_far : (part : List ℕ) × (l.fn.bytes ≡ part ++ l.rest) × Appends (g.K.Ends.held l.fn.sink) (g.K.Ends.held l.sink) part;
  kept : g.K.Ends.left l.sink ≡ g.K.Ends.left l.fn.sink;
  later : g.K.Ends.faults l.fn.sink ≤ g.K.Ends.faults l.sink;
}

abbrev pub decreases-loop-rest : goal.decreases-loop-rest
decreases-loop-rest g l = length l.rest
