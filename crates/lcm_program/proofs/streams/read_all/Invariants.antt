use Rattle.std.proofs.Common.{◌≡◌, ◌≤◌, ◌-◌, ◌+◌, length}
use Rattle.std.specs.Io.KnownBytes.{Consumes}
use Rattle.lcm_program.proofs.streams.read_all.Given as goal

abbrev pub invariant-loop-bytes : goal.invariant-loop-bytes
invariant-loop-bytes g l = record {
  so_far : Consumes (g.S.Ends.left l.fn.source) (g.S.Ends.left l.source) l.bytes.items;
  kept : g.S.Ends.held l.source ≡ g.S.Ends.held l.fn.source;
  fits : length l.bytes.items ≤ l.limit;
  later : g.S.Ends.faults l.fn.source ≤ g.S.Ends.faults l.source;
}

abbrev pub decreases-loop-bytes : goal.decreases-loop-bytes
decreases-loop-bytes g l = l.limit + 1 - length l.bytes.items
