use Rattle.std.proofs.Common.{◌≡◌, ◌≤◌, ◌-◌, ◌+◌, ℕ, List, length}
use Rattle.std.specs.Io.KnownBytes.{Consumes}
use Rattle.sha2.specs.Hashers.{Holds256}
use Rattle.lcm_program.specs.declared.checksum.TheConstants.{LIMIT}
use Rattle.lcm_program.proofs.checksum.read_digest.Given as goal

abbrev pub invariant-loop-hash : goal.invariant-loop-hash
invariant-loop-hash g l = record {
  so_far : (taken : List ℕ) × Holds256 l.hash taken
      × Consumes (g.S.Ends.left l.fn.input) (g.S.Ends.left l.input) taken × (length taken ≡ l.total);
  fits : l.total ≤ LIMIT;
  later : g.S.Ends.faults l.fn.input ≤ g.S.Ends.faults l.input;
}

abbrev pub decreases-loop-hash : goal.decreases-loop-hash
decreases-loop-hash g l = LIMIT + 1 - l.total
