use Rattle.std.proofs.Common.{◌≡◌, ◌≤◌, Some, length, take}
use Rattle.pull_outside.specs.Shelf.{Contents}
use Rattle.pull_server.proofs.signatures.read_keys.Given as goal

abbrev pub invariant-loop-index : goal.invariant-loop-index
invariant-loop-index g l = record {
  same : g.S.Shelf.holds l.shelf ≡ g.S.Shelf.holds l.fn.shelf;
  later : g.S.Shelf.faults l.fn.shelf ≤ g.S.Shelf.faults l.shelf;
  few : length l.keys.items ≡ l.index;
  so_far : (contents : Contents) → g.S.Shelf.holds l.fn.shelf ≡ Some contents → l.keys.items ≡ take l.index contents.keys;
}
