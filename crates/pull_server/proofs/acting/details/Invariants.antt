use Rattle.std.proofs.Common.{◌≡◌, ◌≤◌, Some, map, take}
use Rattle.std.specs.List.{AllByRecursion}
use Rattle.pull_outside.specs.Shelf.{Contents}
use Rattle.pull_server.specs.Actions.{detail_for}
use Rattle.pull_server.specs.SeenContents.{IsSeen}
use Rattle.pull_server.proofs.acting.details.Given as goal

abbrev pub invariant-loop-client : goal.invariant-loop-client
invariant-loop-client g l = record {
  same : g.S.Shelf.holds l.shelf ≡ g.S.Shelf.holds l.fn.shelf;
  later : g.S.Shelf.faults l.fn.shelf ≤ g.S.Shelf.faults l.shelf;
  seen : (contents : Contents) → g.S.Shelf.holds l.fn.shelf ≡ Some contents → AllByRecursion (IsSeen contents l.names) l.seen.items;
  so_far : (contents : Contents) → g.S.Shelf.holds l.fn.shelf ≡ Some contents → l.details.items ≡ map (detail_for contents l.names) (take l.client-index l.clients);
}
