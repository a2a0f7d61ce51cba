use Rattle.std.proofs.Common.{◌≡◌, ◌≤◌, length}
use Rattle.std.specs.Io.KnownBytes.{Appends}
use Rattle.pull_store.specs.Store.{IsKept}
use Rattle.pull_serving.specs.Printing.{lines}
use Rattle.pull_serving.specs.Turn.{state}
use Rattle.pull_serving.specs.Turns.{IsRun, doorway_of}
use Rattle.pull_serving.proofs.turns.serve_turns.Given as goal

abbrev pub invariant-loop-number : goal.invariant-loop-number
invariant-loop-number g l = record {
  kept : IsKept g.D.Disk l.disk (g.A.Answerer.store l.service);
  run : IsRun g.A.Answerer.replies g.D.Disk l.fn.disk l.disk (g.S.Shelf.holds l.fn.shelf) (state g.D.Disk l.fn.disk (g.A.Answerer.store l.fn.service) (g.S.Shelf.faults l.fn.shelf)) (state g.D.Disk l.disk (g.A.Answerer.store l.service) (g.S.Shelf.faults l.shelf))
      (doorway_of g.G.Door l.fn.door) (doorway_of g.G.Door l.door)
      (λ turns. (length turns ≡ l.number) × Appends (g.K.Ends.held l.fn.output) (g.K.Ends.held l.output) (lines 1 turns));
  holds : g.S.Shelf.holds l.shelf ≡ g.S.Shelf.holds l.fn.shelf;
  door : g.G.Door.faults l.fn.door ≤ g.G.Door.faults l.door;
  output : g.K.Ends.faults l.fn.output ≤ g.K.Ends.faults l.output;
}
