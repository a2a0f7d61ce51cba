use Rattle.std.proofs.Common.{length}
use Rattle.std.specs.Prelude.{◌↔◌}
use Rattle.std.specs.List.{AllByRecursion}
use Rattle.node_store.specs.Held.{AreBytesOf}
use Rattle.node_store.specs.Parts.{FitsPart}
use Rattle.node_store.proofs.held.are_bytes_of.Given as goal

abbrev pub invariant-loop-left : goal.invariant-loop-left
invariant-loop-left l =
    (AreBytesOf l.parts l.bytes ↔ AreBytesOf l.left l.after) × AllByRecursion FitsPart l.left

abbrev pub decreases-loop-left : goal.decreases-loop-left
decreases-loop-left l = length l.left
