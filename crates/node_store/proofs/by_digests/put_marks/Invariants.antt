use Rattle.std.proofs.Common.{length}
use Rattle.std.specs.List.{AllByRecursion}
use Rattle.store_fields.proofs.Appending.{WrittenSoFar}
use Rattle.node_store.specs.Growing.{marks_of}
use Rattle.node_store.specs.Parts.{FitsPart, IsPart}
use Rattle.node_store.proofs.by_digests.put_marks.Given as goal

abbrev pub invariant-loop-left : goal.invariant-loop-left
invariant-loop-left l =
    WrittenSoFar (marks_of l.parts) (marks_of l.left) l.initial.into l.into
    × AllByRecursion FitsPart l.left
    × (AllByRecursion IsPart l.left → AllByRecursion IsPart l.parts)

abbrev pub decreases-loop-left : goal.decreases-loop-left
decreases-loop-left l = length l.left
