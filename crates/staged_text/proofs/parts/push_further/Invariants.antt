use Rattle.std.proofs.Common.{length}
use Rattle.std.specs.List.{AllByRecursion}
use Rattle.staged_text.specs.Texts.{Spells}
use Rattle.staged_text.proofs.Further.{SoFar}
use Rattle.staged_text.proofs.parts.push_further.Given as goal

abbrev pub invariant-loop-left : goal.invariant-loop-left
invariant-loop-left l = record {
  spelled : AllByRecursion Spells l.left;
  so_far : SoFar l.parts l.left l.fn.text.items l.text.items;
}

abbrev pub decreases-loop-left : goal.decreases-loop-left
decreases-loop-left l = length l.left
