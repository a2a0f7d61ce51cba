use Rattle.std.proofs.Common.{◌≡◌, map, take}
use Rattle.node_pull.specs.Marks.{mark_of}
use Rattle.node_pull.proofs.marks.marks_of.Given as goal

abbrev pub invariant-loop-part : goal.invariant-loop-part
invariant-loop-part l = l.marks.items ≡ map mark_of (take l.part-index l.parts)
