use Rattle.std.proofs.Common.{All, take}
use Rattle.pull_client.specs.Fitting.{IsMark}
use Rattle.pull_client.proofs.marks.look_at_marks.Given as goal

abbrev pub invariant-loop-part : goal.invariant-loop-part
invariant-loop-part l = All IsMark (take l.part-index l.parts)
