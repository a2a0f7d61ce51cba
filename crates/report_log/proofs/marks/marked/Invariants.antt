use Rattle.std.proofs.Common.{◌≡◌, length, take}
use Rattle.report_log.specs.Marks.{marks_of}
use Rattle.report_log.proofs.marks.marked.Given as goal

abbrev pub invariant-loop-entry : goal.invariant-loop-entry
invariant-loop-entry l = l.marks.items ≡ marks_of (take l.entry-index l.calls) (length l.fn.marks.items)
