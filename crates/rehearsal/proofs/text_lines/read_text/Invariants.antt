use Rattle.std.proofs.Common.{◌-◌, length}
use Rattle.rehearsal.specs.Reading.{IsInText}
use Rattle.rehearsal.proofs.text_lines.read_text.Given as goal

abbrev pub invariant-loop-used : goal.invariant-loop-used
invariant-loop-used l = IsInText l.bytes l.used l.lines

abbrev pub decreases-loop-used : goal.decreases-loop-used
decreases-loop-used l = length l.bytes - l.used
