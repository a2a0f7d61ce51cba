use Rattle.std.proofs.Common.{◌≡◌, ◌-◌, length}
use Rattle.rehearsal.specs.Reading.{IsReadTo}
use Rattle.rehearsal.proofs.script.read_script.Given as goal

abbrev pub invariant-loop-reader : goal.invariant-loop-reader
invariant-loop-reader l =
    (l.reader.script.now ≡ l.script) × IsReadTo l.reader.script.now l.reader.at l.reader.line l.reader.steps.items l.reader.texts.items

abbrev pub decreases-loop-reader : goal.decreases-loop-reader
decreases-loop-reader l = length l.script - l.reader.at
