use Rattle.std.proofs.Common.{◌≡◌, take}
use Rattle.gate_log.specs.Text.{magic}
use Rattle.gate_log.proofs.opening.wrong_magic.Given as goal

abbrev pub invariant-loop-at : goal.invariant-loop-at
invariant-loop-at l = take l.at l.head ≡ take l.at magic
