use Rattle.std.proofs.Common.{◌≡◌, flat_map, take}
use Rattle.store_lines.specs.Gauges.{escaped}
use Rattle.store_lines.proofs.gauges.escaped_chars.Given as goal

abbrev pub invariant-loop-c : goal.invariant-loop-c
invariant-loop-c l = l.written.items ≡ flat_map escaped (take l.c-index l.chars)
