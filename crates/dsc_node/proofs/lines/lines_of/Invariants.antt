use Rattle.std.proofs.Common.{◌≡◌, take, string_bytes}
use Rattle.std.specs.List.{flat_map}
use Rattle.dsc_node.specs.Lines.{line_of}
use Rattle.dsc_node.proofs.lines.lines_of.Given as goal

abbrev pub invariant-loop-entry : goal.invariant-loop-entry
invariant-loop-entry l = string_bytes l.out ≡ flat_map (line_of l.document) (take l.entry-index l.calls)
