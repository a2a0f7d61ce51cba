use Rattle.std.proofs.Common.{◌≡◌, fold, take}
use Rattle.agent_line.specs.Table.{no_widths, wider}
use Rattle.agent_line.proofs.table.widths_of.Given as goal

abbrev pub invariant-loop-cells : goal.invariant-loop-cells
invariant-loop-cells l = l.widths ≡ fold wider no_widths (take l.cells-index l.rows)
