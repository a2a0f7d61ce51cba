use Rattle.std.proofs.Common.{◌≡◌, ◌++◌, flat_map, take}
use Rattle.agent_line.specs.Table.{row_text}
use Rattle.agent_line.proofs.table.push_rows.Given as goal

abbrev pub invariant-loop-cells : goal.invariant-loop-cells
invariant-loop-cells l = l.out.items ≡ l.fn.out.items ++ flat_map (row_text l.widths) (take l.cells-index l.rows)
