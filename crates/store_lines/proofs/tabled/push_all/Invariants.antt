use Rattle.std.proofs.Common.{◌≡◌, ◌++◌, take}
use Rattle.std.specs.List.{list_any}
use Rattle.store_lines.specs.Tabled.{cells_of}
use Rattle.store_lines.specs.Told.{is_alarm}
use Rattle.store_lines.proofs.tabled.push_all.Given as goal

abbrev pub invariant-loop-row : goal.invariant-loop-row
invariant-loop-row l =
    (l.cells.items ≡ l.fn.cells.items ++ cells_of l.classes l.since (take l.row-index l.rows))
    × (l.alarm ≡ list_any (is_alarm l.since) (take l.row-index l.rows))
