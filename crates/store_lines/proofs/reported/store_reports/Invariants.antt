use Rattle.std.proofs.Common.{◌≡◌, take}
use Rattle.std.specs.List.{list_any}
use Rattle.store_lines.specs.Reported.{reports_of}
use Rattle.store_lines.specs.Told.{is_alarm}
use Rattle.store_lines.proofs.reported.store_reports.Given as goal

abbrev pub invariant-loop-row : goal.invariant-loop-row
invariant-loop-row l =
    (l.text.items ≡ reports_of l.classes l.store (take l.row-index l.rows)) × (l.alarm ≡ list_any (is_alarm l.since) (take l.row-index l.rows))
