use Rattle.std.proofs.Common.{◌≡◌, ◌++◌, flat_map, take}
use Rattle.store_lines.specs.Reported.{report_text}
use Rattle.store_lines.proofs.reported.push_reports.Given as goal

abbrev pub invariant-loop-report : goal.invariant-loop-report
invariant-loop-report l = l.text.items ≡ l.fn.text.items ++ flat_map (report_text l.store l.row) (take l.report-index l.row.reports)
