use Rattle.std.proofs.Common.{◌≡◌, take, string_bytes}
use Rattle.std.specs.List.{flat_map}
use Rattle.dsc_node.specs.Shown.{report_line}
use Rattle.dsc_node.proofs.showing.reports_text.Given as goal

abbrev pub invariant-loop-kept : goal.invariant-loop-kept
invariant-loop-kept l = string_bytes l.out ≡ flat_map report_line (take l.kept-index l.node.reports)
