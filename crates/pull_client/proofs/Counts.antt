-- The counts of a report are written with no float.
use Rattle.std.proofs.Common.{◌≡◌, List, [], ◌∷◌, map, false, refl}
use Rattle.serde_json.specs.View.{items_of}
use Rattle.serde_json.specs.Written.{has_float, items_have_float}
use Rattle.report_log.specs.declared.report.PartMark.{PartMark}
use Rattle.report_log.specs.declared.report.Report.{Report}
use Rattle.pull_client.specs.Reports.{counts_data, part_data}

parts_no_float : (parts : List PartMark) → items_have_float (items_of (map part_data parts)) ≡ false
parts_no_float [] = refl
parts_no_float (part ∷ parts) = rw (parts_no_float parts) refl

pub counts_no_float : (report : Report) → has_float (counts_data report) ≡ false
counts_no_float report = rw (parts_no_float report.parts) refl
