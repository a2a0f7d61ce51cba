-- Reports in size.
use Rattle.std.specs.Prelude.{ℕ, ◌≤◌, List, length, All}
use Rattle.dsc_outside.specs.Clock.{last_moment}
use Rattle.dsc_document.specs.Sizes.{Fits}
use Rattle.dsc_document.specs.declared.limits.TheConstants.{MAX_ID, MAX_VERSION}
use Rattle.mof_values.specs.declared.limits.TheConstants.{MAX_NAME_BYTES}
use Rattle.report_log.specs.declared.report.PartMark.{PartMark}
use Rattle.report_log.specs.declared.report.Frame.{Frame}
use Rattle.report_log.specs.declared.report.Report.{Report}
use Rattle.report_log.specs.declared.limits.TheConstants.{LISTED_LIMIT, MAX_PARTS}

pub record PartsInSize (parts : List PartMark) : Type 0 where
  pub count : length parts ≤ MAX_PARTS
  pub names : All (λ part. Fits MAX_NAME_BYTES part.name) parts

pub record TimesInSize (from to : ℕ) : Type 0 where
  pub start : from ≤ last_moment
  pub end : to ≤ last_moment

pub record FrameInSize (frame : Frame) : Type 0 where
  pub parts : PartsInSize frame.parts
  pub times : TimesInSize frame.start frame.end

pub record ReportInSize (report : Report) : Type 0 where
  pub version : length report.version ≤ MAX_VERSION
  pub listed : length report.listed ≤ LISTED_LIMIT
  pub ids : All (λ missed. Fits MAX_ID missed.id) report.listed
  pub parts : PartsInSize report.parts
  pub times : TimesInSize report.start report.end
