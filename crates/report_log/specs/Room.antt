-- The room of a report.
use Rattle.std.specs.Prelude.{◌≡◌, ◌≤◌, [], length, map, replicate, vec_capacity}
use Rattle.dsc_document.specs.declared.document.Document.{Document}
use Rattle.report_log.specs.declared.marks.Mark.TheVariants.{NotCalled}
use Rattle.report_log.specs.declared.room.ReportRoom.{ReportRoom}
use Rattle.report_log.specs.declared.limits.TheConstants.{LISTED_LIMIT}

-- the room was made for this document
pub record IsRoomFor (document : Document) (room : ReportRoom) : Type 0 where
  pub version : room.version ≡ document.version
  pub ids : room.ids.items ≡ map (λ resource. resource.id) document.resources
  pub marks : room.marks.items ≡ replicate (length document.resources) NotCalled
  pub listed : room.listed.items ≡ []
  pub spare : LISTED_LIMIT ≤ vec_capacity room.listed
