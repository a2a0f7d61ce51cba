-- The bodies of a whole node that are spelled one after the other.
use Rattle.std.specs.Prelude.{ℕ, Bool, true, false, List, [], ◌∷◌, ◌++◌, map, Option, Some, None, option_map, IfSome, ⊤}
use Rattle.std.specs.Borrow.{Bor}
use Rattle.std.specs.List.{AllByRecursion}
use Rattle.gate_log.specs.Text.{AllFit}
use Rattle.partial_merge.specs.declared.part.Part.{Part}
use Rattle.report_log.specs.declared.report.Report.{Report}
use Rattle.report_log.specs.Sizes.{ReportInSize}
use Rattle.node_state.specs.declared.node.Kept.{Kept}
use Rattle.node_state.specs.declared.node.Node.{Node}
use Rattle.node_state.specs.declared.event.Stage.{Stage}
use Rattle.node_state.specs.declared.event.Stage.TheVariants.{Pending, Current, Previous}
use Rattle.node_state.specs.declared.piece.Piece.{Piece}
use Rattle.node_state.specs.declared.piece.Piece.TheVariants as pieces
use Rattle.node_state.specs.Lists.{IsStaged}
use Rattle.node_state.specs.Pieces.{front, report_of}
use Rattle.node_store.specs.Bodies.{base_body, body_of_piece}
use Rattle.node_store.specs.Digests.{Blobs, Lack, blob_body, format_body, slot_body, texts_of_node}
use Rattle.node_store.specs.Growing.{bodies_of_format, bytes_in}
use Rattle.node_store.specs.Next.{at_end, with_mark}
use Rattle.node_store.specs.declared.blob.Blob.{Blob}
use Rattle.node_store.specs.declared.whole.Base.{Base}
use Rattle.node_store.specs.declared.whole.Whole.{Whole}
use Rattle.node_store.specs.declared.limits.TheConstants.{MAX_BODY}

-- ---- a whole node

-- the body of a piece in format 2, where a Slot names its parts by their digests
abbrev pub body_by_digests : Piece → List ℕ
body_by_digests (pieces.Slot stage parts) = slot_body stage parts
body_by_digests piece = body_of_piece piece

-- the bodies of a node of this agent: in format 2 with these Blobs, or in format 1
abbrev pub whole_bodies : Option Blobs → ℕ → Node → List (List ℕ)
whole_bodies (Some blobs) agent node = format_body ∷ (map blob_body blobs ++ map body_by_digests (front agent node))
whole_bodies None agent node = map body_of_piece (front agent node)

-- the Blobs are the texts of the node, each once
abbrev pub AreBlobsOf : Option Blobs → Node → Type 0
AreBlobsOf (Some blobs) node = Lack [] (texts_of_node node) blobs
AreBlobsOf None node = ⊤

-- ---- what is left of it

-- the Blobs of a list, where there is one
abbrev pub blobs_of : Option (Bor (List Blob)) → Option Blobs
blobs_of blobs = option_map (λ list. bytes_in list.now) blobs

abbrev pub blobs_or : Option Blobs → Blobs
blobs_or (Some blobs) = blobs
blobs_or None = []

-- the parts of a stage, where they are still to be spelled
abbrev pub parts_in : Option (Bor (List Part)) → Option (List Part)
parts_in slot = option_map (λ parts. parts.now) slot

abbrev pub report_in : Option (Bor Report) → Option Report
report_in added = option_map (λ report. report.now) added

-- the body of a report, as sent where it is that of this job
abbrev pub marked_body : Option ℕ → Kept → List ℕ
marked_body sent kept = body_of_piece (report_of (with_mark sent kept))

abbrev pub body_of_base : Base → List ℕ
body_of_base base = base_body base.agent base.registered base.reboot base.next_job base.text.now

abbrev pub bodies_of_base : Option Base → List (List ℕ)
bodies_of_base None = []
bodies_of_base (Some base) = body_of_base base ∷ []

-- the body of the parts of a stage, by digests or in full
abbrev pub body_of_slot : Bool → Stage → List Part → List ℕ
body_of_slot true stage parts = slot_body stage parts
body_of_slot false stage parts = body_of_piece (pieces.Slot stage parts)

abbrev pub bodies_of_slot : Bool → Stage → Option (List Part) → List (List ℕ)
bodies_of_slot by_digests stage None = []
bodies_of_slot by_digests stage (Some parts) = body_of_slot by_digests stage parts ∷ []

-- the bodies of these slots, of the reports with their marks, and of one more report
abbrev pub bodies_after_base : Bool → Option (List Part) → Option (List Part) → Option (List Part) → Option ℕ → List Kept → Option Report → List (List ℕ)
bodies_after_base by_digests pending current previous sent reports added =
    bodies_of_slot by_digests Pending pending
    ++ (bodies_of_slot by_digests Current current
    ++ (bodies_of_slot by_digests Previous previous
    ++ (map (marked_body sent) reports
    ++ map (λ kept. body_of_piece (report_of kept)) (at_end added))))

-- the bodies that are still to be spelled
abbrev pub bodies_left : Whole → List (List ℕ)
bodies_left w =
    bodies_of_format w.format
    ++ (map blob_body (bytes_in w.blobs.now)
    ++ (bodies_of_base w.base
    ++ bodies_after_base w.by_digests (parts_in w.pending) (parts_in w.current) (parts_in w.previous) w.sent w.reports.now (report_in w.added)))

-- they are as a sound node has them
pub record AreToSpell (w : Whole) : Type 0 where
  pub pending : IfSome (parts_in w.pending) IsStaged
  pub current : IfSome (parts_in w.current) IsStaged
  pub previous : IfSome (parts_in w.previous) IsStaged
  pub reports : AllByRecursion (λ kept. ReportInSize kept.report) w.reports.now
  pub added : IfSome (report_in w.added) ReportInSize
  pub fit : AllFit MAX_BODY (bodies_left w)
