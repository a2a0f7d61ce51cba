-- How long the bodies of events and of a node's pieces are.
use Rattle.std.proofs.Common.{◌≡◌, ℕ, ◌+◌, ◌*◌, ◌≤◌, ◌<◌, All, Bool, List, [], ◌∷◌, ◌++◌, length, map, Option, Some, None, refl, sym, ap, subst, arith, length-append}
use Rattle.std.specs.Prelude.{IfSome, encode_utf8_all}
use Rattle.std.specs.Int.{w16, w32, w64, w128}
use Rattle.std.specs.List.{flat_map, AllByRecursion}
use Rattle.std.proofs.lemmas.List.Concat.{flat_map-cons}
use Rattle.std.proofs.lemmas.List.Sums.{sum_by-cons}
use Rattle.std.proofs.lemmas.List.Elements.{recursion_from_All, All-from_recursion}
use Rattle.sha2.proofs.Facts256.{length-sha256}
use Rattle.mof_values.specs.declared.limits.TheConstants.{MAX_NAME_BYTES}
use Rattle.store_fields.specs.Fields.{bytes_of_number, bytes_of_flag, bytes_of_text, bytes_of_digest, bytes_of_blob, bytes_of_list, IsDigest}
use Rattle.gate_log.specs.Text.{AllFit, after_gate, cells, need_of}
use Rattle.meta_config.specs.Writing.{text_of_meta}
use Rattle.meta_config.proofs.ReadBack.{text_fits}
use Rattle.partial_merge.specs.declared.part.Part.{Part}
use Rattle.report_log.specs.declared.report.Missed.{Missed}
use Rattle.report_log.specs.declared.report.Outcome.{Outcome}
use Rattle.report_log.specs.declared.report.PartMark.{PartMark}
use Rattle.report_log.specs.declared.report.Report.{Report}
use Rattle.dsc_document.specs.Sizes.{Fits}
use Rattle.report_log.specs.Sizes.{ReportInSize}
use Rattle.node_state.specs.declared.event.Event.{Event}
use Rattle.node_state.specs.declared.event.Event.TheVariants as events
use Rattle.node_state.specs.declared.event.Stage.{Stage}
use Rattle.node_state.specs.declared.event.Stage.TheVariants.{Pending, Current, Previous}
use Rattle.node_state.specs.declared.node.Kept.{Kept}
use Rattle.node_state.specs.declared.node.Node.{Node}
use Rattle.node_state.specs.declared.piece.Piece.{Piece}
use Rattle.node_state.specs.declared.piece.Piece.TheVariants as pieces
use Rattle.node_state.specs.Lists.{bytes_of, IsStaged}
use Rattle.node_state.specs.Metas.{IsNodeMeta}
use Rattle.node_state.specs.Pieces.{base_of, front, report_of, slot_of}
use Rattle.node_state.specs.Sound.{Sound}
use Rattle.node_state.specs.Table.{IsWithin}
use Rattle.node_store.specs.Bodies.{body_of_event, body_of_piece, bytes_of_base, HasDigests, HaveDigests, IsEventInRange}
use Rattle.node_store.specs.Parts.{bytes_of_part, bytes_of_parts}
use Rattle.node_store.specs.Reports.{bytes_of_missed, bytes_of_mark, bytes_of_reason, bytes_of_outcome, bytes_of_report, bytes_of_job, bytes_of_run, bytes_of_result, bytes_of_lists, IsMark, IsReport}
use Rattle.node_store.specs.declared.limits.TheConstants.{BANK, MAX_BODY}
use Rattle.node_state.specs.declared.limits.TheConstants.{MAX_BYTES, MAX_REPORTS}
use Rattle.report_log.specs.declared.limits.TheConstants.{LISTED_LIMIT, MAX_PARTS}
use Rattle.gate_log.proofs.Cells.{length-after_gate}
use Rattle.gate_log.proofs.OneByOne.{cells_both}
use Rattle.node_store.proofs.Lengths.{utf8_most}
use Rattle.node_store.proofs.Reported.{job_of, run_of, result_of, lists_of, spelled}

-- ---- fields

long_16 : (n : ℕ) → length (bytes_of_number w16 n) ≡ 2
unfolding bytes_of_number
long_16 n = omega arith

long_32 : (n : ℕ) → length (bytes_of_number w32 n) ≡ 4
unfolding bytes_of_number
long_32 n = omega arith

long_64 : (n : ℕ) → length (bytes_of_number w64 n) ≡ 8
unfolding bytes_of_number
long_64 n = omega arith

long_128 : (n : ℕ) → length (bytes_of_number w128 n) ≡ 16
unfolding bytes_of_number
long_128 n = omega arith

pub text_long : (text : List ℕ) → length (bytes_of_text text) ≡ 2 + length (encode_utf8_all text)
text_long text = omega (arith, long_16 (length (encode_utf8_all text)), length-append (bytes_of_number w16 (length (encode_utf8_all text))) (encode_utf8_all text))

blob_long : (bytes : List ℕ) → length (bytes_of_blob bytes) ≡ 4 + length bytes
blob_long bytes = omega (arith, long_32 (length bytes), length-append (bytes_of_number w32 (length bytes)) bytes)

-- ---- parts

digest_long : (part : Part) → length part.digest ≡ 32
digest_long part = subst (λ (l : List ℕ). length l ≡ 32) (sym part.whole) (length-sha256 part.bytes)

part_long : (part : Part) → Fits MAX_NAME_BYTES part.name → length (bytes_of_part part) ≤ 293 + length part.bytes
part_long part fits =
    omega (
      arith,
      fits,
      text_long part.name,
      digest_long part,
      blob_long part.bytes,
      length-append (bytes_of_text part.name) (bytes_of_digest part.digest ++ bytes_of_blob part.bytes),
      length-append (bytes_of_digest part.digest) (bytes_of_blob part.bytes),
    )

parts_long : (parts : List Part) → AllByRecursion (λ part. Fits MAX_NAME_BYTES part.name) parts → length (flat_map bytes_of_part parts) ≤ 293 * length parts + bytes_of parts
parts_long [] all = omega arith
parts_long (part ∷ parts) all =
    omega (
      arith,
      part_long part all.0,
      parts_long parts all.1,
      ap length (flat_map-cons bytes_of_part part parts),
      length-append (bytes_of_part part) (flat_map bytes_of_part parts),
      sum_by-cons (λ (p : Part). length p.bytes) part parts,
    )

-- the most bytes of the parts of a Stage: each has a name, a digest and two lengths beside its document
abbrev pub parts_most : ℕ
parts_most = 1 + 293 * MAX_PARTS + MAX_BYTES

pub staged_long : (parts : List Part) → IsStaged parts → length (bytes_of_parts parts) ≤ parts_most
staged_long parts staged =
    let few : length parts ≤ MAX_PARTS = staged.named.few in
    let long : bytes_of parts ≤ MAX_BYTES = staged.long in
    omega (arith, few, long, parts_long parts (recursion_from_All (λ part. Fits MAX_NAME_BYTES part.name) parts staged.named.names))

-- ---- reports

missed_long : (listed : List Missed) → AllByRecursion (λ missed. Fits 256 missed.id) listed → length (flat_map bytes_of_missed listed) ≤ 259 * length listed
missed_long [] all = omega arith
missed_long (m ∷ listed) all =
    omega (
      arith,
      all.0,
      text_long m.id,
      length-append (bytes_of_text m.id) (bytes_of_reason m.reason),
      missed_long listed all.1,
      ap length (flat_map-cons bytes_of_missed m listed),
      length-append (bytes_of_missed m) (flat_map bytes_of_missed listed),
    )

marks_long : (marks : List PartMark) → AllByRecursion (λ mark. Fits MAX_NAME_BYTES mark.name) marks → AllByRecursion (λ mark. IsDigest mark.digest) marks → length (flat_map bytes_of_mark marks) ≤ 289 * length marks
marks_long [] all digests = omega arith
marks_long (m ∷ marks) all digests =
    omega (
      arith,
      all.0,
      digests.0,
      text_long m.name,
      length-append (bytes_of_text m.name) (bytes_of_digest m.digest),
      marks_long marks all.1 digests.1,
      ap length (flat_map-cons bytes_of_mark m marks),
      length-append (bytes_of_mark m) (flat_map bytes_of_mark marks),
    )

job_long : (job : ℕ × Bool × Bool) → length (bytes_of_job job) ≡ 10
unfolding bytes_of_job
job_long job =
    omega (arith, long_64 job.0, length-append (bytes_of_number w64 job.0 ++ bytes_of_flag job.1) (bytes_of_flag job.2), length-append (bytes_of_number w64 job.0) (bytes_of_flag job.1))

run_long : (run : ℕ × ℕ × List ℕ) → length (bytes_of_run run) ≡ 18 + length (encode_utf8_all run.2)
unfolding bytes_of_run
run_long run =
    omega (
      arith,
      long_64 run.0,
      long_64 run.1,
      text_long run.2,
      length-append (bytes_of_number w64 run.0 ++ bytes_of_number w64 run.1) (bytes_of_text run.2),
      length-append (bytes_of_number w64 run.0) (bytes_of_number w64 run.1),
    )

result_long : (result : Outcome × ℕ × ℕ) → length (bytes_of_result result) ≡ 9
unfolding bytes_of_result
result_long result =
    omega (
      arith,
      long_32 result.1,
      long_32 result.2,
      length-append (bytes_of_outcome result.0 ++ bytes_of_number w32 result.1) (bytes_of_number w32 result.2),
      length-append (bytes_of_outcome result.0) (bytes_of_number w32 result.1),
    )

lists_long : (lists : List Missed × List PartMark) → length (bytes_of_lists lists) ≡ 2 + (length (flat_map bytes_of_missed lists.0) + length (flat_map bytes_of_mark lists.1))
unfolding bytes_of_lists
lists_long lists = omega (arith, length-append (bytes_of_list bytes_of_missed lists.0) (bytes_of_list bytes_of_mark lists.1))

all_lists_long : (report : Report) → ReportInSize report → HasDigests report → length (bytes_of_lists (lists_of report)) ≤ 18890
all_lists_long report size digests =
    let few : length report.listed ≤ LISTED_LIMIT = size.listed in
    omega (
      arith,
      lists_long (lists_of report),
      few,
      size.parts.count,
      missed_long report.listed (recursion_from_All (λ missed. Fits 256 missed.id) report.listed size.ids),
      marks_long report.parts (recursion_from_All (λ mark. Fits MAX_NAME_BYTES mark.name) report.parts size.parts.names) (recursion_from_All (λ mark. IsDigest mark.digest) report.parts digests),
    )

pub report_long : (report : Report) → ReportInSize report → HasDigests report → length (bytes_of_report report) ≤ 19183
report_long report size digests =
    let job = bytes_of_job (job_of report) in
    let run = bytes_of_run (run_of report) in
    let result = bytes_of_result (result_of report) in
    let lists = bytes_of_lists (lists_of report) in
    omega (
      arith,
      ap length (spelled report),
      length-append job (run ++ (result ++ lists)),
      length-append run (result ++ lists),
      length-append result lists,
      job_long (job_of report),
      run_long (run_of report),
      result_long (result_of report),
      all_lists_long report size digests,
      utf8_most report.version,
      size.version,
    )

-- those of a report that was read, or is to be written
pub has_digests : (report : Report) → IsReport report → HasDigests report
has_digests report is = All-from_recursion (λ mark. IsDigest mark.digest) report.parts (digests report.parts is.lists.1.1)
  where
    digests : (marks : List PartMark) → AllByRecursion IsMark marks → AllByRecursion (λ mark. IsDigest mark.digest) marks
    digests [] all = tt
    digests (m ∷ marks) all = (all.0.1, digests marks all.1)

-- ---- events

run_fits : (report : Report) → IsReport report → 1 + length (bytes_of_report report) ≤ MAX_BODY
run_fits report is = omega (arith, report_long report is.size (has_digests report is))

pub event_fits : (event : Event) → IsEventInRange event → length (body_of_event event) ≤ MAX_BODY
event_fits (events.Init agent) range = omega (arith, long_128 agent)
event_fits (events.SetMeta meta) range = omega (arith, text_fits meta range.is)
event_fits events.Registered range = omega arith
event_fits (events.Stage staged) range = omega (arith, staged_long staged.parts staged.whole)
event_fits (events.Promote report) range = omega (arith, run_fits report range)
event_fits (events.Note report) range = omega (arith, run_fits report range)
event_fits (events.AskReboot report) range = omega (arith, run_fits report range)
event_fits events.Boot range = omega arith
event_fits (events.Sent job) range = omega (arith, long_64 job)
event_fits (events.Remove stage) range = omega arith
event_fits events.Restore range = omega arith

-- the same of an event that is to be written
pub event_long : (event : Event) → IsWithin event → HaveDigests event → need_of (body_of_event event) ≤ MAX_BODY
event_long (events.Init agent) within digests = omega (arith, long_128 agent)
event_long (events.SetMeta meta) within digests = omega (arith, text_fits meta within.is)
event_long events.Registered within digests = omega arith
event_long (events.Stage staged) within digests = omega (arith, staged_long staged.parts staged.whole)
event_long (events.Promote report) within digests = omega (arith, report_long report within digests)
event_long (events.Note report) within digests = omega (arith, report_long report within digests)
event_long (events.AskReboot report) within digests = omega (arith, report_long report within digests)
event_long events.Boot within digests = omega arith
event_long (events.Sent job) within digests = omega (arith, long_64 job)
event_long (events.Remove stage) within digests = omega arith
event_long events.Restore within digests = omega arith

-- ---- pieces

base_long : (base : ℕ × Bool × Bool × ℕ) → length (bytes_of_base base) ≡ 26
unfolding bytes_of_base
base_long base =
    omega (
      arith,
      long_128 base.0,
      long_64 base.3,
      length-append (bytes_of_number w128 base.0) (bytes_of_flag base.1 ++ (bytes_of_flag base.2 ++ bytes_of_number w64 base.3)),
      length-append (bytes_of_flag base.1) (bytes_of_flag base.2 ++ bytes_of_number w64 base.3),
      length-append (bytes_of_flag base.2) (bytes_of_number w64 base.3),
    )

-- the most bytes of the cells of a base, and of those of all reports
abbrev base_most : ℕ
base_most = 262176

abbrev reports_most : ℕ
reports_most = 19190 * MAX_REPORTS

-- the most bytes of the cells of the pieces of a node, where those of a Slot are at most so many
abbrev pub front_most : ℕ → ℕ
front_most slot_most = base_most + (slot_most + (slot_most + (slot_most + reports_most)))

-- pieces under the bodies of one format: a base and a report have the same in both
module _ (body_of : Piece → List ℕ) (on_base : (agent : ℕ) (node : Node) → body_of (base_of agent node) ≡ body_of_piece (base_of agent node)) (on_report : (kept : Kept) → body_of (report_of kept) ≡ body_of_piece (report_of kept))
    (slot_most : ℕ) (below : slot_most ≤ MAX_BODY) (on_slot : (stage : Stage) (parts : List Part) → IsStaged parts → 5 + length (body_of (pieces.Slot stage parts)) ≤ slot_most) where
  -- at most that many bytes with their gates and lengths, and none longer than the largest
  Small : ℕ → List Piece → Type 0
  Small most pieces = (length (cells (map body_of pieces)) ≤ most) × AllFit MAX_BODY (map body_of pieces)

  small_none : Small 0 []
  unfolding Small
  small_none = (omega arith, tt)

  small_one : (piece : Piece) (rest : List Piece) (n m : ℕ) → length (body_of piece) ≤ n → n ≤ MAX_BODY → Small m rest → Small (5 + n + m) (piece ∷ rest)
  unfolding Small
  small_one piece rest n m long most small =
      (omega (arith, long, small.0, cells_both (body_of piece ∷ []) (map body_of rest), one_cell (body_of piece)), (omega (arith, long, most), small.1))
    where
      one_cell : (body : List ℕ) → length (cells (body ∷ [])) ≡ 5 + length body
      one_cell body = omega (arith, length-append (after_gate body) [], length-after_gate body)

  small_more : (n m : ℕ) → n ≤ m → (pieces : List Piece) → Small n pieces → Small m pieces
  unfolding Small
  small_more n m le pieces small = (omega (arith, le, small.0), small.1)

  small_slot : (stage : Stage) (slot : Option (List Part)) (rest : List Piece) (m : ℕ) → IfSome slot IsStaged → Small m rest → Small (slot_most + m) (slot_of stage slot ++ rest)
  small_slot stage None rest m staged small = small_more m (slot_most + m) (omega arith) rest small
  small_slot stage (Some parts) rest m staged small =
      small_more (5 + length (body_of (pieces.Slot stage parts)) + m) (slot_most + m) (omega (arith, on_slot stage parts staged)) (pieces.Slot stage parts ∷ rest)
      (small_one (pieces.Slot stage parts) rest (length (body_of (pieces.Slot stage parts))) m (omega arith) (omega (arith, on_slot stage parts staged, below)) small)

  small_reports : (kept : List Kept) → AllByRecursion (λ k. ReportInSize k.report) kept → AllByRecursion (λ k. HasDigests k.report) kept → Small (19190 * length kept) (map report_of kept)
  small_reports [] sizes digests = small_none
  small_reports (k ∷ kept) sizes digests =
      small_more (5 + 19185 + 19190 * length kept) (19190 * length (k ∷ kept)) (omega arith) (map report_of (k ∷ kept))
      (small_one (report_of k) (map report_of kept) 19185 (19190 * length kept) (omega (arith, ap length (on_report k), report_long k.report sizes.0 digests.0)) (omega arith) (small_reports kept sizes.1 digests.1))

  small_base : (agent : ℕ) (node : Node) (rest : List Piece) (m : ℕ) → IsNodeMeta node.meta → Small m rest → Small (base_most + m) (base_of agent node ∷ rest)
  small_base agent node rest m meta small =
      let base = bytes_of_base (agent, node.registered, node.reboot, node.next_job) in
      small_more (5 + 262171 + m) (base_most + m) (omega arith) (base_of agent node ∷ rest)
      (small_one (base_of agent node) rest 262171 m
      (omega (arith, ap length (on_base agent node), base_long (agent, node.registered, node.reboot, node.next_job), text_fits node.meta meta.is, length-append base (text_of_meta node.meta))) (omega arith) small)

  -- the pieces of a sound node
  pub front_fits : (agent : ℕ) (node : Node) → Sound node → All (λ kept. HasDigests kept.report) node.reports
      → (length (cells (map body_of (front agent node))) ≤ front_most slot_most) × AllFit MAX_BODY (map body_of (front agent node))
  unfolding Small
  front_fits agent node sound digests =
      let reports = small_reports node.reports (recursion_from_All (λ k. ReportInSize k.report) node.reports sound.reports.sizes) (recursion_from_All (λ k. HasDigests k.report) node.reports digests) in
      let few = small_more (19190 * length node.reports) reports_most (omega (arith, sound.reports.few)) _ reports in
      let previous = small_slot Previous node.previous _ reports_most sound.previous few in
      let current = small_slot Current node.current _ (slot_most + reports_most) sound.current previous in
      let pending = small_slot Pending node.pending _ (slot_most + (slot_most + reports_most)) sound.pending current in
      small_base agent node _ (slot_most + (slot_most + (slot_most + reports_most))) sound.meta pending

-- a rewrite has capacity for all of a sound node
pub front_small : (agent : ℕ) (node : Node) → Sound node → All (λ kept. HasDigests kept.report) node.reports
    → (length (cells (map body_of_piece (front agent node))) < BANK) × AllFit MAX_BODY (map body_of_piece (front agent node))
front_small agent node sound digests =
    let fits = front_fits (λ piece. body_of_piece piece) (λ agent node. refl) (λ kept. refl) (7 + parts_most) (omega arith) (λ stage parts staged. omega (arith, staged_long parts staged)) agent node sound digests in
    (omega (arith, fits.0), fits.1)
