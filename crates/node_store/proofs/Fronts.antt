-- The front of the node after an event.
use Rattle.std.proofs.Common.{◌≡◌, zero, suc, subst, arith, All, List, ℕ, true, false, Option, Some, None, is_some, [], ◌∷◌, ◌++◌, map, refl, sym, ap, ◌∙◌}
use Rattle.std.specs.Prelude.{IfSome}
use Rattle.std.specs.List.{AllByRecursion}
use Rattle.std.proofs.lemmas.List.Elements.{recursion_from_All}
use Rattle.std.proofs.lemmas.Option.{same_Some}
use Rattle.node_store.specs.Store.{IsTextOf}
use Rattle.std.proofs.lemmas.List.{append-nil, map-append}
use Rattle.report_log.specs.Sizes.{ReportInSize}
use Rattle.report_log.specs.declared.report.Report.{Report}
use Rattle.node_state.specs.declared.node.Kept.{Kept}
use Rattle.node_state.specs.declared.node.Node.{Node}
use Rattle.node_state.specs.declared.event.Event.{Event}
use Rattle.node_state.specs.declared.event.Event.TheVariants as events
use Rattle.node_state.specs.declared.piece.Piece.{Piece}
use Rattle.node_state.specs.declared.event.Stage.{Stage}
use Rattle.node_state.specs.declared.event.Stage.TheVariants.{Pending, Current, Previous}
use Rattle.partial_merge.specs.declared.part.Part.{Part}
use Rattle.node_state.specs.Table.{after, marked, newest, unsent}
use Rattle.node_state.specs.declared.limits.TheConstants.{OLDER_REPORTS}
use Rattle.node_state.specs.Sound.{Sound}
use Rattle.node_state.specs.Pieces.{base_of, front, report_of, slot_of}
use Rattle.meta_config.specs.Writing.{text_of_meta}
use Rattle.node_store.specs.Bodies.{BringsText, body_of_piece}
use Rattle.node_store.specs.Growing.{bodies_of_format}
use Rattle.node_store.specs.Next.{added, at_end, kept_before, reports_after, sent_in, with_mark}
use Rattle.node_store.specs.Digests.{Blobs, blob_body, format_body}
use Rattle.node_store.specs.Whole.{blobs_or, bodies_after_base, bodies_of_slot, body_by_digests, marked_body, whole_bodies}

-- no mark changes nothing
unmarked : (reports : List Kept) → map (with_mark None) reports ≡ reports
unmarked [] = refl
unmarked (kept ∷ reports) = ap (λ (l : List Kept). kept ∷ l) (unmarked reports)

same_reports : (reports : List Kept) → map (with_mark None) reports ++ [] ≡ reports
same_reports reports = append-nil (map (with_mark None) reports) ∙ unmarked reports

more_reports : (reports : List Kept) (report : Report) → map (with_mark None) (newest OLDER_REPORTS reports) ++ unsent report ∷ [] ≡ newest OLDER_REPORTS reports ++ unsent report ∷ []
more_reports reports report = ap (λ (l : List Kept). l ++ unsent report ∷ []) (unmarked (newest OLDER_REPORTS reports))

-- the reports after an event are those that were kept and the one that is added
pub reports_are : (node : Node) (event : Event) → reports_after node event ≡ (after node event).reports
reports_are node (events.Init agent) = same_reports node.reports
reports_are node (events.SetMeta meta) = same_reports node.reports
reports_are node events.Registered = same_reports node.reports
reports_are node (events.Stage staged) = same_reports node.reports
reports_are node (events.Promote report) = more_reports node.reports report
reports_are node (events.Note report) = more_reports node.reports report
reports_are node (events.AskReboot report) = more_reports node.reports report
reports_are node events.Boot = same_reports node.reports
reports_are node (events.Sent job) = append-nil (map (marked job) node.reports)
reports_are node (events.Remove Pending) = same_reports node.reports
reports_are node (events.Remove Current) = same_reports node.reports
reports_are node (events.Remove Previous) = same_reports node.reports
reports_are node events.Restore = same_reports node.reports

map_map : {X Y Z : Type 0} (f : Y → Z) (g : X → Y) (xs : List X) → map f (map g xs) ≡ map (λ x. f (g x)) xs
map_map f g [] = refl
map_map f g (x ∷ xs) = ap (λ l. f (g x) ∷ l) (map_map f g xs)

map_same : {X Y : Type 0} (f g : X → Y) (xs : List X) → ((x : X) → f x ≡ g x) → map f xs ≡ map g xs
map_same f g [] same = refl
map_same f g (x ∷ xs) same = λ i. same x i ∷ map_same f g xs same i

module _ (body_of : Piece → List ℕ) (on_report : (kept : Kept) → body_of_piece (report_of kept) ≡ body_of (report_of kept)) where
  -- pieces in four parts
  in_parts : (first second third rest : List Piece) → map body_of first ++ (map body_of second ++ (map body_of third ++ map body_of rest)) ≡ map body_of (first ++ (second ++ (third ++ rest)))
  in_parts first second third rest =
      ap (λ (l : List (List ℕ)). map body_of first ++ (map body_of second ++ l)) (sym (map-append body_of third rest))
      ∙ ap (λ (l : List (List ℕ)). map body_of first ++ l) (sym (map-append body_of second (third ++ rest)))
      ∙ sym (map-append body_of first (second ++ (third ++ rest)))

  -- the bodies of the pieces of the node after an event, part by part
  front_by : (agent : ℕ) (node : Node) (event : Event)
      → body_of (base_of agent (after node event))
      ∷ (map body_of (slot_of Pending (after node event).pending)
      ++ (map body_of (slot_of Current (after node event).current)
      ++ (map body_of (slot_of Previous (after node event).previous)
      ++ (map (marked_body (sent_in event)) (kept_before node event) ++ map (λ kept. body_of_piece (report_of kept)) (at_end (added event))))))
      ≡ map body_of (front agent (after node event))
  front_by agent node event =
      let next = after node event in
      let of_report : Kept → List ℕ = λ kept. body_of_piece (report_of kept) in
      let mark = with_mark (sent_in event) in
      let reports : map (marked_body (sent_in event)) (kept_before node event) ++ map of_report (at_end (added event)) ≡ map body_of (map report_of next.reports) =
      ap (λ (l : List (List ℕ)). l ++ map of_report (at_end (added event))) (sym (map_map of_report mark (kept_before node event)))
      ∙ sym (map-append of_report (map mark (kept_before node event)) (at_end (added event)))
      ∙ ap (λ (l : List Kept). map of_report l) (reports_are node event)
      ∙ map_same of_report (λ kept. body_of (report_of kept)) next.reports on_report
      ∙ sym (map_map body_of report_of next.reports) in
      ap (λ (l : List (List ℕ)). body_of (base_of agent next) ∷ (map body_of (slot_of Pending next.pending) ++ (map body_of (slot_of Current next.current) ++ (map body_of (slot_of Previous next.previous) ++ l)))) reports
      ∙ ap (λ (l : List (List ℕ)). body_of (base_of agent next) ∷ l) (in_parts (slot_of Pending next.pending) (slot_of Current next.current) (slot_of Previous next.previous) (map report_of next.reports))

slot_in_full : (stage : Stage) (slot : Option (List Part)) → bodies_of_slot false stage slot ≡ map body_of_piece (slot_of stage slot)
slot_in_full stage None = refl
slot_in_full stage (Some parts) = refl

slot_by_digests : (stage : Stage) (slot : Option (List Part)) → bodies_of_slot true stage slot ≡ map body_by_digests (slot_of stage slot)
slot_by_digests stage None = refl
slot_by_digests stage (Some parts) = refl

-- the bodies of the node after an event, one part after the other
pub whole_is : (blobs : Option Blobs) (agent : ℕ) (node : Node) (event : Event)
    → bodies_of_format (is_some blobs)
    ++ (map blob_body (blobs_or blobs)
    ++ (body_of_piece (base_of agent (after node event))
    ∷ bodies_after_base (is_some blobs) (after node event).pending (after node event).current (after node event).previous (sent_in event) (kept_before node event) (added event)))
    ≡ whole_bodies blobs agent (after node event)
whole_is (Some blobs) agent node event =
    let next = after node event in
    let last = map (marked_body (sent_in event)) (kept_before node event) ++ map (λ kept. body_of_piece (report_of kept)) (at_end (added event)) in
    ap (λ (l : List (List ℕ)). format_body ∷ (map blob_body blobs ++ l))
    ((λ i. body_of_piece (base_of agent next) ∷ (slot_by_digests Pending next.pending i ++ (slot_by_digests Current next.current i ++ (slot_by_digests Previous next.previous i ++ last))))
    ∙ front_by (λ piece. body_by_digests piece) (λ kept. refl) agent node event)
whole_is None agent node event =
    let next = after node event in
    let last = map (marked_body (sent_in event)) (kept_before node event) ++ map (λ kept. body_of_piece (report_of kept)) (at_end (added event)) in
    (λ i. body_of_piece (base_of agent next) ∷ (slot_in_full Pending next.pending i ++ (slot_in_full Current next.current i ++ (slot_in_full Previous next.previous i ++ last))))
    ∙ front_by (λ piece. body_of_piece piece) (λ kept. refl) agent node event

-- ---- reports in size

abbrev InSize : Kept → Type 0
InSize kept = ReportInSize kept.report

front_sizes : (sent : Option ℕ) (kept rest : List Kept) → All InSize (map (with_mark sent) kept ++ rest) → All InSize kept
front_sizes sent [] rest all k d below = absurd (omega arith)
front_sizes sent (x ∷ xs) rest all zero d below = all zero d (omega arith)
front_sizes sent (x ∷ xs) rest all (suc k) d below = front_sizes sent xs rest (λ n e less. all (suc n) e (omega (arith, less))) k d (omega (arith, below))

back_size : (kept : List Kept) (report : Option Report) → All InSize (kept ++ at_end report) → IfSome report ReportInSize
back_size [] None all = tt
back_size [] (Some report) all = all zero (unsent report) (omega arith)
back_size (x ∷ xs) report all = back_size xs report (λ n e less. all (suc n) e (omega (arith, less)))

all_in_size : (node : Node) (event : Event) → Sound (after node event) → All InSize (reports_after node event)
all_in_size node event sound = subst (λ (l : List Kept). All InSize l) (sym (reports_are node event)) sound.reports.sizes

pub kept_in_size : (node : Node) (event : Event) → Sound (after node event) → AllByRecursion (λ kept. ReportInSize kept.report) (kept_before node event)
kept_in_size node event sound =
    recursion_from_All InSize (kept_before node event) (front_sizes (sent_in event) (kept_before node event) (at_end (added event)) (all_in_size node event sound))

pub added_in_size : (node : Node) (event : Event) → Sound (after node event) → IfSome (added event) ReportInSize
added_in_size node event sound = back_size (map (with_mark (sent_in event)) (kept_before node event)) (added event) (all_in_size node event sound)

-- the text of the meta-configuration after an event is that of the one that the event brings
pub brings : (node : Node) (event : Event) (text : List ℕ) → text ≡ text_of_meta (after node event).meta → BringsText event text
brings node (events.Init agent) text is = tt
brings node (events.SetMeta meta) text is = is
brings node events.Registered text is = tt
brings node (events.Stage staged) text is = tt
brings node (events.Promote report) text is = tt
brings node (events.Note report) text is = tt
brings node (events.AskReboot report) text is = tt
brings node events.Boot text is = tt
brings node (events.Sent job) text is = tt
brings node (events.Remove stage) text is = tt
brings node events.Restore text is = tt

not_both : {X : Type 0} {x : X} → None ≡ Some x → ⊥
not_both is = cc is

-- the text after an event: the one that it brings, or the one before it
pub text_some : (node : Node) (event : Event) (given : Option (List ℕ)) (text : List ℕ) → IsTextOf event given → given ≡ Some text → text ≡ text_of_meta (after node event).meta
text_some node (events.SetMeta meta) given text is some = same_Some text (text_of_meta meta) (sym some ∙ is)
text_some node (events.Init agent) given text is some = absurd (not_both (sym is ∙ some))
text_some node events.Registered given text is some = absurd (not_both (sym is ∙ some))
text_some node (events.Stage staged) given text is some = absurd (not_both (sym is ∙ some))
text_some node (events.Promote report) given text is some = absurd (not_both (sym is ∙ some))
text_some node (events.Note report) given text is some = absurd (not_both (sym is ∙ some))
text_some node (events.AskReboot report) given text is some = absurd (not_both (sym is ∙ some))
text_some node events.Boot given text is some = absurd (not_both (sym is ∙ some))
text_some node (events.Sent job) given text is some = absurd (not_both (sym is ∙ some))
text_some node (events.Remove stage) given text is some = absurd (not_both (sym is ∙ some))
text_some node events.Restore given text is some = absurd (not_both (sym is ∙ some))

pub text_none : (node : Node) (event : Event) (given : Option (List ℕ)) (text : List ℕ) → IsTextOf event given → given ≡ None → text ≡ text_of_meta node.meta → text ≡ text_of_meta (after node event).meta
text_none node (events.SetMeta meta) given text is none old = absurd (not_both (sym none ∙ is))
text_none node (events.Init agent) given text is none old = old
text_none node events.Registered given text is none old = old
text_none node (events.Stage staged) given text is none old = old
text_none node (events.Promote report) given text is none old = old
text_none node (events.Note report) given text is none old = old
text_none node (events.AskReboot report) given text is none old = old
text_none node events.Boot given text is none old = old
text_none node (events.Sent job) given text is none old = old
text_none node (events.Remove Pending) given text is none old = old
text_none node (events.Remove Current) given text is none old = old
text_none node (events.Remove Previous) given text is none old = old
text_none node events.Restore given text is none old = old
