-- The report of a run that is over.
use Rattle.std.proofs.Common.{◌≡◌, ◌≢◌, inl, ℕ, ◌≤◌, List, map, Option, Some, None, refl, sym, ap, subst, ◌∙◌, arith}
use Rattle.mof_values.specs.declared.limits.TheConstants.{MAX_NAME_BYTES}
use Rattle.std.specs.Prelude.{Bool, true, false, IfSome}
use Rattle.std.proofs.lemmas.List.{length-map}
use Rattle.std.proofs.lemmas.List.Elements.{All-map}
use Rattle.dsc_terms.specs.Counts.{RoseBy}
use Rattle.dsc_outside.specs.Clock.{last_moment}
use Rattle.dsc_document.specs.declared.document.Document.{Document}
use Rattle.depend_order.specs.Documents.{IsOrderOfDocument}
use Rattle.meta_config.specs.declared.modes.ConfigMode.{ConfigMode}
use Rattle.meta_config.specs.declared.modes.ConfigMode.TheVariants.{ApplyOnly, ApplyAndMonitor, ApplyAndAutoCorrect}
use Rattle.meta_config.specs.Parts.{is_pull}
use Rattle.partial_merge.specs.declared.part.Part.{Part}
use Rattle.partial_merge.specs.Merged.{Merged}
use Rattle.resource_kinds.specs.declared.resources.Resources.{Ghosts}
use Rattle.resource_kinds.specs.declared.entry.Entry.{Entry}
use Rattle.resource_kinds.specs.Trace.{Chain, host_failures}
use Rattle.lcm_core.specs.declared.modes.RunEnd.{RunEnd}
use Rattle.lcm_core.specs.declared.modes.RunEnd.TheVariants as ends
use Rattle.lcm_core.specs.declared.modes.RunMode.{RunMode}
use Rattle.lcm_core.specs.Ends.{IsEnd}
use Rattle.lcm_core.specs.Legal.{Legal}
use Rattle.lcm_core.specs.RepairLaws.{IsReportable, RunsAreReportable}
use Rattle.report_log.specs.declared.report.Frame.{Frame}
use Rattle.report_log.specs.declared.report.PartMark.{PartMark}
use Rattle.report_log.specs.declared.report.Report.{Report}
use Rattle.report_log.specs.Report.{IsReport}
use Rattle.dsc_document.specs.Sizes.{Fits}
use Rattle.report_log.specs.Sizes.{FrameInSize, PartsInSize, ReportInSize}
use Rattle.node_state.specs.declared.node.Node.{Node}
use Rattle.node_state.specs.Lists.{AreNamed, IsStaged}
use Rattle.node_state.specs.Sound.{Sound}
use Rattle.node_pull.specs.Marks.{mark_of}
use Rattle.dsc_node.specs.Ran.{EndsAs, IsWholeOrNone}
use Rattle.dsc_node.specs.Readings.{Gave, end_of}
use Rattle.dsc_node.specs.Runs.{Choice, Ran, Reported, Run, chosen_among, chosen_current, chosen_of, frame_of}
use Rattle.dsc_node.proofs.HeadlineRuns.{no_choice, some_choice, whole_of}

-- ---- what is run was staged

staged_current : (mode : ConfigMode) (parts : List Part) (choice : Choice) → IsStaged parts → chosen_current mode parts ≡ Some choice → IsStaged choice.parts
staged_current ApplyOnly parts choice staged is = no_choice choice is
staged_current ApplyAndMonitor parts choice staged is = subst (λ (c : Choice). IsStaged c.parts) (some_choice _ choice is) staged
staged_current ApplyAndAutoCorrect parts choice staged is = subst (λ (c : Choice). IsStaged c.parts) (some_choice _ choice is) staged

staged_among : (mode : ConfigMode) (pending current : Option (List Part)) (choice : Choice) → IfSome pending IsStaged → IfSome current IsStaged → chosen_among mode pending current ≡ Some choice
    → IsStaged choice.parts
staged_among mode (Some parts) current choice pending other is = subst (λ (c : Choice). IsStaged c.parts) (some_choice _ choice is) pending
staged_among mode None (Some parts) choice pending other is = staged_current mode parts choice other is
staged_among mode None None choice pending other is = no_choice choice is

pub chosen_staged : (stopped : Bool) (node : Node) (choice : Choice) → Sound node → chosen_of stopped node ≡ Some choice → IsStaged choice.parts
chosen_staged true node choice sound is = no_choice choice is
chosen_staged false node choice sound is = staged_among node.meta.mode node.pending node.current choice sound.pending sound.current is

-- ---- a run

module _ {S : Type 0} (machine : Ghosts S) (choice : Choice) (document : Document) (order : List ℕ) (end : RunEnd) (before after : S) where
  abbrev pub the_run : Run
  the_run = record { choice = choice; document = document; order = order; end = end }

  pub ran_of : Merged choice.parts document → IsOrderOfDocument document order → Legal document choice.mode order (machine.trace after)
      → IsWholeOrNone document choice.mode order end (machine.trace after) → EndsAs end (machine.trace after) → Chain machine.does machine.still document before (machine.trace after) after
      → RoseBy (host_failures (machine.trace after)) (machine.faults before) (machine.faults after) → machine.faults before ≤ machine.faults after → Ran machine the_run before after
  ran_of merged ordered legal whole ended chain failures later = record {
    merged = merged;
    is_order = ordered;
    legal = legal;
    whole = whole;
    ended = ended;
    chain = chain;
    failures = failures;
    later = later;
  }

is_end : (mode : RunMode) (end : RunEnd) (trace : List Entry) → end ≢ ends.Memory → EndsAs end trace → IsEnd mode end trace
is_end mode ends.Finished trace goes_on ended = ended
is_end mode (ends.RebootAsked place) trace goes_on ended = ended
is_end mode ends.Memory trace goes_on ended = absurd (goes_on refl)

pub reportable : RunsAreReportable → {S : Type 0} (machine : Ghosts S) (run : Run) (before after : S) → Ran machine run before after → run.end ≢ ends.Memory
    → IsReportable run.document (machine.trace after)
reportable law machine run before after ran goes_on =
    law run.document run.choice.mode run.order run.end (machine.trace after) goes_on ran.legal
    (inl (whole_of run.document run.choice.mode run.order run.end (machine.trace after) ran.whole goes_on))
    (is_end run.choice.mode run.end (machine.trace after) goes_on ran.ended)

-- ---- its frame

pub frame_in_size : (parts : List Part) (frame : Frame) → AreNamed parts → frame.parts ≡ map mark_of parts → frame.start ≤ last_moment → frame.end ≤ last_moment → FrameInSize frame
frame_in_size parts frame named is start end = record {
  parts = subst (λ (marks : List PartMark). PartsInSize marks) (sym is) (record {
    count = omega (arith, length-map parts mark_of, named.few);
    names = All-map (λ mark. Fits MAX_NAME_BYTES mark.name) mark_of parts named.names;
  });
  times = record { start = start; end = end };
}

frame_with : Node → Choice → ℕ → Bool → ℕ → List PartMark → Frame
frame_with node choice start pull end marks = record { job = node.next_job; initial = choice.pending; pull = pull; start = start; end = end; parts = marks }

pub framed : (node : Node) (choice : Choice) (start : ℕ) (pull : Bool) (end : ℕ) (marks : List PartMark) (given : Option ℕ) → pull ≡ is_pull node.meta.refresh → end ≡ end_of start given
    → marks ≡ map mark_of choice.parts
    → record { job = node.next_job; initial = choice.pending; pull = pull; start = start; end = end; parts = marks } ≡ frame_of node choice start (end_of start given)
unfolding frame_with
framed node choice start pull end marks given same last are =
    ap (λ (b : Bool). frame_with node choice start b end marks) same
    ∙ ap (λ (e : ℕ). frame_with node choice start (is_pull node.meta.refresh) e marks) last
    ∙ ap (λ (ms : List PartMark). frame_with node choice start (is_pull node.meta.refresh) (end_of start given) ms) are

pub reported_of : {S : Type 0} (machine : Ghosts S) (node : Node) (stopped : Bool) (readings : Option (List (Option ℕ))) (start : ℕ) (run : Run) (report : Report) (before after : S)
    (given : Option ℕ) (frame : Frame) (trace : List Entry) → chosen_of stopped node ≡ Some run.choice → Ran machine run before after → run.end ≢ ends.Memory → Gave readings given
    → frame ≡ frame_of node run.choice start (end_of start given) → trace ≡ machine.trace after → IsReport run.document trace frame report → ReportInSize report
    → Reported machine node stopped readings start run report before after
reported_of machine node stopped readings start run report before after given frame trace chosen ran goes_on gave framed same is in_size = record {
  chosen = chosen;
  ran = ran;
  goes_on = goes_on;
  given = given;
  time = gave;
  is = subst (λ (f : Frame). IsReport run.document (machine.trace after) f report) framed (subst (λ (t : List Entry). IsReport run.document t frame report) same is);
  in_size = in_size;
}
