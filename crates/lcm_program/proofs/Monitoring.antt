-- How `test` ends, from what was run and what was printed.
use Rattle.std.proofs.Common.{◌≡◌, ◌⊎◌, ◌∙◌, ◌++◌, inl, inr, ℕ, Bool, true, false, List, [], Result, Ok, Err, refl, sym, subst, append-nil}
use Rattle.std.specs.Prelude.{IfErr, IfOk}
use Rattle.dsc_document.specs.declared.document.Document.{Document}
use Rattle.resource_kinds.specs.declared.entry.Entry.{Entry}
use Rattle.resource_kinds.specs.Apart.{Apart, Overlap}
use Rattle.resource_kinds.specs.declared.resources.Resources as resources
use Rattle.lcm_core.specs.declared.modes.RunEnd.{RunEnd}
use Rattle.lcm_core.specs.declared.modes.RunEnd.TheVariants as ends
use Rattle.lcm_core.proofs.Traces.{monitor_sets_nothing}
use Rattle.dsc_node.specs.declared.status.Status.{Status}
use Rattle.dsc_node.specs.declared.status.Status.TheVariants.{Done, NotCompliant, InputRefused, ReadFault, WriteFault, Memory}
use Rattle.dsc_node.specs.Lines.{IsRunText, overlap_line, run_lines}
use Rattle.lcm_program.specs.declared.input.Unread.{Unread}
use Rattle.lcm_program.specs.declared.input.Unread.TheVariants as unread
use Rattle.lcm_program.specs.Answers.{EachAllows}
use Rattle.lcm_program.specs.Endings.{UnreadEnds}
use Rattle.lcm_program.specs.Input.{ReadsDocument}
use Rattle.lcm_program.specs.Objects.{IsOffline, Known, Objects}
use Rattle.lcm_program.specs.Further.{nothing_further, nothing_further_of_runs}
use Rattle.lcm_program.specs.Test.{IsRunOf, IsUntested, Monitored, PrintsRun, Tested, TestEnds}
use Rattle.lcm_program.proofs.Readings.{document_decides, each_failed, each_memory, each_refused, each_used}

-- ---- a run that only monitors

-- it comes to its last resource, where it was never out of memory
pub monitored_all : {M : Type 0} (machine : resources.Ghosts M) (document : Document) (end : RunEnd) (before after : M)
    → (end ≡ ends.Finished) ⊎ ((r : ℕ) × (end ≡ ends.RebootAsked r))
    → Monitored machine nothing_further_of_runs document end before after → Monitored machine nothing_further_of_runs document ends.Finished before after
monitored_all machine document end before after (inl is) run = subst (λ (e : RunEnd). Monitored machine nothing_further_of_runs document e before after) is run
monitored_all machine document end before after (inr (r, is)) run =
    let asked = subst (λ (e : RunEnd). Monitored machine nothing_further_of_runs document e before after) is run in
    absurd (monitor_sets_nothing document run.order (machine.trace after) asked.ended.0 r _ [] run.legal asked.ended.1)

-- the lines of a run are its text, with what was found of overlaps
pub is_run_text : (document : Document) (trace : List Entry) (text : List ℕ) (overlaps : Bool) → (overlaps ≡ false → Apart document) → (overlaps ≡ true → Overlap document)
    → text ≡ run_lines document trace ++ overlap_line overlaps → IsRunText document trace text
is_run_text document trace text true apart overlap lines = inr (overlap refl, lines)
is_run_text document trace text false apart overlap lines = inl (apart refl, lines ∙ append-nil (run_lines document trace))

-- ---- the command

module _ {S K D M L C : Type 0} (o : Known S K D M L C) (before after : Objects S K D M L C) where
  run_ends : (text : List ℕ) (missed : ℕ) (status : Status) → IsRunOf o.outside.resources nothing_further_of_runs (o.source.left before.input) before.machine after.machine text missed
      → PrintsRun o.sink text missed status before.output after.output → TestEnds o nothing_further_of_runs status before after
  run_ends text missed Done run prints = (text, missed, run, prints)
  run_ends text missed (NotCompliant count) run prints = (text, missed, run, prints)
  run_ends text missed WriteFault run prints = (text, missed, run, prints)
  run_ends text missed _ run prints = absurd prints

  untested_ends : (e : Unread) (status : Status)
      → IsUntested o.outside.resources nothing_further_of_runs e (o.source.left before.input) (o.source.faults before.input) (o.source.faults after.input) before.machine after.machine
      → UnreadEnds o.sink e status before.output after.output → TestEnds o nothing_further_of_runs status before after
  untested_ends unread.Memory status stops silent = subst (λ (s : Status). TestEnds o nothing_further_of_runs s before after) (sym silent.0) (stops, silent.1)
  untested_ends (unread.Refused error) status cause (inl printed) =
      subst (λ (s : Status). TestEnds o nothing_further_of_runs s before after) (sym printed.0) (cause.0, printed.1, cause.1)
  untested_ends (unread.Refused error) status cause (inr silent) =
      subst (λ (s : Status). TestEnds o nothing_further_of_runs s before after) (sym silent.0) (inl cause.1, silent.1)
  untested_ends unread.ReadFault status cause (inl printed) =
      subst (λ (s : Status). TestEnds o nothing_further_of_runs s before after) (sym printed.0) (cause.0, printed.1, cause.1)
  untested_ends unread.ReadFault status cause (inr silent) =
      subst (λ (s : Status). TestEnds o nothing_further_of_runs s before after) (sym silent.0) (inl cause.1, silent.1)

  each_test : (status : Status) → TestEnds o nothing_further_of_runs status before after
      → EachAllows ReadsDocument (o.source.left before.input) status (o.source.faults before.input) (o.source.faults after.input)
  each_test Done ends = each_used ReadsDocument document_decides _ _ _ ends.2.document Done tt ends.2.input_is
  each_test (NotCompliant count) ends = each_used ReadsDocument document_decides _ _ _ ends.2.document (NotCompliant count) tt ends.2.input_is
  each_test WriteFault ends = each_used ReadsDocument document_decides _ _ _ ends.2.document WriteFault tt ends.2.input_is
  each_test (InputRefused error) ends = each_refused ReadsDocument document_decides _ _ _ error ends.0
  each_test ReadFault ends = each_failed ReadsDocument _ _ _ ends.0
  each_test Memory ends = each_memory ReadsDocument _ _ _
  each_test _ ends = absurd ends

  pub tested : {T : Type 0} (text_of : T → List ℕ) (missed_of : T → ℕ) (run : Result T Unread) (status : Status) → IsOffline before after
      → IfOk run (λ outcome. IsRunOf o.outside.resources nothing_further_of_runs (o.source.left before.input) before.machine after.machine (text_of outcome) (missed_of outcome))
      → IfErr run (λ e. IsUntested o.outside.resources nothing_further_of_runs e (o.source.left before.input) (o.source.faults before.input) (o.source.faults after.input) before.machine after.machine)
      → IfOk run (λ outcome. PrintsRun o.sink (text_of outcome) (missed_of outcome) status before.output after.output)
      → IfErr run (λ e. UnreadEnds o.sink e status before.output after.output)
      → Tested o nothing_further status before after
  tested text_of missed_of (Ok outcome) status offline is_run stops prints silent =
      let all = run_ends (text_of outcome) (missed_of outcome) status is_run prints in
      record { offline = offline; ends = all; each = each_test status all }
  tested text_of missed_of (Err e) status offline is_run stops prints silent =
      let all = untested_ends e status stops silent in
      record { offline = offline; ends = all; each = each_test status all }
