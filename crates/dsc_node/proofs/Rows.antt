-- The rows of the table, exit by exit.
use Rattle.std.proofs.Common.{◌≡◌, ◌≢◌, ◌⊎◌, inl, inr, ℕ, List, [], ◌∷◌, ◌++◌, refl, sym, subst, append-nil, Option, Some, None, Result, Ok, Err, Bool, true, false}
use Rattle.dsc_outside.specs.declared.disk.Disk.{Ghosts}
use Rattle.dsc_document.specs.declared.document.Document.{Document}
use Rattle.resource_kinds.specs.declared.entry.Entry.{Entry}
use Rattle.node_state.specs.declared.node.Node.{Node}
use Rattle.node_state.specs.declared.event.Event.{Event}
use Rattle.node_state.specs.Table.{Step}
use Rattle.node_store.specs.declared.error.StoreError.{StoreError}
use Rattle.node_store.specs.declared.error.StoreError.TheVariants as errors
use Rattle.node_store.specs.Store.{IsKept, StoreTerm}
use Rattle.dsc_outside.specs.Link.{LinkView}
use Rattle.dsc_node.specs.declared.status.Status.{Status}
use Rattle.dsc_node.specs.declared.status.Status.TheVariants as statuses
use Rattle.dsc_node.specs.declared.running.Over.{Over}
use Rattle.dsc_node.specs.Bringing.{events_of}
use Rattle.dsc_node.specs.Endings.{Answers, Ends, status_of}
use Rattle.dsc_node.specs.Lines.{IsRunText, overlap_line, run_lines}
use Rattle.dsc_node.specs.Path.{Carries, CommitGoes, EndsStart, FirstGoes, IsKeptSo, IsRefusedSo, KeepGoes, NothingGoes, SendsOn, event_to_keep, text_of}
use Rattle.dsc_node.specs.Readings.{Took}
use Rattle.dsc_node.specs.Running.{IsFound, IsOver, run_of}
use Rattle.dsc_node.specs.Runs.{Run, Unended, chosen_of, end_line, status_after}
use Rattle.dsc_node.specs.Sending.{EndsAfterSending, Tried}
use Rattle.dsc_node.specs.Work.{Finish, Known, no_run, report_kept, report_refused, unended, unready}
use Rattle.dsc_node.proofs.Commits.{ends_as, ends_here, ends_on}

-- what was found of overlaps is what the text says
pub run_text : (document : Document) (trace : List Entry) (overlap : Bool) → IsFound document overlap → IsRunText document trace (run_lines document trace ++ overlap_line overlap)
run_text document trace true found = inr (found.overlaps refl, refl)
run_text document trace false found = inl (found.apart refl, append-nil (run_lines document trace))

-- a commit of the first event
pub first_goes : {T D : Type 0} (d : Ghosts D) (old now : D) (before after : StoreTerm) (first : Option Event) (event : Event) → first ≡ Some event → (result : Result T StoreError)
    → CommitGoes d old now before event result after → FirstGoes d old now before first result after
first_goes d old now before after first event one (Ok v) carries = subst (λ (f : Option Event). Carries d old now before after (events_of f)) (sym one) carries
first_goes d old now before after first event one (Err error) ends = ends_as d ends (λ from counts work committed broken refused. (event, one, refused))

-- ---- the event that keeps the report of a run

module _ {D : Type 0} (d : Ghosts D) (store : StoreTerm) (over : Over) (trace : List Entry) (asked : LinkView) (status : Status) (lines : List ℕ) where
  pub kept_so : (old mid now : D) (after : StoreTerm) (heard : LinkView) (event : Event) → event ≡ event_to_keep over → Carries d old mid store after (event ∷ [])
      → (tried : Result (List Tried) StoreError) → SendsOn d mid now after asked heard tried
      → EndsAfterSending (status_after store.node.meta.reboot_if_needed over.end over.report.missed) (text_of over trace) (end_line over.end over.pending over.report.missed) tried status lines
      → KeepGoes d old now store over trace asked heard status lines
  kept_so old mid now after heard event is carries tried sends ends =
      let kept = subst (λ (e : Event). Carries d old mid store after (e ∷ [])) is carries in
      ends_on d kept sends (λ from counts work committed broken s. inl (record {
        noted = after.node;
        step = subst (λ (n : Node). Step store.node (event_to_keep over) n) (sym kept.steps.2) kept.steps.1;
        tried = tried;
        sends = s;
        ends = ends;
      }))

  pub refused_so : (old now : D) (after : StoreTerm) (event : Event) (error : StoreError) → event ≡ event_to_keep over → CommitGoes {T = Unit {0}} d old now store event (Err error) after
      → error ≢ errors.Memory → Answers (status_of error) (text_of over trace) status lines → KeepGoes d old now store over trace asked asked status lines
  refused_so old now after event error is goes memory answers =
      ends_as d (subst (λ (e : Event). CommitGoes {T = Unit {0}} d old now store e (Err error) after) is goes) (λ from counts work committed broken r.
      inr (record { error = error; memory = memory; refused = r; unasked = refl; answers = answers }))

-- ---- the run of a start

module _ {D S C : Type 0} (o : Known D S C) (old now : D) (store : StoreTerm) (stopped : Bool) (readings left : Option (List (Option ℕ))) (start : ℕ) (asked heard : LinkView) (before after : S)
    (status : Status) (lines : List ℕ) where
  abbrev pub FinishGoes : Type 0
  FinishGoes = (run : Option Run) × EndsStart o.disk old now store (λ from counts work committed broken.
      Finish o from counts work store.node stopped readings left start asked heard before after status lines run committed broken)

  pub finish_unended : now ≡ old → IsKept o.disk old store → Ends statuses.Memory [] status lines → heard ≡ asked
      → ((after ≡ before) ⊎ ((run : Run) × Unended o.resources store.node stopped run before after)) × (left ≡ readings) → FinishGoes
  finish_unended same kept ends unasked (inl idle, taken) = (
    None,
    subst (λ (x : D). EndsStart o.disk old x store (λ from counts work committed broken. Finish o from counts work store.node stopped readings left start asked heard before after status lines None committed broken)) (sym same)
        (ends_here o.disk kept (λ from counts work. unready idle taken unasked ends)),
  )
  finish_unended same kept ends unasked (inr (run, ran), taken) = (
    Some run,
    subst (λ (x : D). EndsStart o.disk old x store (λ from counts work committed broken. Finish o from counts work store.node stopped readings left start asked heard before after status lines (Some run) committed broken)) (sym same)
        (ends_here o.disk kept (λ from counts work. unended run ran taken unasked ends)),
  )

  pub finish_nothing : chosen_of stopped store.node ≡ None → after ≡ before → left ≡ readings → NothingGoes o.disk old now store asked heard status lines → FinishGoes
  finish_nothing none idle taken goes = (None, ends_as o.disk goes (λ from counts work committed broken n. no_run n.tried committed broken none idle taken n.sends n.ends))

  pub finish_kept : (over : Over) → IsOver o.resources store.node stopped readings start over before after × Took 1 readings left
      → KeepGoes o.disk old now store over (o.resources.trace after) asked heard status lines → FinishGoes
  finish_kept over (is, took) goes = (Some (run_of over is.parts is.mode is.order), ends_as o.disk goes row) where
    text : IsRunText over.document (o.resources.trace after) (text_of over (o.resources.trace after))
    text = run_text over.document (o.resources.trace after) over.overlap is.found

    row : (from : Node) (counts : ℕ × ℕ) (work committed : List Event) (broken : Option Event)
        → IsKeptSo from counts work store.node over (o.resources.trace after) asked heard status lines committed broken ⊎ IsRefusedSo from counts work over (o.resources.trace after) asked heard status lines committed broken
        → Finish o from counts work store.node stopped readings left start asked heard before after status lines (Some (run_of over is.parts is.mode is.order)) committed broken
    row from counts work committed broken (inl n) =
        report_kept (run_of over is.parts is.mode is.order) over.report (text_of over (o.resources.trace after)) n.noted n.tried committed broken is.reported took text n.step n.sends n.ends
    row from counts work committed broken (inr n) =
        report_refused (run_of over is.parts is.mode is.order) over.report n.error (text_of over (o.resources.trace after)) committed broken is.reported took n.unasked n.refused n.memory text n.answers
