-- The run of a start: what the headline says of it, over any machine and over the kinds of resources of a host.
use Rattle.std.proofs.Common.{◌≡◌, ◌≢◌, ℕ, ◌<◌, Bool, true, false, List, length, Option, Some, None, refl, sym, ap, subst, ◌∙◌, arith}
use Rattle.dsc_outside.specs.declared.disk.Disk as disks
use Rattle.dsc_outside.specs.declared.host.Host as hosts
use Rattle.dsc_outside.specs.Host.{HostState}
use Rattle.dsc_document.specs.declared.document.Document.{Document}
use Rattle.partial_merge.specs.declared.part.Part.{Part}
use Rattle.meta_config.specs.declared.meta.Meta.{Meta}
use Rattle.meta_config.specs.declared.modes.ConfigMode.{ConfigMode}
use Rattle.meta_config.specs.declared.modes.ConfigMode.TheVariants.{ApplyOnly, ApplyAndMonitor, ApplyAndAutoCorrect}
use Rattle.resource_kinds.specs.declared.kinds.Kinds.{Kinds}
use Rattle.resource_kinds.specs.declared.entry.Entry.{Entry}
use Rattle.resource_kinds.specs.declared.resources.Resources as resources
use Rattle.resource_kinds.specs.Kinds.{calls_of, host_of}
use Rattle.resource_kinds.specs.Trace.{Compliant, EndsInReboot, Succeeded}
use Rattle.resource_kinds.specs.True.{TellsTrue, True}
use Rattle.lcm_core.specs.declared.modes.RunEnd.{RunEnd}
use Rattle.lcm_core.specs.declared.modes.RunEnd.TheVariants as ends
use Rattle.lcm_core.specs.declared.modes.RunMode.{RunMode}
use Rattle.lcm_core.specs.declared.modes.RunMode.TheVariants.{Repair}
use Rattle.lcm_core.specs.Legal.{Legal}
use Rattle.lcm_core.specs.RepairLaws.{ComesTo, FaultsAreContained, IsFullRepair, IsSound, IsSpared, RepairSucceeds}
use Rattle.lcm_core.specs.RunLaws.{CompliantHold}
use Rattle.lcm_core.specs.Whole.{Whole}
use Rattle.lcm_core.proofs.Compliance.{each_succeeded, none_missed}
use Rattle.report_log.specs.declared.report.Frame.{Frame}
use Rattle.report_log.specs.declared.report.Outcome.{Outcome}
use Rattle.report_log.specs.declared.report.Outcome.TheVariants as outcomes
use Rattle.report_log.specs.declared.report.Outcome.TheVariants.{Success}
use Rattle.report_log.specs.declared.report.Report.{Report}
use Rattle.report_log.specs.Report.{IsOutcome, IsReport}
use Rattle.node_state.specs.declared.node.Node.{Node}
use Rattle.node_state.specs.declared.event.Event.{Event}
use Rattle.dsc_node.specs.declared.status.Status.{Status}
use Rattle.dsc_node.specs.Headline.{AreTold, IsPrinted, Keeps}
use Rattle.dsc_node.specs.HostHeadline.{HoldTogether, IsFaultless, IsFinished, IsTrueRun, kinds_of}
use Rattle.dsc_node.specs.Ran.{EndsAs, IsWholeOrNone}
use Rattle.dsc_node.specs.Readings.{end_of}
use Rattle.dsc_node.specs.Runs.{Choice, Ran, Reported, Run, chosen_among, chosen_current, chosen_of, frame_of}
use Rattle.dsc_node.proofs.Runs.{kinds_tell}

-- ---- values

told_between : (document : Document) (trace : List Entry) (before after : Option HostState) (b e : HostState) → before ≡ Some b → after ≡ Some e → TellsTrue document before trace after → True document b trace e
told_between document trace before after b e is_b is_e tells =
    let t = subst (λ (o : Option HostState). TellsTrue document o trace after) is_b tells in
    let same : t.0 ≡ e = let both = sym t.1 ∙ is_e in cc both in
    subst (λ (h : HostState). True document b trace h) same t.2

pub whole_of : (document : Document) (mode : RunMode) (order : List ℕ) (end : RunEnd) (trace : List Entry) → IsWholeOrNone document mode order end trace → end ≢ ends.Memory → Whole document mode order trace
whole_of document mode order ends.Finished trace whole goes_on = whole
whole_of document mode order (ends.RebootAsked place) trace whole goes_on = whole
whole_of document mode order ends.Memory trace whole goes_on = absurd (goes_on refl)

-- where a report says success, nothing was missed
success_none : (trace : List Entry) (missed : ℕ) (outcome : Outcome) → IsOutcome trace missed outcome → outcome ≡ Success → missed ≡ 0
success_none trace missed outcome is same = (subst (λ (o : Outcome). IsOutcome trace missed o) same is).1

-- and where nothing was missed, and no reboot asked for, it says so
none_success : (trace : List Entry) (missed : ℕ) (outcome : Outcome) → IsOutcome trace missed outcome → (EndsInReboot trace → ⊥) → missed ≡ 0 → outcome ≡ Success
none_success trace missed outcomes.Success is goes_on none = refl
none_success trace missed outcomes.Failure is goes_on none = absurd (omega (arith, is.1, none))
none_success trace missed outcomes.Reboot is goes_on none = absurd (goes_on is)

pub some_choice : (a b : Choice) → Some a ≡ Some b → a ≡ b
some_choice a b is = cc is

pub no_choice : {A : Type 0} (choice : Choice) → None ≡ Some choice → A
no_choice choice is = absurd (cc is)

false-true : {A : Type 0} → false ≡ true → A
false-true is = absurd (cc is)

-- what is pending is repaired
current_not_pending : {A : Type 0} (mode : ConfigMode) (parts : List Part) (choice : Choice) → chosen_current mode parts ≡ Some choice → choice.pending ≡ true → A
current_not_pending ApplyOnly parts choice is pending = no_choice choice is
current_not_pending ApplyAndMonitor parts choice is pending = false-true (ap (λ (c : Choice). c.pending) (some_choice _ choice is) ∙ pending)
current_not_pending ApplyAndAutoCorrect parts choice is pending = false-true (ap (λ (c : Choice). c.pending) (some_choice _ choice is) ∙ pending)

pending_among : (mode : ConfigMode) (pending current : Option (List Part)) (choice : Choice) → chosen_among mode pending current ≡ Some choice → choice.pending ≡ true
    → (choice.mode ≡ Repair) × (pending ≡ Some choice.parts)
pending_among mode (Some parts) current choice is pending =
    let same = some_choice _ choice is in
    (sym (ap (λ (c : Choice). c.mode) same), ap (λ (c : Choice). Some c.parts) same)
pending_among mode None (Some parts) choice is pending = current_not_pending mode parts choice is pending
pending_among mode None None choice is pending = no_choice choice is

pub pending_chosen : (stopped : Bool) (node : Node) (choice : Choice) → chosen_of stopped node ≡ Some choice → choice.pending ≡ true → (choice.mode ≡ Repair) × (node.pending ≡ Some choice.parts)
pending_chosen true node choice is pending = no_choice choice is
pending_chosen false node choice is pending = pending_among node.meta.mode node.pending node.current choice is pending

-- ---- runs

-- what is said of the run of a report
module _ {S : Type 0} (machine : resources.Ghosts S) (before after : S) where
  pub shown : (from node : Node) → node.next_job ≡ from.next_job → node.meta ≡ from.meta → (stopped : Bool) (readings : Option (List (Option ℕ))) (start : ℕ) (run : Run) (report : Report)
      (work : List Event) (status : Status) (lines : List ℕ)
      → Reported machine node stopped readings start run report before after → ((kept : Report) → Keeps work kept → kept ≡ report)
      → IsPrinted run (machine.trace after) status lines → AreTold from (Some run) (machine.trace after) work status lines
  shown from node job meta stopped readings start run report work status lines reported one printed = record {
    report = λ kept k. (start, end_of start reported.given, subst (λ (r : Report). IsReport run.document (machine.trace after) (frame_of from run.choice start (end_of start reported.given)) r) (sym (one kept k)) is);
    success = λ kept k success r lt.
        each_succeeded run.document (machine.trace after) (sym is.missed ∙ success_none (machine.trace after) report.missed report.outcome is.outcome (ap (λ (x : Report). x.outcome) (sym (one kept k)) ∙ success)) r lt;
    compliant = λ kept k goes_on compliant.
        ap (λ (x : Report). x.outcome) (one kept k) ∙ none_success (machine.trace after) report.missed report.outcome is.outcome goes_on (is.missed ∙ compliant);
    printed = printed;
  } where
    framed : (job : ℕ) (meta : Meta) → Node → Node
    framed job meta n = record n { next_job = job; meta = meta }

    same : frame_of node run.choice start (end_of start reported.given) ≡ frame_of from run.choice start (end_of start reported.given)
    same = ap (λ (j : ℕ). frame_of (framed j node.meta from) run.choice start (end_of start reported.given)) job ∙ ap (λ (m : Meta). frame_of (framed from.next_job m from) run.choice start (end_of start reported.given)) meta

    is : IsReport run.document (machine.trace after) (frame_of from run.choice start (end_of start reported.given)) report
    is = subst (λ (f : Frame). IsReport run.document (machine.trace after) f report) same reported.is

module _ {H : Type 0} (host : hosts.Ghosts H) (before after : Kinds H) where
  pub is_true : (run : Run) → Ran (kinds_of host) run before after → IsTrueRun host (Some run) before after
  is_true run r = kinds_tell host.shown run.document before after (calls_of after) r.chain

  pub together : CompliantHold → (run : Run) → Ran (kinds_of host) run before after → HoldTogether host (Some run) before after
  together law run r b e is_b is_e apart compliant =
      law run.document run.choice.mode run.order b e (calls_of after) r.legal
      (told_between run.document (calls_of after) _ _ b e is_b is_e (is_true run r)) apart compliant

  -- a repair that came to its last resource
  module _ (run : Run) (r : Ran (kinds_of host) run before after) where
    ends_finished : (end : RunEnd) → end ≡ ends.Finished → end ≢ ends.Memory
    ends_finished end is memory = cc (is, memory)

    full_repair : (f : IsFinished host run before) → (state : HostState) × IsFullRepair run.document run.order f.state (calls_of after) state
    full_repair f =
        let tells = subst (λ (o : Option HostState). TellsTrue run.document o (calls_of after) (host.shown (host_of after))) f.tells
        (kinds_tell host.shown run.document before after (calls_of after) r.chain) in (
          tells.0,
          record {
            ordered = r.is_order;
            legal = subst (λ (m : RunMode). Legal run.document m run.order (calls_of after)) f.repairs r.legal;
            whole = subst (λ (m : RunMode). Whole run.document m run.order (calls_of after)) f.repairs
                (whole_of run.document run.choice.mode run.order run.end (calls_of after) r.whole (ends_finished run.end f.finished));
            finished = subst (λ (e : RunEnd). EndsAs e (calls_of after)) f.finished r.ended;
            is_true = tells.2;
          },
        )

    pub repaired : FaultsAreContained → (f : IsFinished host run before) (place : ℕ) → place < length run.document.resources → IsSound run.document place
        → ((q : ℕ) → ComesTo run.document place q → IsSpared (calls_of after) q) → Succeeded (calls_of after) place
    repaired contained f place lt sound spared =
        let full = full_repair f in
        contained run.document run.order f.state full.0 (calls_of after) place full.1 spared lt sound

    pub faultless_compliant : {D : Type 0} (d : disks.Ghosts D) (begin now : D) (from : Node) → RepairSucceeds → IsFaultless host d begin now from run before after → Compliant run.document (calls_of after)
    faultless_compliant d begin now from succeeds f =
        let full = full_repair f.is_finished in
        none_missed run.document (calls_of after) (λ place lt.
        succeeds run.document run.order f.is_finished.state full.0 (calls_of after) place full.1 f.blames lt (f.sound place lt))
