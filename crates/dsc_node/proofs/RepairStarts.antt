-- A start that repairs Pending runs it, over any machine: what it commits, and with which status it ends.
use Rattle.std.proofs.Common.{◌≡◌, ◌≢◌, ◌⊎◌, inl, inr, ℕ, zero, suc, ◌+◌, ◌-◌, ◌^◌, ◌≤◌, ◌==◌, ◌&&◌, Bool, true, false, cond, List, [], ◌∷◌, ◌++◌, Option, Some, None, Result, Ok, Err, refl, sym, ◌∙◌, ap, subst, arith, eq-eqb}
use Rattle.std.specs.Prelude.{IfSome}
use Rattle.std.proofs.Math.Nat.{le-min, le_trans, min-le_left, min-le_right}
use Rattle.std.proofs.lemmas.Option.{none-some}
use Rattle.dsc_terms.specs.Counts.{Rose, RoseBy}
use Rattle.dsc_outside.specs.Link.{LinkView}
use Rattle.dsc_document.specs.declared.document.Document.{Document}
use Rattle.gate_log.specs.Standing.{AllStand, ReadsAs, StandsFor}
use Rattle.meta_config.specs.declared.meta.Meta.{Meta}
use Rattle.meta_config.specs.declared.modes.AfterReboot.{AfterReboot}
use Rattle.meta_config.specs.declared.modes.AfterReboot.TheVariants.{ContinueConfiguration}
use Rattle.meta_config.specs.declared.modes.RefreshMode.TheVariants as refreshes
use Rattle.partial_merge.specs.declared.error.MergeError.{MergeError}
use Rattle.partial_merge.specs.declared.part.Part.{Part}
use Rattle.partial_merge.specs.Merged.{Merged}
use Rattle.partial_merge.proofs.OneMerge.{one_document}
use Rattle.resource_kinds.specs.declared.entry.Entry.{Entry}
use Rattle.resource_kinds.specs.declared.machine.Machine as machines
use Rattle.resource_kinds.specs.declared.resources.Resources as resources
use Rattle.resource_kinds.specs.Trace.{Compliant, missed_count}
use Rattle.lcm_core.specs.declared.modes.RunEnd.{RunEnd}
use Rattle.lcm_core.specs.declared.modes.RunEnd.TheVariants as ends
use Rattle.lcm_core.specs.declared.modes.RunMode.{RunMode}
use Rattle.lcm_core.specs.declared.modes.RunMode.TheVariants.{Repair}
use Rattle.lcm_core.specs.Legal.{Legal}
use Rattle.lcm_core.specs.Whole.{Whole}
use Rattle.report_log.specs.declared.report.Report.{Report}
use Rattle.node_state.specs.declared.node.Node.{Node}
use Rattle.node_state.specs.declared.event.Event.{Event}
use Rattle.node_state.specs.declared.event.Event.TheVariants as events
use Rattle.node_state.specs.Table.{Step, Steps, after as after_event}
use Rattle.node_store.specs.declared.error.StoreError.{StoreError}
use Rattle.node_store.specs.declared.error.StoreError.TheVariants as errors
use Rattle.node_store.specs.Stands.{Stands}
use Rattle.node_store.proofs.Meaning.{one_node, sound_node}
use Rattle.dsc_node.specs.declared.bringing.Unbrought.{Unbrought}
use Rattle.dsc_node.specs.declared.command.Command.{Command}
use Rattle.dsc_node.specs.declared.command.Command.TheVariants as commands
use Rattle.dsc_node.specs.declared.plan.Bring.TheVariants as bring
use Rattle.dsc_node.specs.declared.plan.Follows.TheVariants as follows
use Rattle.dsc_node.specs.declared.plan.Needs.TheVariants as need
use Rattle.dsc_node.specs.declared.plan.Plan.{Plan}
use Rattle.dsc_node.specs.declared.status.Status.{Status}
use Rattle.dsc_node.specs.declared.status.Status.TheVariants as statuses
use Rattle.dsc_node.specs.Bringing.{Brought, boot_of, events_of}
use Rattle.dsc_node.specs.Commands.{IsPlanOf, IsUnmerged, is_stop, runs, stops}
use Rattle.dsc_node.specs.Commits.{all_of}
use Rattle.dsc_node.specs.Complete.{IsEndOf, IsEndOfRun, IsValidFor, MayRun, ValidStartsComplete}
use Rattle.dsc_node.specs.Endings.{Answers, status_of}
use Rattle.dsc_node.specs.Headline.{HasHeadline}
use Rattle.dsc_node.specs.Path.{disk_counts}
use Rattle.dsc_node.specs.RepairStarts.{HasNumber, IsPromotedTo, IsRepair, Repairs, WaitsForBoot}
use Rattle.dsc_node.specs.Runs.{Choice, Ran, Run, chosen_among, chosen_of, end_line, event_of, status_after}
use Rattle.dsc_node.specs.Sending.{EndsAfterSending, Sends, Tried}
use Rattle.dsc_node.specs.Start.{Opened, Outside, Start, opened, refused, unopened}
use Rattle.dsc_node.specs.Starts.{EndsBefore, IsExposed, OneStart}
use Rattle.dsc_node.specs.Work.{Beside, Finish, Known, StartTable, clock_failed, finished, first_refused, no_run, not_allowed, not_brought, report_kept, report_refused, settled, unended, unready, waiting}
use Rattle.dsc_node.proofs.Headline.{agent_some}
use Rattle.dsc_node.proofs.HeadlineRuns.{whole_of}
use Rattle.dsc_node.proofs.Sends.{sends_leave}
use Rattle.dsc_node.proofs.Way.{stands_map, steps-push}

-- ---- statuses

not_of_store : (error : StoreError) → IsEndOfRun (status_of error) → ⊥
not_of_store errors.Spent is = is
not_of_store errors.Disk is = is
not_of_store (errors.NotAStore at) is = is
not_of_store (errors.NotAllowed why) is = is
not_of_store errors.Memory is = is

-- a start that ends as a run does ends with the status of its run
answers_as : (wanted : Status) (text : List ℕ) (status : Status) (lines : List ℕ) → IsEndOfRun status → Answers wanted text status lines → status ≡ wanted
answers_as wanted text status lines ran (inl ended) = ended.0
answers_as wanted text status lines ran (inr memory) = absurd (subst IsEndOfRun memory.0 ran)

never_answers : (error : StoreError) (text : List ℕ) (status : Status) (lines : List ℕ) → IsEndOfRun status → Answers (status_of error) text status lines → ⊥
never_answers error text status lines ran answers = not_of_store error (subst IsEndOfRun (answers_as (status_of error) text status lines ran answers) ran)

ends_as : (wanted : Status) (text end : List ℕ) (tried : Result (List Tried) StoreError) (status : Status) (lines : List ℕ) → IsEndOfRun status
    → EndsAfterSending wanted text end tried status lines → status ≡ wanted
ends_as wanted text end (Ok tried) status lines ran ended = answers_as wanted _ status lines ran ended
ends_as wanted text end (Err errors.Memory) status lines ran ended = absurd (subst IsEndOfRun ended.0 ran)
ends_as wanted text end (Err errors.Disk) status lines ran ended = absurd (never_answers errors.Disk text status lines ran ended)
ends_as wanted text end (Err errors.Spent) status lines ran ended = absurd (never_answers errors.Spent text status lines ran ended)
ends_as wanted text end (Err (errors.NotAStore at)) status lines ran ended = absurd (never_answers (errors.NotAStore at) text status lines ran ended)
ends_as wanted text end (Err (errors.NotAllowed why)) status lines ran ended = absurd (never_answers (errors.NotAllowed why) text status lines ran ended)

-- ---- the commands

-- such a command brings no input
unrefused : (node : Node) (command : Command) (error : MergeError) → Repairs node command → IsUnmerged command error → ⊥
unrefused node commands.Boot error repairs unmerged = unmerged
unrefused node commands.Consistency error repairs unmerged = unmerged
unrefused node _ error repairs unmerged = absurd repairs

end_of_run : (node : Node) (command : Command) (status : Status) → Repairs node command → IsEndOf command status → IsEndOfRun status
end_of_run node commands.Boot status repairs is = is
end_of_run node commands.Consistency status repairs is = is
end_of_run node _ status repairs is = absurd repairs

valid_for : (node : Node) (command : Command) (before after : LinkView) → MayRun node → Repairs node command → IsValidFor command node before after
valid_for node commands.Boot before after may repairs = may
valid_for node commands.Consistency before after may repairs = record { runs = may; ready = repairs }
valid_for node _ before after may repairs = absurd repairs

abbrev boot_plan : Plan
boot_plan = record (runs need.Run bring.Boot) { waits = false; stops = true }

-- the plan of such a command
data IsRepairPlan (plan : Plan) : Type 0 where
  of_boot : plan ≡ boot_plan → IsRepairPlan plan
  of_consistency : plan ≡ runs need.Run bring.Nothing → IsRepairPlan plan

repair_plan : (node : Node) (command : Command) (plan : Plan) → Repairs node command → IsPlanOf command plan → IsRepairPlan plan
repair_plan node commands.Boot plan repairs is = of_boot is
repair_plan node commands.Consistency plan repairs is = of_consistency is
repair_plan node _ plan repairs is = absurd repairs

-- a run follows
runs_next : (plan : Plan) → IsRepairPlan plan → plan.follows ≡ follows.Run
runs_next plan (of_boot is) = ap (λ (p : Plan). p.follows) is
runs_next plan (of_consistency is) = ap (λ (p : Plan). p.follows) is

-- nothing stops it where the node goes on after a reboot
never_stops : (node : Node) (plan : Plan) → IsRepairPlan plan → node.meta.after ≡ ContinueConfiguration → stops node plan ≡ false
never_stops node plan (of_boot is) continues = ap (stops node) is ∙ ap (λ (a : AfterReboot). is_stop a node.reboot) continues
never_stops node plan (of_consistency is) continues = ap (stops node) is

-- what it brings is a boot, or nothing, and the machine is as it was
record Begins {S : Type 0} (before ready : S) (first : Option Event) : Type 0 where
  machine : ready ≡ before
  event : (first ≡ None) ⊎ (first ≡ Some events.Boot)

boot_or_none : (marked : Bool) (first : Option Event) → (let x : Result (Option Event) Unbrought = Ok first in x) ≡ Ok (boot_of marked) → (first ≡ None) ⊎ (first ≡ Some events.Boot)
boot_or_none true first is = inr (cc (is))
boot_or_none false first is = inl (cc (is))

module _ {S : Type 0} (runs_on : resources.Ghosts S) (machine : machines.Ghosts S) (node : Node) (start : ℕ) (asked heard : LinkView) (before ready : S) where
  begins : (first : Option Event) (plan : Plan) → IsRepairPlan plan → Brought runs_on machine node plan.brings start asked heard before ready (Ok first) → Begins before ready first
  begins first plan (of_boot is) brought =
      let b = subst (λ (p : Plan). Brought runs_on machine node p.brings start asked heard before ready (Ok first)) is brought in
      record { machine = b.machine; event = boot_or_none node.reboot first b.is }
  begins first plan (of_consistency is) brought =
      let b = subst (λ (p : Plan). Brought runs_on machine node p.brings start asked heard before ready (Ok first)) is brought in
      record { machine = b.machine; event = boot_or_none false first b.is }

  -- and that never fails
  always_brought : (plan : Plan) (error : Unbrought) → IsRepairPlan plan → Brought runs_on machine node plan.brings start asked heard before ready (Err error) → ⊥
  always_brought plan error (of_boot is) brought =
      let b = subst (λ (p : Plan). Brought runs_on machine node p.brings start asked heard before ready (Err error)) is brought in
      absurd (cc (b.is))
  always_brought plan error (of_consistency is) brought =
      let b = subst (λ (p : Plan). Brought runs_on machine node p.brings start asked heard before ready (Err error)) is brought in
      absurd (cc (b.is))

-- ---- nodes

-- the node but for the mark of a reboot and the reports
pub record IsSameBut (old new : Node) : Type 0 where
  pub pending : new.pending ≡ old.pending
  pub meta : new.meta ≡ old.meta
  pub job : new.next_job ≡ old.next_job

first_keeps_it : (from mid : Node) (first : Option Event) → (first ≡ None) ⊎ (first ≡ Some events.Boot) → Steps from (events_of first) mid → IsSameBut from mid
first_keeps_it from mid first (inl none) steps =
    let same : mid ≡ from = subst (λ (f : Option Event). Steps from (events_of f) mid) none steps in
    record { pending = ap (λ (n : Node). n.pending) same; meta = ap (λ (n : Node). n.meta) same; job = ap (λ (n : Node). n.next_job) same }
first_keeps_it from mid first (inr boot) steps =
    let s = subst (λ (f : Option Event). Steps from (events_of f) mid) boot steps in
    let same : mid ≡ after_event from events.Boot = s.2 ∙ s.1.is in
    record { pending = ap (λ (n : Node). n.pending) same; meta = ap (λ (n : Node). n.meta) same; job = ap (λ (n : Node). n.next_job) same }

-- the node but for its reports
pub record IsMarkedAlone (noted end : Node) : Type 0 where
  pub same : IsSameBut noted end
  pub current : end.current ≡ noted.current
  pub reboot : end.reboot ≡ noted.reboot

-- ---- the run of Pending

abbrev pub pending_choice : List Part → Choice
pending_choice parts = record { parts = parts; mode = Repair; pending = true }

chosen_pending : (stopped : Bool) (node : Node) (parts : List Part) → stopped ≡ false → node.pending ≡ Some parts → chosen_of stopped node ≡ Some (pending_choice parts)
chosen_pending stopped node parts goes pending =
    ap (λ (b : Bool). chosen_of b node) goes ∙ ap (λ (p : Option (List Part)). chosen_among node.meta.mode p node.current) pending

some_choice : (a b : Choice) → Some a ≡ Some b → a ≡ b
some_choice a b is = cc is

module _ {D S C : Type 0} (o : Known D S C) where
  -- Pending was run, the event that keeps the report of the run was committed, and nothing after it but the marks of reports
  pub record RanPending (from : Node) (parts : List Part) (before after : S) (status : Status) (committed : List Event) : Type 0 where
    pub run : Run
    pub mid : Node
    pub same : IsSameBut from mid
    pub choice : run.choice ≡ pending_choice parts
    pub ran : Ran o.resources run before after
    pub goes_on : run.end ≢ ends.Memory
    pub report : Report
    pub missed : report.missed ≡ missed_count run.document (o.resources.trace after)
    pub noted : Node
    pub is : noted ≡ after_event mid (event_of run.end run.choice.pending report)
    pub status_is : status ≡ status_after mid.meta.reboot_if_needed run.end report.missed
    pub left : (end : Node) → Steps from committed end → IsMarkedAlone noted end

  module _ (from : Node) (parts : List Part) (counts : ℕ × ℕ) (pending : from.pending ≡ Some parts) (status : Status) (lines : List ℕ) (ended : IsEndOfRun status) where
    nothing_else : (work : List Event) (mid noted : Node) (event : Event) (asked heard : LinkView) (tried : Result (List Tried) StoreError) (committed : List Event) (broken : Option Event)
        → Steps from work mid → Step mid event noted → Sends from counts (work ++ event ∷ []) noted asked heard tried committed broken
        → (end : Node) → Steps from committed end → IsMarkedAlone noted end
    nothing_else work mid noted event asked heard tried committed broken steps step sends end all =
        let on = steps-push from mid noted work event steps step in
        let w = work ++ event ∷ [] in
        record {
          same = record {
            pending = sends_leave (λ (n : Node). n.pending) (λ node reports. refl) from counts w noted asked heard tried committed broken sends on end all;
            meta = sends_leave (λ (n : Node). n.meta) (λ node reports. refl) from counts w noted asked heard tried committed broken sends on end all;
            job = sends_leave (λ (n : Node). n.next_job) (λ node reports. refl) from counts w noted asked heard tried committed broken sends on end all;
          };
          current = sends_leave (λ (n : Node). n.current) (λ node reports. refl) from counts w noted asked heard tried committed broken sends on end all;
          reboot = sends_leave (λ (n : Node). n.reboot) (λ node reports. refl) from counts w noted asked heard tried committed broken sends on end all;
        }

    module _ (work : List Event) (mid : Node) (same : IsSameBut from mid) (steps : Steps from work mid) (stopped : Bool) (goes : stopped ≡ false)
        (readings left : Option (List (Option ℕ))) (start : ℕ) (asked heard : LinkView) (before after : S) where
      chosen : chosen_of stopped mid ≡ Some (pending_choice parts)
      chosen = chosen_pending stopped mid parts goes (same.pending ∙ pending)

      finish_ran : (run : Option Run) (committed : List Event) (broken : Option Event)
          → Finish o from counts work mid stopped readings left start asked heard before after status lines run committed broken → RanPending from parts before after status committed
      finish_ran _ _ _ (no_run tried committed broken none idle taken sends answers) = absurd (none-some (pending_choice parts) (sym none ∙ chosen))
      finish_ran _ _ _ (unready idle taken unasked answers) = absurd (subst IsEndOfRun answers.0 ended)
      finish_ran _ _ _ (unended run ran taken unasked answers) = absurd (subst IsEndOfRun answers.0 ended)
      finish_ran _ _ _ (report_refused run report error text committed broken reported took unasked refusal memory shown answers) =
          absurd (never_answers error text status lines ended answers)
      finish_ran _ _ _ (report_kept run report text noted tried committed broken reported took shown step sends answers) =
          record {
            run = run;
            mid = mid;
            same = same;
            choice = some_choice run.choice (pending_choice parts) (sym reported.chosen ∙ chosen);
            ran = reported.ran;
            goes_on = reported.goes_on;
            report = report;
            missed = reported.is.missed;
            noted = noted;
            is = step.is;
            status_is = ends_as (status_after mid.meta.reboot_if_needed run.end report.missed) text (end_line run.end run.choice.pending report.missed) tried status lines ended answers;
            left = nothing_else work mid noted (event_of run.end run.choice.pending report) asked heard tried committed broken steps step sends;
          }

    module _ (plan : Plan) (repairs : IsRepairPlan plan) (continues : from.meta.after ≡ ContinueConfiguration) (before after : Beside S C) where
      table_ran : (ready : S) (run : Option Run) (committed : List Event) (broken : Option Event)
          → StartTable o plan from counts [] from before after status lines ready run committed broken → RanPending from parts before.machine after.machine status committed
      table_ran _ _ _ _ (not_allowed why is idle answers) = absurd (subst IsEndOfRun answers.0 ended)
      table_ran _ _ _ _ (waiting none is idle answers) = absurd (subst IsEndOfRun answers.0 ended)
      table_ran _ _ _ _ (clock_failed allowed reads gave took rose machine link answers) = absurd (subst IsEndOfRun answers.0 ended)
      table_ran _ _ _ _ (not_brought start error allowed reads brought answers) = absurd (always_brought o.resources o.machine from start before.link after.link before.machine after.machine plan error repairs brought)
      table_ran _ _ _ _ (first_refused start event error committed broken allowed reads brought refusal answers) = absurd (not_of_store error (subst IsEndOfRun answers.0 ended))
      table_ran _ _ _ _ (settled start first mid text allowed printed reads brought steps answers) = absurd (cc (printed, runs_next plan repairs))
      table_ran _ _ _ _ (finished start readings heard ready first mid run committed broken allowed follows_run gave took brought steps f) =
          let b = begins o.resources o.machine from start before.link heard before.machine ready first plan repairs brought in
          subst (λ (m : S). RanPending from parts m after.machine status committed) b.machine
          (finish_ran (events_of first) mid (first_keeps_it from mid first b.event steps) steps (stops from plan) (never_stops from plan repairs continues)
          readings (o.clock.coming after.clock) start heard after.link ready after.machine run committed broken f)

-- ---- faults

-- a count that did not rise blames nothing
pub no_failure : (count before after : ℕ) → RoseBy count before after → (Rose before after → ⊥) → count ≡ 0
no_failure zero before after rose still = refl
no_failure (suc n) before after rose still =
    let most = 2 ^ 64 - 1 in
    let one : before + 1 ≤ before + suc n = omega arith in
    absurd (still (le_trans (le-min (le_trans (min-le_left (before + 1) most) one) (min-le_right (before + 1) most)) rose))

-- ---- how the run ends

module _ {D S C : Type 0} (o : Known D S C) (from : Node) (parts : List Part) (pending : from.pending ≡ Some parts) (before after : S) (status : Status) (committed : List Event)
    (r : RanPending o from parts before after status committed) where
  abbrev trace : List Entry
  trace = o.resources.trace after

  pub mode_is : r.run.choice.mode ≡ Repair
  mode_is = ap (λ (c : Choice). c.mode) r.choice

  pub document_is : (document : Document) → Merged parts document → document ≡ r.run.document
  document_is document merged = one_document parts document r.run.document merged (subst (λ (ps : List Part). Merged ps r.run.document) (ap (λ (c : Choice). c.parts) r.choice) r.ran.merged)

  pub legal : Legal r.run.document Repair r.run.order trace
  legal = subst (λ (m : RunMode). Legal r.run.document m r.run.order trace) mode_is r.ran.legal

  pub whole : Whole r.run.document Repair r.run.order trace
  whole = subst (λ (m : RunMode). Whole r.run.document m r.run.order trace) mode_is
      (whole_of r.run.document r.run.choice.mode r.run.order r.run.end trace r.ran.whole r.goes_on)

  -- ---- a run that came to its last resource, and is compliant

  module _ (finished_it : r.run.end ≡ ends.Finished) (compliant : Compliant r.run.document trace) where
    none_missed : r.report.missed ≡ 0
    none_missed = r.missed ∙ compliant

    is_promotion : event_of r.run.end r.run.choice.pending r.report ≡ events.Promote r.report
    is_promotion =
        ap (λ (e : RunEnd). event_of e r.run.choice.pending r.report) finished_it
        ∙ ap (λ (c : Choice). cond (c.pending && (r.report.missed == 0)) (events.Promote r.report) (events.Note r.report)) r.choice
        ∙ ap (λ (b : Bool). cond b (events.Promote r.report) (events.Note r.report)) (eq-eqb r.report.missed 0 none_missed)

    noted_is : r.noted ≡ after_event r.mid (events.Promote r.report)
    noted_is = r.is ∙ ap (after_event r.mid) is_promotion

    pub is_done : status ≡ statuses.Done
    is_done =
        r.status_is ∙ ap (λ (e : RunEnd). status_after r.mid.meta.reboot_if_needed e r.report.missed) finished_it
        ∙ ap (λ (b : Bool). cond b statuses.Done (statuses.NotCompliant r.report.missed)) (eq-eqb r.report.missed 0 none_missed)

    pub promoted_to : (end : Node) → Steps from committed end → IsPromotedTo parts end
    promoted_to end all =
        let like = r.left end all in
        record {
          current = like.current ∙ ap (λ (n : Node). n.current) noted_is ∙ r.same.pending ∙ pending;
          pending = like.same.pending ∙ ap (λ (n : Node). n.pending) noted_is;
        }

  -- ---- a run that ended with a reboot

  module _ (place : ℕ) (asked : r.run.end ≡ ends.RebootAsked place) where
    asked_is : r.noted ≡ after_event r.mid (events.AskReboot r.report)
    asked_is = r.is ∙ ap (λ (e : RunEnd). after_event r.mid (event_of e r.run.choice.pending r.report)) asked

    pub is_asked : status ≡ statuses.RebootAsked place from.meta.reboot_if_needed
    is_asked =
        r.status_is ∙ ap (λ (e : RunEnd). status_after r.mid.meta.reboot_if_needed e r.report.missed) asked
        ∙ ap (λ (m : Meta). statuses.RebootAsked place m.reboot_if_needed) r.same.meta

    pub waits_on : (end : Node) → Steps from committed end → WaitsForBoot from end
    waits_on end all =
        let like = r.left end all in
        record {
          marked = like.reboot ∙ ap (λ (n : Node). n.reboot) asked_is;
          pending = like.same.pending ∙ ap (λ (n : Node). n.pending) asked_is ∙ r.same.pending;
          meta = like.same.meta ∙ ap (λ (n : Node). n.meta) asked_is ∙ r.same.meta;
          job = like.same.job ∙ ap (λ (n : Node). n.next_job) asked_is ∙ ap (λ (j : ℕ). j + 1) r.same.job;
        }

-- ---- one start

-- what is asked of a start that repairs these parts, which are Pending in this node
pub record RepairAsked {D S C : Type 0} (o : Known D S C) (parts : List Part) (node : Node) (one : OneStart o) : Type 0 where
  pub tells : IsExposed o one
  pub reads : ReadsAs o.disk one.before.disk Stands node
  pub pending : node.pending ≡ Some parts
  pub continues : node.meta.after ≡ ContinueConfiguration
  pub enabled : node.meta.refresh ≢ refreshes.Disabled
  pub repairs : IsRepair o one
  pub number : HasNumber o one
  pub disk : Rose (o.disk.faults one.before.disk) (o.disk.faults one.after.disk) → ⊥
  pub clock : Rose (o.clock.faults one.before.beside.clock) (o.clock.faults one.after.beside.clock) → ⊥
  pub memory : one.status ≢ statuses.Memory

-- it ran them, and each image of the disk at its end stands for the node after what was committed
pub record PendingRan {D S C : Type 0} (o : Known D S C) (parts : List Part) (node : Node) (one : OneStart o) : Type 0 where
  pub committed : List Event
  pub ran : RanPending o node parts one.before.beside.machine one.after.beside.machine one.status committed
  pub stand : AllStand o.disk one.after.disk Stands (λ end. Steps node committed end)

-- so what holds of each node after that, holds of each node that an image stands for
pub all_stand : {D S C : Type 0} (o : Known D S C) (parts : List Part) (node : Node) (one : OneStart o) (ran : PendingRan o parts node one) (P : Node → Type 0)
    → ((end : Node) → Steps node ran.committed end → P end) → AllStand o.disk one.after.disk Stands P
all_stand o parts node one ran P has image there = stands_map (λ end. Steps node ran.committed end) P has image (ran.stand image there)

module _ {D S C : Type 0} (o : Known D S C) (complete : ValidStartsComplete o) (parts : List Part) (node : Node) where
  module _ (one : OneStart o) (p : RepairAsked o parts node one) where
    abbrev held : List ℕ
    held = p.tells.0

    stands : Stands held node
    stands = subst (λ (shown : Option (List ℕ)). IfSome shown (λ h. Stands h node)) p.tells.1 p.reads

    repairs : Repairs node one.command
    repairs = p.repairs node p.reads

    may_run : MayRun node
    may_run = record {
      agent = agent_some node.agent (λ none. none-some parts (sym ((sound_node held node stands).bare none).pending ∙ p.pending));
      enabled = p.enabled;
      job = p.number node p.reads;
    }

    ended_run : IsEndOfRun one.status
    ended_run = elim (complete one.command one.before one.after one.status one.lines one.start
        (record { held = held; shown = p.tells.1; node = node; stands = stands; valid = valid_for node one.command one.before.beside.link one.after.beside.link may_run repairs })
        (record { disk = p.disk; clock = p.clock; machine = λ pull rose. subst (Repairs node) pull repairs })) [
          | inl is ↦ end_of_run node one.command one.status repairs is
          | inr memory ↦ absurd (p.memory memory)
        ]

  -- of each start, by its clauses
  module _ (command : Command) (before after : Outside D S C) (status : Status) (lines : List ℕ) (headline : HasHeadline o command before after status lines) where
    abbrev the_start : Start o command before after status lines → OneStart o
    the_start start = record { command = command; before = before; after = after; status = status; lines = lines; start = start; headline = headline }

    -- the start of an opened store
    module _ (s : Opened o command before after status lines) (p : RepairAsked o parts node (the_start (opened s))) where
      reads_it : Stands (held (the_start (opened s)) p) s.from
      reads_it = subst (λ (shown : Option (List ℕ)). IfSome shown (λ h. Stands h s.from)) p.tells.1 s.reads

      from_is : node ≡ s.from
      from_is = one_node (held (the_start (opened s)) p) node s.from (stands (the_start (opened s)) p) reads_it

      pending : s.from.pending ≡ Some parts
      pending = ap (λ (n : Node). n.pending) (sym from_is) ∙ p.pending

      plan : IsRepairPlan s.plan
      plan = repair_plan node command s.plan (repairs (the_start (opened s)) p) s.is_plan

      ran : RanPending o s.from parts before.beside.machine after.beside.machine status s.ended.committed
      ran = table_ran o s.from parts (disk_counts o.disk before.disk after.disk) pending status lines (ended_run (the_start (opened s)) p) s.plan plan
          (ap (λ (n : Node). n.meta.after) (sym from_is) ∙ p.continues) before.beside after.beside s.ready s.run s.ended.committed s.ended.broken s.ended.table

      -- no commit answered Disk
      unbroken : s.ended.broken ≡ None
      unbroken = elim ((headline s).a_prefix_of_the_steps.unbroken) [
        | inl none ↦ none
        | inr broken ↦ absurd (p.disk broken.0)
      ]

      committed_alone : (end : Node) → Steps s.from s.ended.committed end ⊎ Steps s.from (all_of s.ended.committed s.ended.broken) end → Steps s.from s.ended.committed end
      committed_alone end (inl steps) = steps
      committed_alone end (inr steps) = subst (λ (b : Option Event). Steps s.from (all_of s.ended.committed b) end) unbroken steps

      stand : AllStand o.disk after.disk Stands (λ end. Steps s.from s.ended.committed end)
      stand image there =
          stands_map (λ end. Steps s.from s.ended.committed end ⊎ Steps s.from (all_of s.ended.committed s.ended.broken) end) (λ end. Steps s.from s.ended.committed end) committed_alone
          image (s.ended.left image there)

      opened_ran : PendingRan o parts node (the_start (opened s))
      opened_ran = subst (λ (n : Node). PendingRan o parts n (the_start (opened s))) (sym from_is) (record { committed = s.ended.committed; ran = ran; stand = stand })

    comes : (start : Start o command before after status lines) → RepairAsked o parts node (the_start start) → PendingRan o parts node (the_start start)
    comes (refused error unmerged same answers) p = absurd (unrefused node command error (repairs (the_start (refused error unmerged same answers)) p) unmerged)
    comes (unopened plan error is count cause quiet moments answers) p =
        absurd (not_of_store error (subst IsEndOfRun answers.0 (ended_run (the_start (unopened plan error is count cause quiet moments answers)) p)))
    comes (opened s) p = opened_ran s p

  pub ran_pending : (one : OneStart o) → RepairAsked o parts node one → PendingRan o parts node one
  ran_pending one p = comes one.command one.before one.after one.status one.lines one.headline one.start p

-- ---- the next start

-- what the next start reads, one that waits for a boot left
pub next_node : {D S C : Type 0} (o : Known D S C) → ((disk : D) (held : List ℕ) → o.disk.shown disk ≡ Some held → o.disk.images disk held) → (node : Node) (one next : OneStart o)
    → AllStand o.disk one.after.disk Stands (WaitsForBoot node) → EndsBefore o one next → (tells : IsExposed o next) → StandsFor Stands (WaitsForBoot node) tells.0
next_node o honest node one next waits store tells = waits tells.0 (store tells.0 (honest next.before.disk tells.0 tells.1))
