-- The headline of a start, row by row of its table.
use Rattle.std.proofs.Common.{◌≡◌, ◌≢◌, ◌⊎◌, inl, inr, ⊎_elim, ℕ, ◌<◌, ◌^◌, ◌-◌, ◌==◌, ◌&&◌, Bool, true, cond, List, [], ◌∷◌, ◌++◌, Option, Some, None, Result, Ok, Err, is_some, refl, sym, ap, subst, ◌∙◌, arith, eq-eqb, lt-ltb}
use Rattle.dsc_outside.specs.declared.disk.Disk as disks
use Rattle.dsc_outside.specs.declared.host.Host as hosts
use Rattle.dsc_outside.specs.declared.clock.Clock as clocks
use Rattle.partial_merge.specs.declared.part.Part.{Part}
use Rattle.resource_kinds.specs.declared.kinds.Kinds.{Kinds}
use Rattle.resource_kinds.specs.Kinds.{calls_of}
use Rattle.lcm_core.specs.RepairLaws.{FaultsAreContained, RepairSucceeds}
use Rattle.lcm_core.specs.RunLaws.{CompliantHold}
use Rattle.lcm_core.specs.declared.modes.RunEnd.{RunEnd}
use Rattle.lcm_core.specs.declared.modes.RunEnd.TheVariants as ends
use Rattle.report_log.specs.declared.report.Report.{Report}
use Rattle.node_state.specs.declared.node.Node.{Node}
use Rattle.node_state.specs.declared.event.Event.{Event}
use Rattle.node_state.specs.declared.event.Event.TheVariants as events
use Rattle.node_state.specs.Slots.{IsSlot}
use Rattle.node_state.specs.Sound.{Sound}
use Rattle.node_state.specs.Table.{Step, Steps, is_next, refusal}
use Rattle.node_state.specs.Table.{after as after_of}
use Rattle.node_store.specs.declared.error.StoreError.{StoreError}
use Rattle.node_store.specs.declared.error.StoreError.TheVariants as errors
use Rattle.dsc_node.specs.declared.command.Command.{Command}
use Rattle.dsc_node.specs.declared.plan.Plan.{Plan}
use Rattle.dsc_node.specs.declared.status.Status.{Status}
use Rattle.dsc_node.specs.declared.status.Status.TheVariants as statuses
use Rattle.dsc_outside.specs.Link.{LinkView}
use Rattle.dsc_node.specs.Bringing.{events_of}
use Rattle.dsc_node.specs.Commands.{IsPlanOf}
use Rattle.dsc_node.specs.Commits.{RefusedAfter, all_of}
use Rattle.dsc_node.specs.Endings.{Answers}
use Rattle.dsc_node.specs.Headline.{AreTold, HasHeadline, Headline, IsBrought, IsCurrent, IsPrinted, IsPromotable, IsPromoted, IsRun, Keeps}
use Rattle.dsc_node.specs.HostHeadline.{HoldTogether, HostHeadline, IsComplete, IsTrueRun, kinds_of, known_on_host}
use Rattle.dsc_node.specs.Path.{IsOnTheWay, disk_counts}
use Rattle.dsc_node.specs.Runs.{Reported, Run, end_line, event_of, status_after}
use Rattle.dsc_node.specs.Sending.{EndsAfterSending, Sends, Tried, tried_text}
use Rattle.dsc_node.specs.Start.{Opened, Outside}
use Rattle.dsc_node.specs.Work.{Beside, Finish, Known, StartTable, clock_failed, finished, first_refused, no_run, not_allowed, not_brought, report_kept, report_refused, settled, unended, unready, waiting}
use Rattle.dsc_node.proofs.Broken.{work_unbroken}
use Rattle.dsc_node.proofs.Firsts.{brings, first_job, first_keeps, first_meta, first_quiet}
use Rattle.dsc_node.proofs.Found.{WasSlot, was_found, was_there}
use Rattle.dsc_node.proofs.HeadlineRuns.{faultless_compliant, is_true, pending_chosen, repaired, together, shown}
use Rattle.dsc_node.proofs.Nodes.{are_sound, parts_there, steps_sound}
use Rattle.dsc_node.proofs.Reports.{first_refused_keeps, noted_keeps, refused_run_keeps, sent_keeps}
use Rattle.dsc_node.proofs.Sends.{sends_leave, sends_less, steps_same}
use Rattle.dsc_node.proofs.Way.{steps-push}
use Rattle.dsc_node.proofs.WorkEvents.{work_adds, work_stages}

-- ---- nodes

pub agent_some : (agent : Option ℕ) → (agent ≡ None → ⊥) → is_some agent ≡ true
agent_some None some = absurd (some refl)
agent_some (Some agent) some = refl

pub some_none : {A : Type 0} {X : Type 0} (x : X) (o : Option X) → o ≡ Some x → o ≡ None → A
some_none x o is none = absurd (cc (is, none))

pub next_is : (next job : ℕ) → job ≡ next → next < 2 ^ 64 - 1 → is_next next job ≡ true
next_is next job is below = rw (eq-eqb job next is, lt-ltb job (2 ^ 64 - 1) (omega (arith, is, below))) refl

-- a sound node with Pending allows a promotion with its next job
pub promotion_allowed : (node : Node) (report : Report) (parts : List Part) → Sound node → node.pending ≡ Some parts → report.job ≡ node.next_job → node.next_job < 2 ^ 64 - 1
    → refusal node (events.Promote report) ≡ None
promotion_allowed node report parts sound pending job below =
    let agent = agent_some node.agent (λ none. some_none parts node.pending pending (sound.bare none).pending) in
    rw (agent, ap (λ (o : Option (List Part)). is_some o) pending, next_is node.next_job report.job job below) refl

-- ---- the table

module _ {D S C : Type 0} (o : Known D S C) (begin now : D) (from : Node) (sound : Sound from) where
  record Facts (ready after : S) (status : Status) (lines : List ℕ) (run : Option Run) (committed : List Event) (broken : Option Event) : Type 0 where
    sets_follow_tests : IsRun o.resources run ready after
    reports_are_true : AreTold from run (o.resources.trace after) (all_of committed broken) status lines
    compliant_runs_are_promoted : IsPromoted o.disk begin now from run (o.resources.trace after) committed

  module _ (status : Status) (lines : List ℕ) where
    idle : (ready after : S) (committed : List Event) (broken : Option Event) → after ≡ ready → ((report : Report) → Keeps (all_of committed broken) report → ⊥)
        → Facts ready after status lines None committed broken
    idle ready after committed broken same none = record { sets_follow_tests = same; reports_are_true = none; compliant_runs_are_promoted = tt }

    module _ (ready after : S) (work : List Event) (node : Node) (stopped : Bool) (readings left : Option (List (Option ℕ))) (start : ℕ) (asked heard : LinkView) (steps : Steps from work node)
        (job : node.next_job ≡ from.next_job) (meta : node.meta ≡ from.meta) (none : (report : Report) → Keeps work report → ⊥) where
      module _ (run : Run) (report : Report) (reported : Reported o.resources node stopped readings start run report ready after) (f : IsPromotable o.disk begin now from run (o.resources.trace after)) where
        no_missed : report.missed ≡ 0
        no_missed = reported.is.missed ∙ f.compliant

        pending : node.pending ≡ Some run.choice.parts
        pending = (pending_chosen stopped node run.choice reported.chosen f.pending).1

        is_promotion : event_of run.end run.choice.pending report ≡ events.Promote report
        is_promotion =
            ap (λ (e : RunEnd). event_of e run.choice.pending report) f.finished
            ∙ ap (λ (b : Bool). cond (b && (report.missed == 0)) (events.Promote report) (events.Note report)) f.pending
            ∙ ap (λ (n : ℕ). cond (n == 0) (events.Promote report) (events.Note report)) no_missed

        -- a promotion is not refused where the disk does not fail
        not_refused : (error : StoreError) (committed : List Event) (broken : Option Event)
            → RefusedAfter from (disk_counts o.disk begin now) work (event_of run.end run.choice.pending report) error committed broken → error ≢ errors.Memory → ⊥
        not_refused errors.Disk committed broken refused memory = f.disk refused.cause.1
        not_refused errors.Memory committed broken refused memory = memory refl
        not_refused errors.Spent committed broken refused memory = refused.cause
        not_refused (errors.NotAStore at) committed broken refused memory = refused.cause
        not_refused (errors.NotAllowed why) committed broken refused memory =
            let same = steps_same from refused.node node work refused.steps steps in
            let allowed = promotion_allowed node report run.choice.parts (steps_sound from node work steps sound) pending reported.is.job (subst (λ (n : ℕ). n < 2 ^ 64 - 1) (sym job) f.job) in
            let is_why : refusal node (events.Promote report) ≡ Some why =
            subst (λ (e : Event). refusal node e ≡ Some why) is_promotion (subst (λ (n : Node). refusal n (event_of run.end run.choice.pending report) ≡ Some why) same refused.cause) in
            some_none why (refusal node (events.Promote report)) is_why allowed

        -- after it the parts are Current, and sending reports leaves them so
        is_current : (noted : Node) (tried : Result (List Tried) StoreError) (committed : List Event) (broken : Option Event) → Step node (event_of run.end run.choice.pending report) noted
            → Sends from (disk_counts o.disk begin now) (work ++ event_of run.end run.choice.pending report ∷ []) noted asked heard tried committed broken
            → (n : Node) → Steps from committed n → IsCurrent run n
        is_current noted tried committed broken step sends n all =
            let event = event_of run.end run.choice.pending report in
            let first = steps-push from node noted work event steps step in
            let is : noted ≡ after_of node (events.Promote report) = step.is ∙ ap (λ (e : Event). after_of node e) is_promotion in
            record {
              current =
                  sends_leave (λ m. m.current) (λ m reports. refl) from (disk_counts o.disk begin now) (work ++ event ∷ []) noted asked heard tried committed broken sends first n all
                  ∙ ap (λ (m : Node). m.current) is ∙ pending;
              pending =
                  sends_leave (λ m. m.pending) (λ m reports. refl) from (disk_counts o.disk begin now) (work ++ event ∷ []) noted asked heard tried committed broken sends first n all
                  ∙ ap (λ (m : Node). m.pending) is;
            }

      finish_facts : (run : Option Run) (committed : List Event) (broken : Option Event)
          → Finish o from (disk_counts o.disk begin now) work node stopped readings left start asked heard ready after status lines run committed broken → Facts ready after status lines run committed broken
      finish_facts _ _ _ (no_run tried committed broken is same taken sends ends) =
          idle ready after committed broken same
          (λ report k. none report (sends_less (λ w. Keeps w report) (sent_keeps report) from (disk_counts o.disk begin now) work node asked heard tried committed broken sends k))
      finish_facts _ _ _ (unready same taken unasked ends) = idle ready after work None same none
      finish_facts _ _ _ (unended run u taken unasked silent) = record {
        sets_follow_tests = u.ran;
        reports_are_true = record {
          report = λ report k. absurd (none report k);
          success = λ report k. absurd (none report k);
          compliant = λ report k. absurd (none report k);
          printed = inl silent;
        };
        compliant_runs_are_promoted = λ f. absurd (finished_in_memory run.end f.finished u.ended);
      } where
        finished_in_memory : (end : RunEnd) → end ≡ ends.Finished → end ≡ ends.Memory → ⊥
        finished_in_memory end is memory = cc (is, memory)
      finish_facts _ _ _ (report_refused run report error text committed broken reported took unasked refused memory is_text answers) = record {
        sets_follow_tests = reported.ran;
        reports_are_true = shown o.resources ready after from node job meta stopped readings start run report (all_of committed broken) status lines reported
            (λ kept k. refused_run_keeps kept from (disk_counts o.disk begin now) work run report error committed broken (none kept) refused k)
            (printed answers);
        compliant_runs_are_promoted = λ f. absurd (not_refused run report reported f error committed broken refused memory);
      } where
        printed : {wanted : Status} → Answers wanted text status lines → IsPrinted run (o.resources.trace after) status lines
        printed (inl e) = inr (text, is_text, inl e.1)
        printed (inr e) = inl e
      finish_facts _ _ _ (report_kept run report text noted tried committed broken reported took is_text step sends ended) = record {
        sets_follow_tests = reported.ran;
        reports_are_true = shown o.resources ready after from node job meta stopped readings start run report (all_of committed broken) status lines reported
            (λ kept k. noted_keeps kept work run report (none kept)
            (sends_less (λ w. Keeps w kept) (sent_keeps kept) from (disk_counts o.disk begin now) (work ++ event_of run.end run.choice.pending report ∷ []) noted asked heard tried committed broken sends k))
            (printed (status_after node.meta.reboot_if_needed run.end report.missed) tried ended);
        compliant_runs_are_promoted = λ f. is_current run report reported f noted tried committed broken step sends;
      } where
        alone : (wanted : Status) → Answers wanted text status lines → IsPrinted run (o.resources.trace after) status lines
        alone wanted (inl e) = inr (text, is_text, inl e.1)
        alone wanted (inr e) = inl e

        printed : (wanted : Status) (tried : Result (List Tried) StoreError) → EndsAfterSending wanted text (end_line run.end run.choice.pending report.missed) tried status lines
            → IsPrinted run (o.resources.trace after) status lines
        printed wanted (Ok some) (inl e) = inr (text, is_text, inr (some, e.1 ∙ ap (λ (n : ℕ). text ++ end_line run.end run.choice.pending n ++ tried_text some) reported.is.missed))
        printed wanted (Ok some) (inr e) = inl e
        printed wanted (Err errors.Memory) e = inl e
        printed wanted (Err errors.Disk) e = alone statuses.DiskFault e
        printed wanted (Err errors.Spent) e = alone statuses.DiskFault e
        printed wanted (Err (errors.NotAStore at)) e = alone (statuses.NotAStore at) e
        printed wanted (Err (errors.NotAllowed why)) e = alone (statuses.NotAllowed why) e

    work_facts : (command : Command) (plan : Plan) → IsPlanOf command plan → (before after : Beside S C) (ready : S) (run : Option Run) (committed : List Event) (broken : Option Event)
        → StartTable o plan from (disk_counts o.disk begin now) [] from before after status lines ready run committed broken → Facts ready after.machine status lines run committed broken
    work_facts command plan is_plan before after _ _ _ _ (not_allowed why is same ends) = idle before.machine after.machine [] None (ap (λ (b : Beside S C). b.machine) same) (λ report k. k)
    work_facts command plan is_plan before after _ _ _ _ (waiting allowed is same ends) = idle before.machine after.machine [] None (ap (λ (b : Beside S C). b.machine) same) (λ report k. k)
    work_facts command plan is_plan before after _ _ _ _ (clock_failed allowed other gave took rose same link ends) = idle before.machine after.machine [] None same (λ report k. k)
    work_facts command plan is_plan before after _ _ _ _ (not_brought start error allowed reads brought ends) = idle after.machine after.machine [] None refl (λ report k. k)
    work_facts command plan is_plan before after _ _ _ _ (first_refused start event error committed broken allowed reads brought refused ends) =
        idle after.machine after.machine committed broken refl
        (λ report k. first_refused_keeps report from (disk_counts o.disk begin now) event error committed broken
        (first_keeps report (Some event) plan.follows (first_quiet o.resources o.machine from start before.link after.link before.machine after.machine (Some event) command plan is_plan brought)) refused k)
    work_facts command plan is_plan before after _ _ _ _ (settled start first mid text allowed ends reads brought steps answers) =
        idle after.machine after.machine (events_of first) None refl
        (λ report k. first_keeps report first plan.follows (first_quiet o.resources o.machine from start before.link after.link before.machine after.machine first command plan is_plan brought) k)
    work_facts command plan is_plan before after _ _ _ _ (finished start readings heard ready first mid run committed broken allowed other gave took brought steps f) =
        let quiet = first_quiet o.resources o.machine from start before.link heard before.machine ready first command plan is_plan brought in
        finish_facts ready after.machine (events_of first) mid _ readings _ start heard after.link steps (first_job from mid first plan.follows steps quiet) (first_meta from mid first plan.follows other steps quiet)
        (λ report k. first_keeps report first plan.follows quiet k) run committed broken f

pub headline : {D S C : Type 0} (o : Known D S C) (command : Command) (before after : Outside D S C) (status : Status) (lines : List ℕ)
    → ((held : List ℕ) → o.disk.shown before.disk ≡ Some held → o.disk.images before.disk held)
    → (opened : Opened o command before after status lines)
    → Headline o command before after status lines opened.from opened.ready opened.run opened.ended.committed opened.ended.broken
headline o command before after status lines honest opened =
    let all = all_of opened.ended.committed opened.ended.broken in
    let facts = work_facts o before.disk after.disk opened.from opened.sound status lines command opened.plan opened.is_plan before.beside after.beside opened.ready opened.run opened.ended.committed opened.ended.broken opened.ended.table in
    record {
      a_prefix_of_the_steps = record {
        moments = opened.ended.passes;
        left = opened.ended.left;
        unbroken =
            work_unbroken o opened.plan opened.from (disk_counts o.disk before.disk after.disk) [] opened.from before.beside after.beside status lines opened.ready opened.run opened.ended.committed opened.ended.broken opened.ended.table;
      };
      documents_are_whole = are_sound o.disk before.disk opened.from all opened.sound;
      parts_are_as_brought = λ node part way slot. was_there o.disk before.disk opened.from part (was_found o.disk before.disk opened.from honest opened.reads) (slots node part way slot);
      sets_follow_tests = record {
        packages = opened.leaves.packages;
        added =
            work_adds o command opened.plan opened.is_plan opened.from (disk_counts o.disk before.disk after.disk) [] opened.from before.beside after.beside status lines opened.ready opened.run opened.ended.committed opened.ended.broken opened.ended.table;
        untested = opened.leaves.trace;
        later = opened.leaves.later;
        runs = facts.sets_follow_tests;
      };
      reports_are_true = facts.reports_are_true;
      compliant_runs_are_promoted = facts.compliant_runs_are_promoted;
    }
  where
    slots : (node : Node) (part : Part) → IsOnTheWay o.disk before.disk opened.from (all_of opened.ended.committed opened.ended.broken) node → IsSlot node part
        → WasSlot o.disk before.disk opened.from part ⊎ IsBrought command opened.from before.beside.link after.beside.link part
    slots node part way slot =
        ⊎_elim (λ there. inl there)
        (λ staged.
        let s = work_stages part o opened.plan opened.from (disk_counts o.disk before.disk after.disk) opened.from before.beside after.beside status lines opened.ready opened.run opened.ended.committed opened.ended.broken opened.ended.table staged in
        brings o.disk before.disk o.resources o.machine opened.from s.start before.beside.link s.heard after.beside.link s.later before.beside.machine s.ready part s.first s.stages command opened.plan opened.is_plan s.brought)
        (parts_there o.disk before.disk opened.from (all_of opened.ended.committed opened.ended.broken) node part way slot)

-- ---- over the kinds of resources of a host

module _ {D H C : Type 0} (d : disks.Ghosts D) (host : hosts.Ghosts H) (clock : clocks.Ghosts C) (succeeds : RepairSucceeds) (contained : FaultsAreContained) (law : CompliantHold) where
  run_true : (run : Option Run) (ready after : Kinds H) → IsRun (kinds_of host) run ready after → IsTrueRun host run ready after
  run_true None ready after same = tt
  run_true (Some run) ready after ran = is_true host ready after run ran

  complete : (begin now : D) (from : Node) (run : Option Run) (ready after : Kinds H) (committed : List Event) → IsRun (kinds_of host) run ready after
      → IsPromoted d begin now from run (calls_of after) committed → IsComplete host d begin now from run ready after committed
  complete begin now from None ready after committed same promoted = tt
  complete begin now from (Some run) ready after committed ran promoted = record {
    repaired = repaired host ready after run ran contained;
    promoted = λ f. promoted (record {
      pending = f.pending;
      finished = f.is_finished.finished;
      compliant = faultless_compliant host ready after run ran d begin now from succeeds f;
      disk = f.disk;
      job = f.job;
    });
  }

  all_together : (run : Option Run) (ready after : Kinds H) → IsRun (kinds_of host) run ready after → HoldTogether host run ready after
  all_together None ready after same = tt
  all_together (Some run) ready after ran = together host ready after law run ran

  pub host_headline : (command : Command) (before after : Outside D (Kinds H) C) (status : Status) (lines : List ℕ) → HasHeadline (known_on_host d host clock) command before after status lines
      → (opened : Opened (known_on_host d host clock) command before after status lines)
      → HostHeadline d host clock command before after status lines opened.from opened.ready opened.run opened.ended.committed opened.ended.broken
  host_headline command before after status lines has opened =
      let any = has opened in
      record {
        any = any;
        is_true = run_true opened.run opened.ready after.beside.machine any.sets_follow_tests.runs;
        completes = complete before.disk after.disk opened.from opened.run opened.ready after.beside.machine opened.ended.committed any.sets_follow_tests.runs any.compliant_runs_are_promoted;
        resources_hold_together = all_together opened.run opened.ready after.beside.machine any.sets_follow_tests.runs;
      }
