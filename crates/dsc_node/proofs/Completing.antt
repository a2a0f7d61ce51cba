-- A start of valid input in which nothing failed: no row that refuses applies.
use Rattle.std.proofs.Common.{◌≡◌, ◌≢◌, ◌⊎◌, inl, inr, ℕ, ◌<◌, ◌^◌, ◌-◌, ◌==◌, ◌&&◌, ◌||◌, not, Bool, true, false, cond, List, [], ◌∷◌, ◌++◌, Option, Some, None, Result, Ok, Err, is_some, is_none, refl, sym, ap, subst, ◌∙◌, eq-eqb}
use Rattle.std.specs.Prelude.{IfSome, ⊤, codes}
use Rattle.std.specs.List.{list_any}
use Rattle.std.proofs.lemmas.Bool.{or_right}
use Rattle.std.proofs.lemmas.Option.{none-some, same_Some}
use Rattle.dsc_terms.specs.Counts.{Rose}
use Rattle.dsc_outside.specs.Link.{LinkView}
use Rattle.depend_order.specs.declared.ordered.OrderedDocument.{OrderedDocument}
use Rattle.meta_config.specs.declared.meta.Partial.{Partial}
use Rattle.meta_config.specs.declared.modes.ConfigMode.{ConfigMode}
use Rattle.meta_config.specs.declared.modes.RefreshMode.{RefreshMode}
use Rattle.meta_config.specs.declared.modes.RefreshMode.TheVariants as refreshes
use Rattle.meta_config.specs.declared.server.Server.{Server}
use Rattle.meta_config.specs.Parts.{is_pull, partial_named}
use Rattle.partial_merge.specs.declared.error.MergeError.{MergeError}
use Rattle.partial_merge.specs.declared.error.MergeError.TheVariants as merging
use Rattle.partial_merge.specs.declared.part.Part.{Part}
use Rattle.partial_merge.specs.Parts.{DeclaresDocument, named, text_part, unnamed_part}
use Rattle.partial_merge.specs.Refused.{IsFaultAt}
use Rattle.partial_merge.proofs.OneMerge.{never_both, no_fault}
use Rattle.partial_merge.proofs.OnePart.{are_joined, refused_first}
use Rattle.lcm_core.specs.declared.modes.RunEnd.{RunEnd}
use Rattle.lcm_core.specs.declared.modes.RunEnd.TheVariants as ends
use Rattle.report_log.specs.declared.report.Report.{Report}
use Rattle.node_state.specs.declared.event.Event.{Event}
use Rattle.node_state.specs.declared.event.Event.TheVariants as events
use Rattle.node_state.specs.declared.error.StageError.{StageError}
use Rattle.node_state.specs.declared.error.StageError.TheVariants as staging
use Rattle.node_state.specs.declared.event.Why.{Why}
use Rattle.node_state.specs.declared.event.Why.TheVariants.{PartNotPush}
use Rattle.node_state.specs.declared.list.Staged.{Staged}
use Rattle.node_state.specs.declared.node.Kept.{Kept}
use Rattle.node_state.specs.declared.node.Node.{Node}
use Rattle.node_state.specs.Sound.{Sound}
use Rattle.node_state.specs.Table.{Steps, check, is_next, is_unsent, refusal}
use Rattle.node_state.proofs.FittingParts.{fitting_are_taken}
use Rattle.node_store.specs.declared.error.StoreError.{StoreError}
use Rattle.node_store.specs.declared.error.StoreError.TheVariants as errors
use Rattle.node_store.specs.Stands.{FailsAt, Stands}
use Rattle.node_store.specs.Store.{Unopened}
use Rattle.node_store.proofs.Meaning.{failing_for_none, one_node}
use Rattle.node_pull.specs.declared.error.PullFault.{PullFault}
use Rattle.node_pull.specs.declared.error.PullFault.TheVariants as pulls
use Rattle.node_pull.specs.Names.{CanAskOf, HasOneName}
use Rattle.node_pull.specs.Registering.{Registers}
use Rattle.node_pull.specs.Pulling.{Pulled}
use Rattle.node_pull.specs.Laying.{AreLaid, AreLaidRefused}
use Rattle.node_pull.specs.Serving.{RegistrationsSucceed, AcceptsRegistration, MayBeStaged, PullsSucceed, Serves}
use Rattle.meta_config.specs.declared.meta.Meta.{Meta as MetaTerm}
use Rattle.dsc_node.specs.declared.bringing.Unbrought.{Unbrought}
use Rattle.dsc_node.specs.declared.bringing.Unbrought.TheVariants.{Pull, Staging}
use Rattle.dsc_node.specs.declared.command.Command.{Command}
use Rattle.dsc_node.specs.declared.command.Command.TheVariants as commands
use Rattle.dsc_node.specs.declared.plan.Bring.TheVariants as bring
use Rattle.dsc_node.specs.declared.plan.Follows.TheVariants as follows
use Rattle.dsc_node.specs.declared.plan.Needs.{Needs}
use Rattle.dsc_node.specs.declared.plan.Needs.TheVariants as need
use Rattle.dsc_node.specs.declared.plan.Plan.{Plan}
use Rattle.dsc_node.specs.declared.plan.Printed.{Printed}
use Rattle.dsc_node.specs.declared.plan.Printed.TheVariants as print
use Rattle.dsc_node.specs.declared.status.Status.{Status}
use Rattle.dsc_node.specs.declared.status.Status.TheVariants as statuses
use Rattle.dsc_node.specs.Bringing.{Brought, IsPull, IsPushedPart, IsRegistration, Lays, boot_of, events_of, held_of, pushed_by, registered_by, staged_by, status_of_pull, status_of_unbrought}
use Rattle.dsc_node.specs.Commands.{IsPlanOf, IsUnmerged, is_any, is_disabled, is_one, is_push, prints, pulls_of, runs, waits, why_no_push, why_no_run, why_not}
use Rattle.dsc_node.specs.Commits.{RefusedAfter}
use Rattle.dsc_node.specs.Complete.{IsEndOfRun, IsEndOf, MayPush, MayPushPart, MayRegister, MayRestore, MayPull, IsValid, IsValidFor, MayRun, NothingFailed, ValidStartsComplete}
use Rattle.dsc_node.specs.Endings.{Answers, status_of, status_of_input, status_of_staging}
use Rattle.dsc_node.specs.Path.{disk_counts}
use Rattle.dsc_node.specs.Runs.{Choice, Run, chosen_among, chosen_of, end_line, event_of, status_after}
use Rattle.dsc_node.specs.Sending.{EndsAfterSending, Sends, ToSend, Tried, all_sent, before_later, first_unsent, no_memory, not_sent, sent, to_send, unmarked, unprinted}
use Rattle.dsc_node.specs.Start as starts
use Rattle.dsc_node.specs.Start.{Opened, Outside}
use Rattle.dsc_node.specs.Work.{Beside, Finish, Known, StartTable, clock_failed, finished, first_refused, no_run, not_allowed, not_brought, report_kept, report_refused, settled, unended, unready, waiting}
use Rattle.dsc_node.specs.Shown.{printed_text}
use Rattle.dsc_node.proofs.Firsts.{first_job, first_quiet, is_first, pushed_first}
use Rattle.dsc_node.proofs.Headline.{agent_some, next_is, promotion_allowed, some_none}
use Rattle.dsc_node.proofs.HeadlineRuns.{no_choice, pending_chosen}
use Rattle.dsc_node.proofs.Nodes.{steps_sound}
use Rattle.dsc_node.proofs.PushedParts.{memory_of}
use Rattle.dsc_node.proofs.Sends.{steps_same}
use Rattle.dsc_node.proofs.Sends.{is_first as is_first_unsent}
use Rattle.dsc_node.proofs.Way.{steps-push}

-- ---- commits

-- where the disk did not fail, an event that the node allows is refused for memory alone
event_refused : (from node : Node) (counts : ℕ × ℕ) (work : List Event) (event : Event) (error : StoreError) (committed : List Event) (broken : Option Event)
    → (Rose counts.0 counts.1 → ⊥) → Steps from work node → refusal node event ≡ None → RefusedAfter from counts work event error committed broken → error ≡ errors.Memory
event_refused from node counts work event errors.Disk committed broken still steps allowed refused = absurd (still refused.cause.1)
event_refused from node counts work event errors.Memory committed broken still steps allowed refused = refl
event_refused from node counts work event errors.Spent committed broken still steps allowed refused = absurd refused.cause
event_refused from node counts work event (errors.NotAStore at) committed broken still steps allowed refused = absurd refused.cause
event_refused from node counts work event (errors.NotAllowed why) committed broken still steps allowed refused =
    some_none why (refusal node event) (subst (λ (n : Node). refusal n event ≡ Some why) (steps_same from refused.node node work refused.steps steps) refused.cause) allowed

-- ---- sending

unsent_there : (reports : List Kept) (report : Report) → first_unsent reports ≡ Some report → list_any (is_unsent report.job) reports ≡ true
unsent_there [] report is = absurd (none-some report is)
unsent_there (kept ∷ reports) report is = here kept.sent (λ later. unsent_there reports report later) is where
  here : (was_sent : Bool) → (first_unsent reports ≡ Some report → list_any (is_unsent report.job) reports ≡ true) → cond was_sent (first_unsent reports) (Some kept.report) ≡ Some report
      → (((kept.report.job == report.job) && not was_sent) || list_any (is_unsent report.job) reports) ≡ true
  here true on later = or_right ((kept.report.job == report.job) && false) (list_any (is_unsent report.job) reports) (on later)
  here false on first = rw (eq-eqb kept.report.job report.job (ap (λ (r : Report). r.job) (same_Some kept.report report first))) refl

-- the report that is sent next may be marked as sent
sent_allowed : (node : Node) (next : ToSend) → to_send node ≡ Some next → refusal node (events.Sent next.report.job) ≡ None
sent_allowed node next is = rw (unsent_there node.reports next.report (is_first_unsent node next is)) refl

-- the reports were tried, or memory ran out
abbrev AreTried : Result (List Tried) StoreError → Type 0
AreTried (Ok tried) = ⊤
AreTried (Err error) = error ≡ errors.Memory

later_tried : (tried : Tried) (later : Result (List Tried) StoreError) → AreTried later → AreTried (before_later tried later)
later_tried tried (Ok more) are = tt
later_tried tried (Err error) is = is

sends_tried : (from : Node) (counts : ℕ × ℕ) → (Rose counts.0 counts.1 → ⊥) → (work : List Event) (node : Node) (asked heard : LinkView) (tried : Result (List Tried) StoreError) (committed : List Event)
    (broken : Option Event) → Steps from work node → Sends from counts work node asked heard tried committed broken → AreTried tried
sends_tried from counts still _ _ _ _ _ _ _ steps (all_sent work node view none) = tt
sends_tried from counts still _ _ _ _ _ _ _ steps (not_sent work node asked heard next error is sends other) = tt
sends_tried from counts still _ _ _ _ _ _ _ steps (no_memory work node asked heard next error is sends) = refl
sends_tried from counts still _ _ _ _ _ _ _ steps (unmarked work node asked heard next error committed broken is sends refused) =
    event_refused from node counts work (events.Sent next.report.job) error committed broken still steps (sent_allowed node next is) refused
sends_tried from counts still _ _ _ _ _ _ _ steps (unprinted work node marked_node asked heard next is sends step) = refl
sends_tried from counts still _ _ _ _ _ _ _ steps (sent work node marked_node asked mid heard next later committed broken is sends step rest) =
    later_tried (record { job = next.report.job; sent = true }) later
    (sends_tried from counts still (work ++ events.Sent next.report.job ∷ []) marked_node mid heard later committed broken
    (steps-push from node marked_node work (events.Sent next.report.job) steps step) rest)

-- ---- how it ends

abbrev EndsOr : Status → Status → Type 0
EndsOr wanted status = (status ≡ wanted) ⊎ (status ≡ statuses.Memory)

answers_or : (wanted : Status) (text : List ℕ) (status : Status) (lines : List ℕ) → Answers wanted text status lines → EndsOr wanted status
answers_or wanted text status lines (inl ended) = inl ended.0
answers_or wanted text status lines (inr memory) = inr memory.0

ends_or : (wanted : Status) (text end : List ℕ) (tried : Result (List Tried) StoreError) (status : Status) (lines : List ℕ) → AreTried tried → EndsAfterSending wanted text end tried status lines
    → EndsOr wanted status
ends_or wanted text end (Ok tried) status lines are ended = answers_or wanted _ status lines ended
ends_or wanted text end (Err errors.Memory) status lines are ended = inr ended.0
ends_or wanted text end (Err errors.Disk) status lines is ended = cc is
ends_or wanted text end (Err errors.Spent) status lines is ended = cc is
ends_or wanted text end (Err (errors.NotAStore at)) status lines is ended = cc is
ends_or wanted text end (Err (errors.NotAllowed why)) status lines is ended = cc is

-- a status that a run comes to, or memory ran out
abbrev RanOr : Status → Type 0
RanOr status = IsEndOfRun status ⊎ (status ≡ statuses.Memory)

after_of_run : (now : Bool) (end : RunEnd) (missed : ℕ) → RanOr (status_after now end missed)
after_of_run now (ends.RebootAsked place) missed = inl tt
after_of_run now ends.Finished missed = by (missed == 0) where
  by : (zero : Bool) → RanOr (cond zero statuses.Done (statuses.NotCompliant missed))
  by true = inl tt
  by false = inl tt
after_of_run now ends.Memory missed = inr refl

ran_or : (wanted status : Status) → RanOr wanted → EndsOr wanted status → RanOr status
ran_or wanted status ran (inl is) = subst (λ (s : Status). RanOr s) (sym is) ran
ran_or wanted status ran (inr memory) = inr memory

-- ---- the run

has_parts : (mode : ConfigMode) (pending current : Option (List Part)) (choice : Choice) → chosen_among mode pending current ≡ Some choice → (is_some pending || is_some current) ≡ true
has_parts mode (Some parts) current choice is = refl
has_parts mode None (Some parts) choice is = refl
has_parts mode None None choice is = no_choice choice is

-- there are parts where there is something to run
has_document : (stopped : Bool) (node : Node) (choice : Choice) → chosen_of stopped node ≡ Some choice → (is_some node.pending || is_some node.current) ≡ true
has_document true node choice is = no_choice choice is
has_document false node choice is = has_parts node.meta.mode node.pending node.current choice is

no_parts : {A : Type 0} (pending current : Option (List Part)) → pending ≡ None → current ≡ None → (is_some pending || is_some current) ≡ true → A
no_parts None None none also is = absurd (cc is)
no_parts (Some parts) current none also is = absurd (none-some parts (sym none))
no_parts None (Some parts) none also is = absurd (none-some parts (sym also))

-- the event that keeps the report of a run is allowed
report_allowed : (node : Node) (stopped : Bool) (choice : Choice) (end : RunEnd) (report : Report) → Sound node → chosen_of stopped node ≡ Some choice → report.job ≡ node.next_job
    → node.next_job < 2 ^ 64 - 1 → refusal node (event_of end choice.pending report) ≡ None
report_allowed node stopped choice end report sound chosen job below = by end where
  parts : (is_some node.pending || is_some node.current) ≡ true
  parts = has_document stopped node choice chosen

  agent : is_some node.agent ≡ true
  agent = agent_some node.agent (λ none. no_parts node.pending node.current (sound.bare none).pending (sound.bare none).current parts)

  next : is_next node.next_job report.job ≡ true
  next = next_is node.next_job report.job job below

  noted : refusal node (events.Note report) ≡ None
  noted = rw (agent, parts, next) refl

  finished_by : (pending zero : Bool) → (pending ≡ true → refusal node (events.Promote report) ≡ None) → refusal node (cond (pending && zero) (events.Promote report) (events.Note report)) ≡ None
  finished_by true true promoted = promoted refl
  finished_by true false promoted = noted
  finished_by false zero promoted = noted

  by : (e : RunEnd) → refusal node (event_of e choice.pending report) ≡ None
  by (ends.RebootAsked place) = noted
  by ends.Finished = finished_by choice.pending (report.missed == 0) (λ pending.
      promotion_allowed node report choice.parts sound (pending_chosen stopped node choice chosen pending).1 job below)
  by ends.Memory = noted

finish_completes : {D S C : Type 0} (o : Known D S C) (from : Node) (counts : ℕ × ℕ) → (Rose counts.0 counts.1 → ⊥) → (work : List Event) (node : Node) → Steps from work node → Sound node
    → node.next_job < 2 ^ 64 - 1 → (stopped : Bool) (readings left : Option (List (Option ℕ))) (start : ℕ) (asked heard : LinkView) (before after : S) (status : Status) (lines : List ℕ) (run : Option Run)
    (committed : List Event) (broken : Option Event)
    → Finish o from counts work node stopped readings left start asked heard before after status lines run committed broken → RanOr status
finish_completes o from counts still work node steps sound job stopped readings left start asked heard before after status lines _ _ _ (no_run tried committed broken none idle taken sends ended) =
    ran_or statuses.Done status (inl tt)
    (ends_or statuses.Done [] (codes "end nothing\n") tried status lines (sends_tried from counts still work node asked heard tried committed broken steps sends) ended)
finish_completes o from counts still work node steps sound job stopped readings left start asked heard before after status lines _ _ _ (unready idle taken unasked ended) = inr ended.0
finish_completes o from counts still work node steps sound job stopped readings left start asked heard before after status lines _ _ _ (unended run ran taken unasked ended) = inr ended.0
finish_completes o from counts still work node steps sound job stopped readings left start asked heard before after status lines _ _ _
    (report_refused run report error text committed broken reported took unasked refused memory shown answers) =
    absurd (memory (event_refused from node counts work (event_of run.end run.choice.pending report) error committed broken still steps
    (report_allowed node stopped run.choice run.end report sound reported.chosen reported.is.job job) refused))
finish_completes o from counts still work node steps sound job stopped readings left start asked heard before after status lines _ _ _
    (report_kept run report text noted tried committed broken reported took shown step sends ended) =
    ran_or (status_after node.meta.reboot_if_needed run.end report.missed) status (after_of_run node.meta.reboot_if_needed run.end report.missed)
    (ends_or (status_after node.meta.reboot_if_needed run.end report.missed) text (end_line run.end run.choice.pending report.missed) tried status lines
    (sends_tried from counts still (work ++ event_of run.end run.choice.pending report ∷ []) noted asked heard tried committed broken
    (steps-push from node noted work (event_of run.end run.choice.pending report) steps step) sends) ended)

-- ---- the table

-- The node has what the plan needs, and waits for nothing. It is brought its event, or memory runs out, and it allows that event. Where a run
-- follows, there is a number for its report.
record IsReady {D S C : Type 0} (o : Known D S C) (node : Node) (plan : Plan) (asked heard : LinkView) (before after : S) : Type 0 where
  allowed : why_not node plan.needs ≡ None
  ready : waits node plan ≡ false
  brings : (start : ℕ) (error : Unbrought) → Brought o.resources o.machine node plan.brings start asked heard before after (Err error) → status_of_unbrought error ≡ statuses.Memory
  first : (start : ℕ) (view : LinkView) (ready : S) (event : Event) → Brought o.resources o.machine node plan.brings start asked view before ready (Ok (Some event)) → refusal node event ≡ None
  job : plan.follows ≡ follows.Run → node.next_job < 2 ^ 64 - 1

-- it was done, or run, or memory ran out
abbrev IsDone : Plan → Status → Type 0
IsDone plan status = (status ≡ statuses.Done) ⊎ ((plan.follows ≡ follows.Run) × RanOr status) ⊎ (status ≡ statuses.Memory)

done_or : (plan : Plan) (status : Status) → EndsOr statuses.Done status → IsDone plan status
done_or plan status (inl done) = inl done
done_or plan status (inr memory) = inr (inr memory)

no_wait : {A : Type 0} (b : Bool) → b ≡ false → b ≡ true → A
no_wait b is not = let both : false ≡ true = sym is ∙ not in cc both

table_completes : {D S C : Type 0} (o : Known D S C) (command : Command) (plan : Plan) (from : Node) (counts : ℕ × ℕ) (before after : Beside S C) (status : Status) (lines : List ℕ) (ready : S) (run : Option Run)
    (committed : List Event) (broken : Option Event) → IsPlanOf command plan → Sound from → (Rose counts.0 counts.1 → ⊥) → (Rose (o.clock.faults before.clock) (o.clock.faults after.clock) → ⊥)
    → IsReady o from plan before.link after.link before.machine after.machine
    → StartTable o plan from counts [] from before after status lines ready run committed broken → IsDone plan status
table_completes o command plan from counts before after status lines _ _ _ _ asked sound still ticks is (not_allowed why why_is idle ended) = some_none why (why_not from plan.needs) why_is is.allowed
table_completes o command plan from counts before after status lines _ _ _ _ asked sound still ticks is (waiting none waits_is idle ended) = no_wait (waits from plan) is.ready waits_is
table_completes o command plan from counts before after status lines _ _ _ _ asked sound still ticks is (clock_failed allowed reads gave took rose machine link ended) = absurd (ticks rose)
table_completes o command plan from counts before after status lines _ _ _ _ asked sound still ticks is (not_brought start error allowed reads brought ended) =
    inr (inr (ended.0 ∙ is.brings start error brought))
table_completes o command plan from counts before after status lines _ _ _ _ asked sound still ticks is (first_refused start event error committed broken allowed reads brought refused ended) =
    inr (inr (ended.0 ∙ ap status_of
    (event_refused from from counts [] event error committed broken still refl (is.first start after.link after.machine event brought) refused)))
table_completes o command plan from counts before after status lines _ _ _ _ asked sound still ticks is (settled start first mid text allowed printed reads brought steps answers) =
    done_or plan status (answers_or statuses.Done (printed_text text mid) status lines answers)
table_completes o command plan from counts before after status lines _ _ _ _ asked sound still ticks is (finished start readings heard ready first mid run committed broken allowed runs gave took brought steps f) =
    let job = first_job from mid first plan.follows steps (first_quiet o.resources o.machine from start before.link heard before.machine ready first command plan asked brought) in
    inr (inl (
      runs,
      finish_completes o from counts still (events_of first) mid steps (steps_sound from mid (events_of first) steps sound)
          (subst (λ (n : ℕ). n < 2 ^ 64 - 1) (sym job) (is.job runs)) _ readings _ start heard after.link ready after.machine status lines run committed broken f,
    ))

-- ---- the commands

-- what a node that may run says of itself
module _ (node : Node) where
  enabled_is : (mode : RefreshMode) → mode ≢ refreshes.Disabled → is_disabled mode ≡ false
  enabled_is refreshes.Push other = refl
  enabled_is refreshes.Pull other = refl
  enabled_is refreshes.Disabled other = absurd (other refl)

  runs_allowed : MayRun node → (rest : Option Why) → why_no_run node rest ≡ rest
  runs_allowed runs rest = rw (runs.agent, enabled_is node.meta.refresh runs.enabled) refl

  one_name : (names : List (List ℕ)) → HasOneName names → is_one names ≡ true
  one_name [] has = absurd has
  one_name (name ∷ []) has = refl
  one_name (name ∷ second ∷ names) has = absurd has

  names_there : (meta : MetaTerm) (partials : List Partial) → CanAskOf meta partials → (is_any partials || is_one meta.names) ≡ true
  names_there meta [] can = one_name meta.names can
  names_there meta (partial ∷ partials) can = refl

  pulls_there : (partials : List Partial) → (partials ≡ [] → node.meta.refresh ≡ refreshes.Pull) → CanAskOf node.meta partials → pulls_of node.meta partials ≡ true
  pulls_there [] mode can = ap is_pull (mode refl)
  pulls_there (partial ∷ partials) mode can = can

  pull_allowed : (before after : LinkView) → MayPull node before after → why_not node need.Pull ≡ None
  pull_allowed before after served =
      rw (
        served.runs.runs.agent,
        enabled_is node.meta.refresh served.runs.runs.enabled,
        pulls_there node.meta.partials served.mode served.names,
        ap (λ (s : Option Server). is_some s) served.is_server,
        served.pulls,
        served.registered,
        names_there node.meta node.meta.partials served.names,
      ) refl

  push_allowed : (bytes : List ℕ) → MayPush node bytes → why_not node need.NoPartials ≡ None
  push_allowed bytes pushed = rw (pushed.runs.runs.agent, enabled_is node.meta.refresh pushed.runs.runs.enabled, pushed.whole) refl

  part_allowed : (name bytes : List ℕ) → MayPushPart node name bytes → why_not node (need.PushedPartial name) ≡ None
  part_allowed name bytes pushed =
      runs_allowed pushed.runs.runs (why_no_push node.meta (partial_named node.meta.partials name))
      ∙ ap (why_no_push node.meta) pushed.is_partial ∙ ap (λ (m : RefreshMode). check (is_push m) PartNotPush None) pushed.mode

  register_allowed : (name : List ℕ) (before after : LinkView) → MayRegister node name before after → why_not node need.Server ≡ None
  register_allowed name before after valid = rw (ap (λ (a : Option ℕ). is_some a) valid.is_agent, ap (λ (s : Option Server). is_some s) valid.is_server) refl

  restore_allowed : MayRestore node → why_not node need.Previous ≡ None
  restore_allowed valid = rw (valid.runs.runs.agent, enabled_is node.meta.refresh valid.runs.runs.enabled, valid.kept) refl

never_run : {A : Type 0} (text : Printed) → follows.Text text ≡ follows.Run → A
never_run text is = absurd (cc is)

module _ {D S C : Type 0} (o : Known D S C) (node : Node) (asked heard : LinkView) (before after : S) where
  as_plan : (plan other : Plan) → plan ≡ other → IsReady o node other asked heard before after → IsReady o node plan asked heard before after
  as_plan plan other is ready = subst (λ (p : Plan). IsReady o node p asked heard before after) (sym is) ready

  -- a plan that asks nobody
  alone : (plan : Plan) (given : Option Event) → why_not node plan.needs ≡ None → waits node plan ≡ false → (plan.follows ≡ follows.Run → node.next_job < 2 ^ 64 - 1)
      → ((start : ℕ) (view : LinkView) (ready : S) (result : Result (Option Event) Unbrought) → Brought o.resources o.machine node plan.brings start asked view before ready result → result ≡ Ok given)
      → ((event : Event) → given ≡ Some event → refusal node event ≡ None) → IsReady o node plan asked heard before after
  alone plan given allowed ready job brings first = record {
    allowed = allowed;
    ready = ready;
    brings = λ start error brought. let both = brings start heard after (Err error) brought in cc both;
    first = λ start view machine event brought. first event (given_is event (brings start view machine (Ok (Some event)) brought));
    job = job;
  } where
    given_is : (event : Event) → (let x : Result (Option Event) Unbrought = Ok (Some event) in x) ≡ Ok given → given ≡ Some event
    given_is event is = cc is

  one_event : (one event : Event) → refusal node one ≡ None → Some one ≡ Some event → refusal node event ≡ None
  one_event one event allowed is = subst (λ (e : Event). refusal node e ≡ None) (same_Some one event is) allowed

  no_event : (event : Event) → None ≡ Some event → refusal node event ≡ None
  no_event event is = absurd (none-some event is)

  boot_event : (marked : Bool) → node.reboot ≡ marked → (event : Event) → boot_of marked ≡ Some event → refusal node event ≡ None
  boot_event true is event given = one_event events.Boot event (rw is refl) given
  boot_event false is event given = no_event event given

  -- ---- that ask the server

  module _ (register : RegistrationsSucceed) (pull : PullsSucceed o.machine.packages o.resources.faults) where
    registered_error : (answer : Result (Unit {0}) PullFault) (error : Unbrought) → Err error ≡ registered_by answer → (cause : PullFault) × (answer ≡ Err cause) × (error ≡ Pull cause)
    registered_error (Ok done) error is = absurd (cc is)
    registered_error (Err e) error is = (e, refl, cc is)

    -- where memory alone was refused
    memory_alone : (error : Unbrought) (cause : PullFault) → error ≡ Pull cause → cause ≡ pulls.Memory → status_of_unbrought error ≡ statuses.Memory
    memory_alone error cause is memory = ap status_of_unbrought is ∙ ap status_of_pull memory

    register_refused : (name : List ℕ) → MayRegister node name asked heard → (start : ℕ) (error : Unbrought) → IsRegistration node name start asked heard (Err error)
        → status_of_unbrought error ≡ statuses.Memory
    register_refused name valid start error r =
        let at = registered_error r.answer error r.is in
        let server : valid.server ≡ r.server = same_Some valid.server r.server (sym valid.is_server ∙ r.is_server) in
        let agent : valid.agent ≡ r.agent = same_Some valid.agent r.agent (sym valid.is_agent ∙ r.is_agent) in
        memory_alone error at.0 at.2 (register node.meta r.server r.agent name start asked heard at.0
        (subst (λ (a : ℕ). AcceptsRegistration node.meta r.server a name asked heard) agent
        (subst (λ (s : Server). AcceptsRegistration node.meta s valid.agent name asked heard) server valid.accepts))
        (subst (λ (a : Result (Unit {0}) PullFault). Registers node.meta r.server r.agent name start asked heard a) at.1 r.registers))

    register_ready : (name : List ℕ) → MayRegister node name asked heard → IsReady o node (record (prints need.Server (bring.Registration name) print.Done) { reads_clock = true }) asked heard before after
    register_ready name valid = record {
      allowed = register_allowed node name asked heard valid;
      ready = refl;
      brings = λ start error brought. register_refused name valid start error brought.1;
      first = λ start view machine event brought.
          registered_event (is_first o.resources o.machine node start asked view before machine (Some event) (bring.Registration name) brought);
      job = λ runs. never_run print.Done runs;
    } where
      registered_event : {event : Event} → Some event ≡ Some events.Registered → refusal node event ≡ None
      registered_event {event} is = one_event events.Registered event (rw (ap (λ (a : Option ℕ). is_some a) valid.is_agent, ap (λ (s : Option Server). is_some s) valid.is_server) refl) (sym is)

    staged_error : (answer : Result (Option Staged) PullFault) (error : Unbrought) → Err error ≡ staged_by answer → (cause : PullFault) × (answer ≡ Err cause) × (error ≡ Pull cause)
    staged_error (Ok None) error is = absurd (cc is)
    staged_error (Ok (Some staged)) error is = absurd (cc is)
    staged_error (Err e) error is = (e, refl, cc is)

    pull_refused : (Rose (o.resources.faults before) (o.resources.faults after) → ⊥) → MayPull node asked heard → (error : Unbrought) → IsPull o.machine o.resources.faults node asked heard before after (Err error) → status_of_unbrought error ≡ statuses.Memory
    pull_refused still valid error p =
        let at = staged_error p.answer error p.is in
        let server : valid.server ≡ p.server = same_Some valid.server p.server (sym valid.is_server ∙ p.is_server) in
        let agent : valid.agent ≡ p.agent = same_Some valid.agent p.agent (sym valid.is_agent ∙ p.is_agent) in
        memory_alone error at.0 at.2 (pull node.meta p.server p.agent (held_of node) asked heard before after at.0
        (subst (λ (a : ℕ). Serves node.meta p.server a (held_of node) asked heard) agent
        (subst (λ (s : Server). Serves node.meta s valid.agent (held_of node) asked heard) server valid.serves)) still
        (subst (λ (a : Result (Option Staged) PullFault). Pulled o.machine.packages o.resources.faults node.meta p.server p.agent (held_of node) asked heard before after a) at.1 p.pulled))

    pull_ready : (Rose (o.resources.faults before) (o.resources.faults after) → ⊥) → MayPull node asked heard → IsReady o node (runs need.Pull bring.Pull) asked heard before after
    pull_ready still valid = record {
      allowed = pull_allowed node asked heard valid;
      ready = valid.runs.ready;
      brings = λ start error brought. pull_refused still valid error brought;
      first = λ start view machine event brought.
          pulled_event event (is_first o.resources o.machine node start asked view before machine (Some event) bring.Pull brought);
      job = λ runs. valid.runs.runs.job;
    } where
      pulled_event : (event : Event) → (Some event ≡ None) ⊎ ((staged : Staged) × (Some event ≡ Some (events.Stage staged))) → refusal node event ≡ None
      pulled_event event (inl none) = absurd (none-some event (sym none))
      pulled_event event (inr (staged, is)) = one_event (events.Stage staged) event (rw valid.runs.runs.agent refl) (sym is)

    -- ---- each command

    push_ready : (bytes : List ℕ) (staged : Staged) (document : OrderedDocument) → MayPush node bytes
        → IsReady o node (runs need.NoPartials (bring.Push staged document)) asked heard before after
    push_ready bytes staged document valid =
        alone (runs need.NoPartials (bring.Push staged document)) (Some (events.Stage staged)) (push_allowed node bytes valid) valid.runs.ready (λ runs. valid.runs.runs.job)
        (λ start view machine result b. b.is) (λ event is. one_event (events.Stage staged) event (rw valid.runs.runs.agent refl) is)

    pushed_error : (answer : Result Staged StageError) (error : Unbrought) → Err error ≡ pushed_by answer → (cause : StageError) × (answer ≡ Err cause) × (error ≡ Staging cause)
    pushed_error (Ok staged) error is = absurd (cc is)
    pushed_error (Err e) error is = (e, refl, cc is)

    -- a list that may be staged is refused for memory alone
    laid_refused : (part : Part) → ((parts : List Part) → AreLaid node.meta (part ∷ []) (held_of node) parts → MayBeStaged node.meta parts) → (error : StageError)
        → AreLaidRefused node.meta (part ∷ []) (held_of node) error → error ≡ staging.Memory
    laid_refused part may (staging.Merge error) (parts, laid, refused) = fitting_are_taken node.meta parts (staging.Merge error) (may parts laid).0 (may parts laid).1 refused
    laid_refused part may (staging.Fit error) (parts, laid, refused) = fitting_are_taken node.meta parts (staging.Fit error) (may parts laid).0 (may parts laid).1 refused
    laid_refused part may (staging.TooLong bytes) (parts, laid, refused) = fitting_are_taken node.meta parts (staging.TooLong bytes) (may parts laid).0 (may parts laid).1 refused
    laid_refused part may staging.Memory refused = refl

    part_refused : (name bytes : List ℕ) → MayPushPart node name bytes → (error : Unbrought) → IsPushedPart node name bytes (Err error) → status_of_unbrought error ≡ statuses.Memory
    part_refused name bytes valid error p =
        let at = pushed_error p.answer error p.is in
        let same : p.partial ≡ valid.partial = same_Some p.partial valid.partial (sym p.is_partial ∙ valid.is_partial) in
        let lays : Lays node (text_part p.partial.name bytes) (Err at.0) = subst (Lays node (text_part p.partial.name bytes)) at.1 p.lays in
        let refused = subst (λ (q : Partial). AreLaidRefused node.meta (text_part q.name bytes ∷ []) (held_of node) at.0) same lays in
        ap status_of_unbrought at.2 ∙ ap status_of_staging (laid_refused (text_part valid.partial.name bytes) valid.staged at.0 refused)

    part_ready : (name bytes : List ℕ) → MayPushPart node name bytes → IsReady o node (runs (need.PushedPartial name) (bring.PushPart name bytes)) asked heard before after
    part_ready name bytes valid = record {
      allowed = part_allowed node name bytes valid;
      ready = valid.runs.ready;
      brings = λ start error brought. part_refused name bytes valid error brought.2;
      first = λ start view machine event brought.
          let at = pushed_first (Some event) brought.2.answer brought.2.is in
          one_event (events.Stage at.0) event (rw valid.runs.runs.agent refl) (sym at.2);
      job = λ runs. valid.runs.runs.job;
    }

    -- a plan that prints a text
    text_ready : (needs : Needs) (event : Event) (text : Printed) → why_not node needs ≡ None → refusal node event ≡ None
        → IsReady o node (prints needs (bring.Event event) text) asked heard before after
    text_ready needs event text allowed event_allowed =
        alone (prints needs (bring.Event event) text) (Some event) allowed refl (λ runs. never_run text runs) (λ start view machine result b. b.is)
        (λ other given. one_event event other event_allowed given)

    shown_ready : (text : Printed) → why_not node need.Agent ≡ None → IsReady o node (prints need.Agent bring.Nothing text) asked heard before after
    shown_ready text allowed = alone (prints need.Agent bring.Nothing text) None allowed refl (λ runs. never_run text runs) (λ start view machine result b. b.is) no_event

    ready : (command : Command) (plan : Plan) → IsPlanOf command plan → IsValidFor command node asked heard
        → (command ≡ commands.Pull → Rose (o.resources.faults before) (o.resources.faults after) → ⊥) → IsReady o node plan asked heard before after
    ready (commands.Init agent) plan is valid still =
        let new : is_none node.agent ≡ true = ap (λ (a : Option ℕ). is_none a) valid in
        as_plan plan (prints need.NoAgent (bring.Event (events.Init agent)) print.Done) is (text_ready need.NoAgent (events.Init agent) print.Done (rw new refl) (rw new refl))
    ready (commands.Meta meta) plan is valid still =
        as_plan plan (prints need.Agent (bring.Event (events.SetMeta meta)) print.Done) is (text_ready need.Agent (events.SetMeta meta) print.Done (rw valid refl) (rw valid refl))
    ready (commands.Register name) plan is valid still =
        as_plan plan (record (prints need.Server (bring.Registration name) print.Done) { reads_clock = true }) is (register_ready name valid)
    ready commands.Pull plan is valid still = as_plan plan (runs need.Pull bring.Pull) is (pull_ready (still refl) valid)
    ready (commands.Push (Some name) bytes) plan is valid still =
        as_plan plan (runs (need.PushedPartial name) (bring.PushPart name bytes)) is.is (part_ready name bytes valid)
    ready (commands.Push None bytes) plan is valid still =
        as_plan plan (runs need.NoPartials (bring.Push is.staged is.document)) is.is (push_ready bytes is.staged is.document valid)
    ready commands.Consistency plan is valid still =
        as_plan plan (runs need.Run bring.Nothing) is
        (alone (runs need.Run bring.Nothing) None (runs_allowed node valid.runs None) valid.ready (λ runs. valid.runs.job) (λ start view machine result b. b.is) no_event)
    ready commands.Boot plan is valid still =
        as_plan plan (record (runs need.Run bring.Boot) { waits = false; stops = true }) is
        (alone (record (runs need.Run bring.Boot) { waits = false; stops = true }) (boot_of node.reboot) (runs_allowed node valid None) refl (λ runs. valid.job)
        (λ start view machine result b. b.is) (boot_event node.reboot refl))
    ready commands.Get plan is valid still = as_plan plan (prints need.Agent bring.Nothing print.Node) is (shown_ready print.Node (rw valid refl))
    ready commands.Restore plan is valid still =
        as_plan plan (runs need.Previous (bring.Event events.Restore)) is
        (alone (runs need.Previous (bring.Event events.Restore)) (Some events.Restore) (restore_allowed node valid) valid.runs.ready (λ runs. valid.runs.runs.job)
        (λ start view machine result b. b.is) (λ event given. one_event events.Restore event (rw valid.kept refl) given))
    ready (commands.Remove stage) plan is valid still =
        as_plan plan (prints need.Agent (bring.Event (events.Remove stage)) print.Done) is (text_ready need.Agent (events.Remove stage) print.Done (rw valid refl) (rw valid refl))
    ready commands.Reports plan is valid still = as_plan plan (prints need.Agent bring.Nothing print.Reports) is (shown_ready print.Reports (rw valid refl))

-- ---- a whole start

abbrev IsWhole : Command → Status → Type 0
IsWhole command status = IsEndOf command status ⊎ (status ≡ statuses.Memory)

-- a plan that prints a text does not come to a run
no_run_of : {A : Type 0} (plan other : Plan) (text : Printed) → plan ≡ other → other.follows ≡ follows.Text text → plan.follows ≡ follows.Run → A
no_run_of plan other text is prints runs = never_run text (sym prints ∙ sym (ap (λ (p : Plan). p.follows) is) ∙ runs)

-- a command that comes to a run ends by that
ran_whole : (command : Command) (plan : Plan) → IsPlanOf command plan → plan.follows ≡ follows.Run → (status : Status) → RanOr status → IsWhole command status
ran_whole (commands.Init agent) plan is runs status ran = no_run_of plan (prints need.NoAgent (bring.Event (events.Init agent)) print.Done) print.Done is refl runs
ran_whole (commands.Meta meta) plan is runs status ran = no_run_of plan (prints need.Agent (bring.Event (events.SetMeta meta)) print.Done) print.Done is refl runs
ran_whole (commands.Register name) plan is runs status ran =
    no_run_of plan (record (prints need.Server (bring.Registration name) print.Done) { reads_clock = true }) print.Done is refl runs
ran_whole commands.Pull plan is runs status ran = ran
ran_whole (commands.Push name bytes) plan is runs status ran = ran
ran_whole commands.Consistency plan is runs status ran = ran
ran_whole commands.Boot plan is runs status ran = ran
ran_whole commands.Get plan is runs status ran = no_run_of plan (prints need.Agent bring.Nothing print.Node) print.Node is refl runs
ran_whole commands.Restore plan is runs status ran = ran
ran_whole (commands.Remove stage) plan is runs status ran = no_run_of plan (prints need.Agent (bring.Event (events.Remove stage)) print.Done) print.Done is refl runs
ran_whole commands.Reports plan is runs status ran = no_run_of plan (prints need.Agent bring.Nothing print.Reports) print.Reports is refl runs

done_whole : (command : Command) → IsEndOf command statuses.Done
done_whole (commands.Init agent) = refl
done_whole (commands.Meta meta) = refl
done_whole (commands.Register name) = refl
done_whole commands.Pull = tt
done_whole (commands.Push name bytes) = tt
done_whole commands.Consistency = tt
done_whole commands.Boot = tt
done_whole commands.Get = refl
done_whole commands.Restore = tt
done_whole (commands.Remove stage) = refl
done_whole commands.Reports = refl

whole : (command : Command) (plan : Plan) → IsPlanOf command plan → (status : Status) → IsDone plan status → IsWhole command status
whole command plan is status (inl done) = inl (subst (IsEndOf command) (sym done) (done_whole command))
whole command plan is status (inr (inl (runs, ran))) = ran_whole command plan is runs status ran
whole command plan is status (inr (inr memory)) = inr memory

-- a text that is a document by the rules of parts has no fault of a part
fault_memory : (bytes : List ℕ) (error : MergeError) → DeclaresDocument bytes → IsFaultAt 0 bytes error → error ≡ merging.Memory
fault_memory bytes merging.Memory declares fault = refl
fault_memory bytes (merging.Part place fault) declares at =
    let joined = are_joined (unnamed_part bytes) declares.0 ([] ∷ []) refl declares.1 in
    absurd (no_fault (unnamed_part bytes ∷ []) (named declares.0 ([] ∷ [])) place fault joined (refused_first (unnamed_part bytes) (merging.Part place fault) at))
fault_memory bytes (merging.TwoNames first second) declares fault = absurd fault
fault_memory bytes (merging.TooMany count) declares fault = absurd fault
fault_memory bytes (merging.DuplicateId first second) declares fault = absurd fault
fault_memory bytes (merging.DependsUnknown spot name) declares fault = absurd fault
fault_memory bytes (merging.Cycle walk) declares fault = absurd fault

-- valid input is not refused
input_refused : (command : Command) (error : MergeError) (node : Node) (before after : LinkView) → IsValidFor command node before after → IsUnmerged command error → error ≡ merging.Memory
input_refused (commands.Push (Some name) bytes) error node before after valid refused = fault_memory bytes error valid.declares refused
input_refused (commands.Push None bytes) error node before after valid refused =
    memory_of error (λ other. never_both (unnamed_part bytes ∷ []) valid.document error other valid.merged refused)
input_refused (commands.Init agent) error node before after valid refused = absurd refused
input_refused (commands.Meta meta) error node before after valid refused = absurd refused
input_refused (commands.Register name) error node before after valid refused = absurd refused
input_refused commands.Pull error node before after valid refused = absurd refused
input_refused commands.Consistency error node before after valid refused = absurd refused
input_refused commands.Boot error node before after valid refused = absurd refused
input_refused commands.Get error node before after valid refused = absurd refused
input_refused commands.Restore error node before after valid refused = absurd refused
input_refused (commands.Remove stage) error node before after valid refused = absurd refused
input_refused commands.Reports error node before after valid refused = absurd refused

module _ {D S C : Type 0} (o : Known D S C) (register : RegistrationsSucceed) (pull : PullsSucceed o.machine.packages o.resources.faults) where
  -- the store of a node is opened
  not_opened : (command : Command) (before after : Outside D S C) (error : StoreError) → IsValid o command before after → NothingFailed o command before after → Unopened o.disk before.disk after.disk error
      → error ≡ errors.Memory
  not_opened command before after errors.Disk valid still cause = absurd (still.disk cause)
  not_opened command before after (errors.NotAStore at) valid still cause =
      absurd (failing_for_none valid.held at valid.node (subst (λ (s : Option (List ℕ)). IfSome s (λ held. FailsAt held at)) valid.shown cause.fails) valid.stands)
  not_opened command before after errors.Memory valid still cause = refl
  not_opened command before after (errors.NotAllowed why) valid still cause = absurd cause
  not_opened command before after errors.Spent valid still cause = absurd cause

  -- with the node that the disk reads as
  opened_node : (command : Command) (before after : Outside D S C) (status : Status) (lines : List ℕ) → IsValid o command before after → (s : Opened o command before after status lines)
      → IsValidFor command s.from before.beside.link after.beside.link
  opened_node command before after status lines valid s =
      let stands : Stands valid.held s.from = subst (λ (shown : Option (List ℕ)). IfSome shown (λ held. Stands held s.from)) valid.shown s.reads in
      subst (λ (n : Node). IsValidFor command n before.beside.link after.beside.link) (one_node valid.held valid.node s.from valid.stands stands) valid.valid

  pub valid_starts_complete : ValidStartsComplete o
  valid_starts_complete command before after status lines (starts.refused error unmerged same ended) valid still =
      inr (ended.0 ∙ ap status_of_input (input_refused command error valid.node before.beside.link after.beside.link valid.valid unmerged))
  valid_starts_complete command before after status lines (starts.unopened plan error is count cause quiet moments ended) valid still =
      inr (ended.0 ∙ ap status_of (not_opened command before after error valid still cause))
  valid_starts_complete command before after status lines (starts.opened s) valid still =
      whole command s.plan s.is_plan status
      (table_completes o command s.plan s.from (disk_counts o.disk before.disk after.disk) before.beside after.beside status lines s.ready s.run s.ended.committed s.ended.broken s.is_plan s.sound still.disk still.clock
      (ready o s.from before.beside.link after.beside.link before.beside.machine after.beside.machine register pull command s.plan s.is_plan
      (opened_node command before after status lines valid s) still.machine) s.ended.table)
