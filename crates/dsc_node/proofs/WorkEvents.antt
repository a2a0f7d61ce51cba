-- The events of a start: which of them stage a part, and which keep a report.
use Rattle.std.proofs.lemmas.Option.{none-some}
use Rattle.std.proofs.Common.{◌≡◌, ◌⊎◌, inl, inr, ⊎_elim, ℕ, ◌==◌, ◌&&◌, cond, Bool, true, false, List, [], ◌∷◌, ◌++◌, Option, Some, Result, Ok, Err, refl, sym, ap, subst, ◌∙◌}
use Rattle.dsc_outside.specs.declared.entries.Package.{Package}
use Rattle.partial_merge.specs.declared.part.Part.{Part}
use Rattle.lcm_core.specs.declared.modes.RunEnd.{RunEnd}
use Rattle.lcm_core.specs.declared.modes.RunEnd.TheVariants as ends
use Rattle.report_log.specs.declared.report.Report.{Report}
use Rattle.node_state.specs.declared.node.Node.{Node}
use Rattle.node_state.specs.declared.event.Event.{Event}
use Rattle.node_state.specs.declared.event.Event.TheVariants as events
use Rattle.node_state.specs.declared.event.Why.{Why}
use Rattle.node_state.specs.Slots.{Stages, StagesPart}
use Rattle.node_store.specs.declared.error.StoreError.{StoreError}
use Rattle.node_store.specs.declared.error.StoreError.TheVariants as errors
use Rattle.dsc_node.specs.declared.bringing.Unbrought.{Unbrought}
use Rattle.dsc_node.specs.declared.bringing.Unbrought.TheVariants.{Pull}
use Rattle.dsc_node.specs.declared.command.Command.{Command}
use Rattle.dsc_node.specs.declared.command.Command.TheVariants as commands
use Rattle.dsc_node.specs.declared.plan.Plan.{Plan}
use Rattle.dsc_node.specs.declared.status.Status.{Status}
use Rattle.dsc_node.specs.declared.status.Status.TheVariants as statuses
use Rattle.dsc_outside.specs.Link.{GoesOn, LinkView}
use Rattle.node_pull.proofs.GoingOn.{on_and_on, sends_goes_on, stays}
use Rattle.dsc_node.specs.Bringing.{Brought, events_of, status_of_pull, status_of_unbrought}
use Rattle.dsc_node.specs.Commands.{IsAllowed, IsPlanOf, waits, why_not}
use Rattle.dsc_node.specs.Commits.{RefusedAfter, all_of, broken_by}
use Rattle.dsc_node.specs.Runs.{Run, event_of}
use Rattle.dsc_node.specs.Sending.{Sends, Tried, all_sent, no_memory, not_sent, sent, unmarked, unprinted}
use Rattle.dsc_node.specs.Work.{Beside, Finish, Known, StartTable, clock_failed, finished, first_refused, no_run, not_allowed, not_brought, report_kept, report_refused, settled, unended, unready, waiting}
use Rattle.dsc_node.specs.Endings.{Ends}
use Rattle.dsc_node.specs.Headline.{AddsPackages, AllowsPull, IsPullFault, IsPullRefused}
use Rattle.dsc_node.proofs.Firsts.{command_adds, fault_error}
use Rattle.dsc_node.proofs.Sends.{sends_less}

-- the link shows what it showed before, and more
sends_on : (from : Node) (counts : ℕ × ℕ) (work : List Event) (node : Node) (asked heard : LinkView) (tried : Result (List Tried) StoreError) (committed : List Event) (broken : Option Event)
    → Sends from counts work node asked heard tried committed broken → GoesOn asked heard
sends_on from counts _ _ _ _ _ _ _ (all_sent work node view none) = stays view
sends_on from counts _ _ _ _ _ _ _ (not_sent work node asked heard next error is sends other) = sends_goes_on next.server next.agent next.report asked heard _ sends
sends_on from counts _ _ _ _ _ _ _ (no_memory work node asked heard next error is sends) = sends_goes_on next.server next.agent next.report asked heard _ sends
sends_on from counts _ _ _ _ _ _ _ (unmarked work node asked heard next error committed broken is sends refused) = sends_goes_on next.server next.agent next.report asked heard _ sends
sends_on from counts _ _ _ _ _ _ _ (unprinted work node marked_node asked heard next is sends step) = sends_goes_on next.server next.agent next.report asked heard _ sends
sends_on from counts _ _ _ _ _ _ _ (sent work node marked_node asked mid heard next later committed broken is sends step rest) =
    on_and_on asked mid heard (sends_goes_on next.server next.agent next.report asked mid _ sends) (sends_on from counts (work ++ events.Sent next.report.job ∷ []) marked_node mid heard later committed broken rest)

pub finish_goes_on : {D S C : Type 0} (o : Known D S C) (from : Node) (counts : ℕ × ℕ) (work : List Event) (node : Node) (stopped : Bool) (readings left : Option (List (Option ℕ))) (start : ℕ)
    (asked heard : LinkView) (before after : S) (status : Status) (lines : List ℕ) (run : Option Run) (committed : List Event) (broken : Option Event)
    → Finish o from counts work node stopped readings left start asked heard before after status lines run committed broken → GoesOn asked heard
finish_goes_on o from counts work node stopped readings left start asked heard before after status lines _ _ _ (no_run tried committed broken none idle taken sends ends) =
    sends_on from counts work node asked heard tried committed broken sends
finish_goes_on o from counts work node stopped readings left start asked heard before after status lines _ _ _ (unready idle taken unasked ends) = subst (λ (v : LinkView). GoesOn asked v) (sym unasked) (stays asked)
finish_goes_on o from counts work node stopped readings left start asked heard before after status lines _ _ _ (unended run ran taken unasked ends) = subst (λ (v : LinkView). GoesOn asked v) (sym unasked) (stays asked)
finish_goes_on o from counts work node stopped readings left start asked heard before after status lines _ _ _ (report_refused run report error text committed broken reported took unasked refused memory shown answers) =
    subst (λ (v : LinkView). GoesOn asked v) (sym unasked) (stays asked)
finish_goes_on o from counts work node stopped readings left start asked heard before after status lines _ _ _ (report_kept run report text noted tried committed broken reported took shown step sends ends) =
    sends_on from counts (work ++ event_of run.end run.choice.pending report ∷ []) noted asked heard tried committed broken sends

module _ (part : Part) where
  pub stages-append : (xs ys : List Event) → Stages (xs ++ ys) part → Stages xs part ⊎ Stages ys part
  stages-append [] ys s = inr s
  stages-append (x ∷ xs) ys (inl is) = inl (inl is)
  stages-append (x ∷ xs) ys (inr s) = ⊎_elim (λ a. inl (inr a)) (λ b. inr b) (stages-append xs ys s)

  grows : (xs rest : List Event) → Stages xs part → Stages (xs ++ rest) part
  grows [] rest s = absurd s
  grows (x ∷ xs) rest (inl is) = inl is
  grows (x ∷ xs) rest (inr s) = inr (grows xs rest s)

  pub stages-front : (front rest all : List Event) → all ≡ front ++ rest → Stages front part → Stages all part
  stages-front front rest all is s = subst (λ (w : List Event). Stages w part) (sym is) (grows front rest s)

  one_of : (b : Bool) (report : Report) → StagesPart (cond b (events.Promote report) (events.Note report)) part → ⊥
  one_of true report s = s
  one_of false report s = s

  run_stages : (end : RunEnd) (pending : Bool) (report : Report) → StagesPart (event_of end pending report) part → ⊥
  run_stages (ends.RebootAsked place) pending report s = s
  run_stages ends.Finished pending report s = one_of (pending && (report.missed == 0)) report s
  run_stages ends.Memory pending report s = s

  broken_stages : (committed : List Event) (event : Event) (error : StoreError) → Stages (all_of committed (broken_by event error)) part → Stages committed part ⊎ StagesPart event part
  broken_stages committed event errors.Disk s = ⊎_elim (λ a. inl a) (λ b. inr (one b)) (stages-append committed (event ∷ []) s) where
    one : Stages (event ∷ []) part → StagesPart event part
    one (inl is) = is
    one (inr none) = absurd none
  broken_stages committed event (errors.NotAStore at) s = inl s
  broken_stages committed event (errors.NotAllowed why) s = inl s
  broken_stages committed event errors.Memory s = inl s
  broken_stages committed event errors.Spent s = inl s

  refused_stages : (from : Node) (counts : ℕ × ℕ) (work : List Event) (event : Event) (error : StoreError) (committed : List Event) (broken : Option Event)
      → RefusedAfter from counts work event error committed broken → Stages (all_of committed broken) part → Stages work part ⊎ StagesPart event part
  refused_stages from counts work event error committed broken refused s =
      broken_stages work event error (subst (λ (w : List Event). Stages (all_of w (broken_by event error)) part) refused.committed_is (subst (λ (b : Option Event). Stages (all_of committed b) part) refused.broken_is s))

  sent_stages : (work : List Event) (job : ℕ) → Stages (work ++ events.Sent job ∷ []) part → Stages work part
  sent_stages work job s = ⊎_elim (λ a. a) none (stages-append work (events.Sent job ∷ []) s) where
    none : Stages (events.Sent job ∷ []) part → Stages work part
    none (inl is) = absurd is
    none (inr s) = absurd s

  finish_stages : {D S C : Type 0} (o : Known D S C) (from : Node) (counts : ℕ × ℕ) (work : List Event) (node : Node) (stopped : Bool) (readings left : Option (List (Option ℕ))) (start : ℕ)
      (asked heard : LinkView) (before after : S) (status : Status) (lines : List ℕ) (run : Option Run) (committed : List Event) (broken : Option Event)
      → Finish o from counts work node stopped readings left start asked heard before after status lines run committed broken → Stages (all_of committed broken) part → Stages work part
  finish_stages o from counts work node stopped readings left start asked heard before after status lines _ _ _ (no_run tried committed broken none idle taken sends ends) s =
      sends_less (λ w. Stages w part) sent_stages from counts work node asked heard tried committed broken sends s
  finish_stages o from counts work node stopped readings left start asked heard before after status lines _ _ _ (unready idle taken unasked ends) s = s
  finish_stages o from counts work node stopped readings left start asked heard before after status lines _ _ _ (unended run ran taken unasked ends) s = s
  finish_stages o from counts work node stopped readings left start asked heard before after status lines _ _ _ (report_refused run report error text committed broken reported took unasked refused memory shown answers) s =
      ⊎_elim (λ a. a) (λ is. absurd (run_stages run.end run.choice.pending report is)) (refused_stages from counts work (event_of run.end run.choice.pending report) error committed broken refused s)
  finish_stages o from counts work node stopped readings left start asked heard before after status lines _ _ _ (report_kept run report text noted tried committed broken reported took shown step sends ends) s =
      ⊎_elim (λ a. a) (λ b. absurd (last b)) (stages-append work (event_of run.end run.choice.pending report ∷ [])
      (sends_less (λ w. Stages w part) sent_stages from counts (work ++ event_of run.end run.choice.pending report ∷ []) noted asked heard tried committed broken sends s)) where
        last : Stages (event_of run.end run.choice.pending report ∷ []) part → ⊥
        last (inl is) = run_stages run.end run.choice.pending report is
        last (inr s) = s

  -- a start stages what was brought, and nothing else
  pub record StagesBrought {D S C : Type 0} (o : Known D S C) (plan : Plan) (node : Node) (before after : Beside S C) : Type 0 where
    pub start : ℕ
    pub heard : LinkView
    pub later : GoesOn heard after.link
    pub ready : S
    pub first : Option Event
    pub brought : Brought o.resources o.machine node plan.brings start before.link heard before.machine ready (Ok first)
    pub stages : Stages (events_of first) part

  pub work_stages : {D S C : Type 0} (o : Known D S C) (plan : Plan) (from : Node) (counts : ℕ × ℕ) (node : Node) (before after : Beside S C) (status : Status) (lines : List ℕ)
      (ready : S) (run : Option Run) (committed : List Event) (broken : Option Event)
      → StartTable o plan from counts [] node before after status lines ready run committed broken → Stages (all_of committed broken) part → StagesBrought o plan node before after
  work_stages o plan from counts node before after status lines _ _ _ _ (not_allowed why is idle ends) s = absurd s
  work_stages o plan from counts node before after status lines _ _ _ _ (waiting none is idle ends) s = absurd s
  work_stages o plan from counts node before after status lines _ _ _ _ (clock_failed allowed reads gave took rose machine link ends) s = absurd s
  work_stages o plan from counts node before after status lines _ _ _ _ (not_brought start error allowed reads brought ends) s = absurd s
  work_stages o plan from counts node before after status lines _ _ _ _ (first_refused start event error committed broken allowed reads brought refused ends) s =
      ⊎_elim (λ none. absurd none)
      (λ is. record { start = start; heard = after.link; later = stays after.link; ready = after.machine; first = Some event; brought = brought; stages = inl is })
      (refused_stages from counts [] event error committed broken refused s)
  work_stages o plan from counts node before after status lines _ _ _ _ (settled start first mid text allowed ends reads brought steps answers) s =
      record { start = start; heard = after.link; later = stays after.link; ready = after.machine; first = first; brought = brought; stages = s }
  work_stages o plan from counts node before after status lines _ _ _ _ (finished start readings heard ready first mid run committed broken allowed other gave took brought steps f) s =
      record {
        start = start;
        heard = heard;
        later = finish_goes_on o from counts (events_of first) mid _ readings _ start heard after.link ready after.machine status lines run committed broken f;
        ready = ready;
        first = first;
        brought = brought;
        stages = finish_stages o from counts (events_of first) mid _ readings _ start heard after.link ready after.machine status lines run committed broken f s;
      }

nothing_adds : {S : Type 0} (packages : S → Option (List Package)) (command : Command) (node : Node) (asked heard : LinkView) (status : Status) (before ready : S)
    → (command ≡ commands.Pull → IsPullRefused node status) → ready ≡ before → AddsPackages command node asked heard status (packages before) (packages ready)
nothing_adds packages commands.Pull node asked heard status before ready refused is = inl (refused refl, ap packages is)
nothing_adds packages _ node asked heard status before ready refused is = ap packages is

ends_fault : (wanted status : Status) (text lines : List ℕ) → IsPullFault wanted → Ends wanted text status lines → IsPullFault status
ends_fault wanted status text lines fault ends = subst IsPullFault (sym ends.0) fault

-- a plan that is refused, or that waits, is not allowed
not_of : (node : Node) (plan : Plan) (why : Why) → why_not node plan.needs ≡ Some why → IsAllowed node plan → ⊥
not_of node plan why is allowed = absurd (none-some why (sym allowed.allowed ∙ is))

not_ready : (node : Node) (plan : Plan) → waits node plan ≡ true → IsAllowed node plan → ⊥
not_ready node plan is allowed = absurd (cc (is, allowed.ready))

as_pull : (node : Node) (command : Command) (plan : Plan) → IsPlanOf command plan → command ≡ commands.Pull → (IsAllowed node plan → ⊥) → AllowsPull node → ⊥
as_pull node command plan is pull none = subst (λ (p : Plan). IsAllowed node p → ⊥) (subst (λ (c : Command). IsPlanOf c plan) pull is) none

same_error : (one other : Unbrought) → (let x : Result (Option Event) Unbrought = Err one in x) ≡ Err other → one ≡ other
same_error one other is = cc is

-- what a start adds to a machine's packages before its run
pub work_adds : {D S C : Type 0} (o : Known D S C) (command : Command) (plan : Plan) → IsPlanOf command plan → (from : Node) (counts : ℕ × ℕ) (work : List Event) (node : Node)
    (before after : Beside S C) (status : Status) (lines : List ℕ) (ready : S) (run : Option Run) (committed : List Event) (broken : Option Event)
    → StartTable o plan from counts work node before after status lines ready run committed broken
    → AddsPackages command node before.link after.link status (o.machine.packages before.machine) (o.machine.packages ready)
work_adds o command plan is from counts work node before after status lines _ _ _ _ (not_allowed why why_is idle ends) =
    nothing_adds o.machine.packages command node before.link after.link status before.machine before.machine (λ pull. inl (as_pull node command plan is pull (not_of node plan why why_is))) refl
work_adds o command plan is from counts work node before after status lines _ _ _ _ (waiting none waits_is idle ends) =
    nothing_adds o.machine.packages command node before.link after.link status before.machine before.machine (λ pull. inl (as_pull node command plan is pull (not_ready node plan waits_is))) refl
work_adds o command plan is from counts work node before after status lines _ _ _ _ (clock_failed allowed reads gave took rose machine link ends) =
    nothing_adds o.machine.packages command node before.link after.link status before.machine before.machine (λ pull. inr (ends_fault statuses.ClockFault status [] lines tt ends)) refl
work_adds o command plan is from counts work node before after status lines _ _ _ _ (not_brought start error allowed reads brought ends) =
    command_adds o.resources o.machine node start before.link after.link after.link (stays after.link) before.machine after.machine (Err error) status
    (λ other same. ends_fault (status_of_pull other) status [] lines (fault_error other) (subst (λ (e : Unbrought). Ends (status_of_unbrought e) [] status lines) (same_error error (Pull other) same) ends))
    command plan is allowed brought
work_adds o command plan is from counts work node before after status lines _ _ _ _ (first_refused start event error committed broken allowed reads brought refused ends) =
    command_adds o.resources o.machine node start before.link after.link after.link (stays after.link) before.machine after.machine (Ok (Some event)) status (λ other same. absurd (cc same)) command plan is allowed brought
work_adds o command plan is from counts work node before after status lines _ _ _ _ (settled start first mid text allowed ends reads brought steps answers) =
    command_adds o.resources o.machine node start before.link after.link after.link (stays after.link) before.machine after.machine (Ok first) status (λ other same. absurd (cc same)) command plan is allowed brought
work_adds o command plan is from counts work node before after status lines _ _ _ _ (finished start readings heard ready first mid run committed broken allowed other gave took brought steps f) =
    command_adds o.resources o.machine node start before.link heard after.link
    (finish_goes_on o from counts (work ++ events_of first) mid _ readings _ start heard after.link ready after.machine status lines run committed broken f) before.machine ready (Ok first) status
    (λ other same. absurd (cc same)) command plan is allowed brought
