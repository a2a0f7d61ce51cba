-- A commit that answered Disk: the disk's count rose, and the start ended so.
use Rattle.std.proofs.Common.{◌≡◌, ◌⊎◌, inl, inr, ℕ, Bool, List, [], ◌∷◌, ◌++◌, Option, None, Result, Err, true, refl, ap, subst}
use Rattle.std.specs.Prelude.{codes}
use Rattle.dsc_terms.specs.Counts.{Rose}
use Rattle.node_state.specs.declared.node.Node.{Node}
use Rattle.node_state.specs.declared.event.Event.{Event}
use Rattle.node_state.specs.declared.event.Event.TheVariants as events
use Rattle.node_store.specs.declared.error.StoreError.{StoreError}
use Rattle.node_store.specs.declared.error.StoreError.TheVariants as errors
use Rattle.dsc_outside.specs.Link.{LinkView}
use Rattle.dsc_node.specs.declared.plan.Plan.{Plan}
use Rattle.dsc_node.specs.declared.status.Status.{Status}
use Rattle.dsc_node.specs.declared.status.Status.TheVariants as statuses
use Rattle.dsc_node.specs.Commits.{RefusedAfter}
use Rattle.dsc_node.specs.Endings.{Answers, status_of}
use Rattle.dsc_node.specs.Headline.{EndsBroken}
use Rattle.dsc_node.specs.Runs.{Run, end_line, event_of, status_after}
use Rattle.dsc_node.specs.Sending.{EndsAfterSending, Sends, Tried, all_sent, before_later, no_memory, not_sent, sent, unmarked, unprinted}
use Rattle.dsc_node.specs.Work.{Beside, Finish, Known, StartTable, clock_failed, finished, first_refused, no_run, not_allowed, not_brought, report_kept, report_refused, settled, unended, unready, waiting}

-- an error whose event may be there after a crash
abbrev MayBeThere : ℕ × ℕ → Option Event → StoreError → Type 0
MayBeThere counts broken error = (broken ≡ None) ⊎ (Rose counts.0 counts.1 × (error ≡ errors.Disk))

refused_broken : (from : Node) (counts : ℕ × ℕ) (work : List Event) (event : Event) (error : StoreError) (committed : List Event) (broken : Option Event)
    → RefusedAfter from counts work event error committed broken → MayBeThere counts broken error
refused_broken from counts work event errors.Disk committed broken refused = inr (refused.cause.1, refl)
refused_broken from counts work event (errors.NotAStore at) committed broken refused = inl refused.broken_is
refused_broken from counts work event (errors.NotAllowed why) committed broken refused = inl refused.broken_is
refused_broken from counts work event errors.Memory committed broken refused = inl refused.broken_is
refused_broken from counts work event errors.Spent committed broken refused = inl refused.broken_is

-- ---- sending

abbrev MaySend : ℕ × ℕ → Option Event → Result (List Tried) StoreError → Type 0
MaySend counts broken tried = (broken ≡ None) ⊎ (Rose counts.0 counts.1 × (tried ≡ Err errors.Disk))

later_broken : (counts : ℕ × ℕ) (broken : Option Event) (tried : Tried) (later : Result (List Tried) StoreError) → MaySend counts broken later → MaySend counts broken (before_later tried later)
later_broken counts broken tried later (inl none) = inl none
later_broken counts broken tried later (inr (rose, is)) = inr (rose, ap (λ (l : Result (List Tried) StoreError). before_later tried l) is)

of_error : (counts : ℕ × ℕ) (broken : Option Event) (error : StoreError) → MayBeThere counts broken error → MaySend counts broken (Err error)
of_error counts broken error (inl none) = inl none
of_error counts broken error (inr (rose, is)) = inr (rose, ap (λ (e : StoreError). Err e) is)

sends_broken : (from : Node) (counts : ℕ × ℕ) (work : List Event) (node : Node) (asked heard : LinkView) (tried : Result (List Tried) StoreError) (committed : List Event) (broken : Option Event)
    → Sends from counts work node asked heard tried committed broken → MaySend counts broken tried
sends_broken from counts _ _ _ _ _ _ _ (all_sent work node view none) = inl refl
sends_broken from counts _ _ _ _ _ _ _ (not_sent work node asked heard next error is sends other) = inl refl
sends_broken from counts _ _ _ _ _ _ _ (no_memory work node asked heard next error is sends) = inl refl
sends_broken from counts _ _ _ _ _ _ _ (unmarked work node asked heard next error committed broken is sends refused) =
    of_error counts broken error (refused_broken from counts work (events.Sent next.report.job) error committed broken refused)
sends_broken from counts _ _ _ _ _ _ _ (unprinted work node marked_node asked heard next is sends step) = inl refl
sends_broken from counts _ _ _ _ _ _ _ (sent work node marked_node asked mid heard next later committed broken is sends step rest) =
    later_broken counts broken (record { job = next.report.job; sent = true }) later
    (sends_broken from counts (work ++ events.Sent next.report.job ∷ []) marked_node mid heard later committed broken rest)

-- ---- the table

abbrev MayEnd : ℕ × ℕ → Option Event → Status → Type 0
MayEnd counts broken status = (broken ≡ None) ⊎ (Rose counts.0 counts.1 × EndsBroken status)

answers_fault : (text : List ℕ) (status : Status) (lines : List ℕ) → Answers statuses.DiskFault text status lines → EndsBroken status
answers_fault text status lines (inl ends) = inl ends.0
answers_fault text status lines (inr memory) = inr memory.0

answers_broken : (error : StoreError) (text : List ℕ) (status : Status) (lines : List ℕ) → error ≡ errors.Disk → Answers (status_of error) text status lines → EndsBroken status
answers_broken error text status lines is answers = answers_fault text status lines (subst (λ (e : StoreError). Answers (status_of e) text status lines) is answers)

ends_sending : (wanted : Status) (text end : List ℕ) (tried : Result (List Tried) StoreError) (status : Status) (lines : List ℕ) → tried ≡ Err errors.Disk
    → EndsAfterSending wanted text end tried status lines → EndsBroken status
ends_sending wanted text end tried status lines is ends =
    answers_fault text status lines (subst (λ (t : Result (List Tried) StoreError). EndsAfterSending wanted text end t status lines) is ends)

sent_ends : (counts : ℕ × ℕ) (broken : Option Event) (wanted : Status) (text end : List ℕ) (tried : Result (List Tried) StoreError) (status : Status) (lines : List ℕ) → MaySend counts broken tried
    → EndsAfterSending wanted text end tried status lines → MayEnd counts broken status
sent_ends counts broken wanted text end tried status lines (inl none) ends = inl none
sent_ends counts broken wanted text end tried status lines (inr (rose, is)) ends = inr (rose, ends_sending wanted text end tried status lines is ends)

refused_ends : (counts : ℕ × ℕ) (broken : Option Event) (error : StoreError) (text : List ℕ) (status : Status) (lines : List ℕ) → MayBeThere counts broken error → Answers (status_of error) text status lines
    → MayEnd counts broken status
refused_ends counts broken error text status lines (inl none) answers = inl none
refused_ends counts broken error text status lines (inr (rose, is)) answers = inr (rose, answers_broken error text status lines is answers)

finish_unbroken : {D S C : Type 0} (o : Known D S C) (from : Node) (counts : ℕ × ℕ) (work : List Event) (node : Node) (stopped : Bool) (readings left : Option (List (Option ℕ))) (start : ℕ)
    (asked heard : LinkView) (before after : S) (status : Status) (lines : List ℕ) (run : Option Run) (committed : List Event) (broken : Option Event)
    → Finish o from counts work node stopped readings left start asked heard before after status lines run committed broken → MayEnd counts broken status
finish_unbroken o from counts work node stopped readings left start asked heard before after status lines _ _ _ (no_run tried committed broken none idle taken sends ends) =
    sent_ends counts broken statuses.Done [] (codes "end nothing\n") tried status lines (sends_broken from counts work node asked heard tried committed broken sends) ends
finish_unbroken o from counts work node stopped readings left start asked heard before after status lines _ _ _ (unready idle taken unasked ends) = inl refl
finish_unbroken o from counts work node stopped readings left start asked heard before after status lines _ _ _ (unended run ran taken unasked ends) = inl refl
finish_unbroken o from counts work node stopped readings left start asked heard before after status lines _ _ _ (report_refused run report error text committed broken reported took unasked refused memory shown answers) =
    refused_ends counts broken error text status lines (refused_broken from counts work (event_of run.end run.choice.pending report) error committed broken refused) answers
finish_unbroken o from counts work node stopped readings left start asked heard before after status lines _ _ _ (report_kept run report text noted tried committed broken reported took shown step sends ends) =
    sent_ends counts broken (status_after node.meta.reboot_if_needed run.end report.missed) text (end_line run.end run.choice.pending report.missed) tried status lines
    (sends_broken from counts (work ++ event_of run.end run.choice.pending report ∷ []) noted asked heard tried committed broken sends) ends

pub work_unbroken : {D S C : Type 0} (o : Known D S C) (plan : Plan) (from : Node) (counts : ℕ × ℕ) (work : List Event) (node : Node) (before after : Beside S C) (status : Status) (lines : List ℕ)
    (ready : S) (run : Option Run) (committed : List Event) (broken : Option Event)
    → StartTable o plan from counts work node before after status lines ready run committed broken → (broken ≡ None) ⊎ (Rose counts.0 counts.1 × EndsBroken status)
work_unbroken o plan from counts work node before after status lines _ _ _ _ (not_allowed why is idle ends) = inl refl
work_unbroken o plan from counts work node before after status lines _ _ _ _ (waiting none is idle ends) = inl refl
work_unbroken o plan from counts work node before after status lines _ _ _ _ (clock_failed allowed reads gave took rose machine link ends) = inl refl
work_unbroken o plan from counts work node before after status lines _ _ _ _ (not_brought start error allowed reads brought ends) = inl refl
work_unbroken o plan from counts work node before after status lines _ _ _ _ (first_refused start event error committed broken allowed reads brought refused ends) =
    refused_ends counts broken error [] status lines (refused_broken from counts work event error committed broken refused) (inl ends)
work_unbroken o plan from counts work node before after status lines _ _ _ _ (settled start first mid text allowed ends reads brought steps answers) = inl refl
work_unbroken o plan from counts work node before after status lines _ _ _ _ (finished start readings heard ready first mid run committed broken allowed other gave took brought steps f) =
    finish_unbroken o from counts _ mid _ readings _ start heard after.link ready after.machine status lines run committed broken f
