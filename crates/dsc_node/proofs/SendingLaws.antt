-- The sending of reports as a table over a list.
use Rattle.std.proofs.Common.{◌≡◌, inl, inr, ℕ, suc, ◌<◌, ◌==◌, ◌&&◌, ◌||◌, Bool, true, false, true≢false, cond, List, [], ◌∷◌, ◌++◌, get_or, length, map, Option, Some, None, Result, Ok, Err, refl, sym, ap, subst, ◌∙◌, arith, append_assoc, append-nil}
use Rattle.std.specs.Prelude.{AllPairs, IsSome}
use Rattle.std.proofs.lemmas.Bool.{and_parts}
use Rattle.std.proofs.lemmas.Bool.Decides.{nat_tests}
use Rattle.std.proofs.lemmas.Option.{none-some}
use Rattle.meta_config.specs.declared.server.Server.{Server}
use Rattle.report_log.specs.declared.report.Report.{Report}
use Rattle.node_state.specs.declared.node.Kept.{Kept}
use Rattle.node_state.specs.declared.node.Node.{Node}
use Rattle.node_state.specs.declared.event.Event.{Event}
use Rattle.node_state.specs.Sound.{Sound}
use Rattle.node_state.specs.Table.{after, marked}
use Rattle.node_state.proofs.SoundSteps.{steps_are_sound}
use Rattle.node_store.specs.declared.error.StoreError.{StoreError}
use Rattle.pull_client.specs.declared.error.PeerError.{PeerError}
use Rattle.node_pull.specs.Reporting.{SendsReport}
use Rattle.dsc_outside.specs.Link.{LinkView}
use Rattle.dsc_node.specs.Sending.{Sends, ToSend, Tried, all_sent, before_later, first_unsent, no_memory, not_sent, sent, to_send, to_send_by, unmarked, unprinted}
use Rattle.dsc_node.specs.SendingLaws.{AreSentInOrder, AreMarkedInOrder, NodeSends, ReportsAreMarkedInOrder, ReportsAreSentInOrder, accepted_of, due, sent_event, unsent_reports}

-- ---- what is to be sent is the first that is due

abbrev Rises : Kept → Kept → Type 0
Rises earlier later = earlier.report.job < later.report.job

same_number : (a b : ℕ) → a ≡ b → (a == b) ≡ true
same_number a b same = grind (arith, nat_tests)

other_number : (a b : ℕ) → b < a → (a == b) ≡ false
other_number a b before = grind (arith, nat_tests)

-- marking a job leaves the reports of later jobs as they were
later_unsent : (job : ℕ) (reports : List Kept) → ((i : ℕ) (d : Kept) → i < length reports → job < (get_or reports i d).report.job)
    → unsent_reports (map (marked job) reports) ≡ unsent_reports reports
later_unsent job [] later = refl
later_unsent job (kept ∷ reports) later =
    here kept.sent (kept.report.job == job) (other_number kept.report.job job (later 0 kept (omega arith)))
    (later_unsent job reports (λ i d within. later (suc i) d (omega (arith, within))))
  where
    here : (was_sent is_job : Bool) → is_job ≡ false → unsent_reports (map (marked job) reports) ≡ unsent_reports reports
        → cond (was_sent || is_job) (unsent_reports (map (marked job) reports)) (kept.report ∷ unsent_reports (map (marked job) reports))
        ≡ cond was_sent (unsent_reports reports) (kept.report ∷ unsent_reports reports)
    here was_sent true is same = absurd (true≢false is)
    here true false is same = same
    here false false is same = ap (λ l. kept.report ∷ l) same

-- the first unsent report is the first of the list, and marking it leaves the others
first_is : (reports : List Kept) (report : Report) → AllPairs Rises reports → first_unsent reports ≡ Some report
    → unsent_reports reports ≡ report ∷ unsent_reports (map (marked report.job) reports)
first_is [] report rise is = absurd (none-some report is)
first_is (kept ∷ reports) report rise is =
    here kept.sent (first_is reports report (λ i j d before within. rise (suc i) (suc j) d (omega (arith, before)) (omega (arith, within)))) is
  where
    after_it : kept.report ≡ report → unsent_reports reports ≡ unsent_reports (map (marked report.job) reports)
    after_it same = sym (later_unsent report.job reports (λ i d within. subst (λ (r : Report). r.job < (get_or reports i d).report.job) same
        (rise 0 (suc i) d (omega arith) (omega (arith, within)))))

    here : (was_sent : Bool) → (first_unsent reports ≡ Some report → unsent_reports reports ≡ report ∷ unsent_reports (map (marked report.job) reports))
        → cond was_sent (first_unsent reports) (Some kept.report) ≡ Some report
        → cond was_sent (unsent_reports reports) (kept.report ∷ unsent_reports reports)
        ≡ report ∷ cond (was_sent || (kept.report.job == report.job)) (unsent_reports (map (marked report.job) reports)) (kept.report ∷ unsent_reports (map (marked report.job) reports))
    here true later is = later is
    here false later is =
        let same : kept.report ≡ report = cc is in
        let rest = after_it same
        ∙ sym (ap (λ b. cond b (unsent_reports (map (marked report.job) reports)) (kept.report ∷ unsent_reports (map (marked report.job) reports)))
        (same_number kept.report.job report.job (ap (λ (r : Report). r.job) same))) in
        (λ i. same i ∷ rest i)

none_unsent : (reports : List Kept) → first_unsent reports ≡ None → unsent_reports reports ≡ []
none_unsent [] none = refl
none_unsent (kept ∷ reports) none = here kept.sent (none_unsent reports) none
  where
    here : (was_sent : Bool) → (first_unsent reports ≡ None → unsent_reports reports ≡ []) → cond was_sent (first_unsent reports) (Some kept.report) ≡ None
        → cond was_sent (unsent_reports reports) (kept.report ∷ unsent_reports reports) ≡ []
    here true later none = later none
    here false later none = absurd (none-some kept.report (sym none))

-- what is known of a node that has a report to send
record HasToSend (node : Node) (next : ToSend) : Type 0 where
  sends : (node.meta.reports && node.registered) ≡ true
  server : node.meta.server ≡ Some next.server
  agent : node.agent ≡ Some next.agent
  first : first_unsent node.reports ≡ Some next.report

by_parts : (server : Option Server) (agent : Option ℕ) (report : Option Report) (next : ToSend) → to_send_by server agent report ≡ Some next
    → (server ≡ Some next.server) × (agent ≡ Some next.agent) × (report ≡ Some next.report)
by_parts None agent report next is = absurd (none-some next is)
by_parts (Some server) None report next is = absurd (none-some next is)
by_parts (Some server) (Some agent) None next is = absurd (none-some next is)
by_parts (Some server) (Some agent) (Some report) next is =
    let both : record { server = server; agent = agent; report = report } ≡ next = cc is in
    (ap (λ (n : ToSend). Some n.server) both, ap (λ (n : ToSend). Some n.agent) both, ap (λ (n : ToSend). Some n.report) both)

has_to_send : (node : Node) (next : ToSend) → to_send node ≡ Some next → HasToSend node next
has_to_send node next is = here (node.meta.reports && node.registered) refl is
  where
    here : (sends : Bool) → (node.meta.reports && node.registered) ≡ sends
        → cond sends (to_send_by node.meta.server node.agent (first_unsent node.reports)) None ≡ Some next → HasToSend node next
    here false sends is = absurd (none-some next is)
    here true sends is =
        let parts = by_parts node.meta.server node.agent (first_unsent node.reports) next is in
        record { sends = sends; server = parts.0; agent = parts.1; first = parts.2 }

-- it is the first that is due, and the others are due after it is marked
due_first : (node : Node) (next : ToSend) → Sound node → to_send node ≡ Some next
    → due node ≡ next.report ∷ due (after node (sent_event next.report))
due_first node next sound is =
    let has = has_to_send node next is in
    ap (λ b. cond b (unsent_reports node.reports) []) has.sends
    ∙ first_is node.reports next.report sound.reports.rise has.first
    ∙ ap (λ b. next.report ∷ cond b (unsent_reports (map (marked next.report.job) node.reports)) []) (sym has.sends)

none_due : (node : Node) → Sound node → to_send node ≡ None → due node ≡ []
none_due node sound none = here (node.meta.reports && node.registered) refl none
  where
    has_agent : (agent : Option ℕ) → node.agent ≡ agent → node.registered ≡ true → IsSome agent
    has_agent None is registered = absurd (true≢false (sym registered ∙ (sound.bare is).registered))
    has_agent (Some agent) is registered = refl

    by_none : (server : Option Server) (agent : Option ℕ) (report : Option Report) → IsSome server → IsSome agent → to_send_by server agent report ≡ None → report ≡ None
    by_none None agent report server there none = absurd (true≢false (sym server))
    by_none (Some server) None report there agent none = absurd (true≢false (sym agent))
    by_none (Some server) (Some agent) None there also none = refl
    by_none (Some server) (Some agent) (Some report) there also none = absurd (none-some (record { server = server; agent = agent; report = report }) (sym none))

    here : (sends : Bool) → (node.meta.reports && node.registered) ≡ sends → cond sends (to_send_by node.meta.server node.agent (first_unsent node.reports)) None ≡ None
        → cond sends (unsent_reports node.reports) [] ≡ []
    here false sends none = refl
    here true sends none =
        let registered = (and_parts node.meta.reports node.registered sends).1 in
        none_unsent node.reports
        (by_none node.meta.server node.agent (first_unsent node.reports) (sound.server registered) (has_agent node.agent refl registered) none)

-- ---- the list

-- the node's server was sent what is to be sent
sends_next : (node : Node) (next : ToSend) (asked heard : LinkView) (result : Result (Unit {0}) PeerError) → to_send node ≡ Some next
    → SendsReport next.server next.agent next.report asked heard result → NodeSends node next.report asked heard result
sends_next node next asked heard result is sends =
    let has = has_to_send node next is in
    (next.server, next.agent, has.server, has.agent, sends)

-- the list, however the sending ends
abbrev IsSentInOrder : Node → List Event → LinkView → LinkView → Result (List Tried) StoreError → List Event → Option Event → Type 0
IsSentInOrder node work asked heard (Ok tried) committed broken = AreSentInOrder node work asked heard tried committed × (broken ≡ None)
IsSentInOrder node work asked heard (Err error) committed broken = AreMarkedInOrder node work asked heard error committed broken

accepted_first : (node : Node) (work committed : List Event) (asked mid heard : LinkView) (next : ToSend) (later : Result (List Tried) StoreError) (broken : Option Event)
    → Sound node → to_send node ≡ Some next → NodeSends node next.report asked mid (Ok tt)
    → IsSentInOrder (after node (sent_event next.report)) (work ++ sent_event next.report ∷ []) mid heard later committed broken
    → IsSentInOrder node work asked heard (before_later (accepted_of next.report) later) committed broken
accepted_first node work committed asked mid heard next (Err error) broken sound is sends later =
    record {
      front = next.report ∷ later.front;
      rest = later.rest;
      divided = due_first node next sound is ∙ ap (λ l. next.report ∷ l) later.divided;
      mid = later.mid;
      accepted = (mid, sends, later.accepted);
      committed_is = later.committed_is ∙ append_assoc work (sent_event next.report ∷ []) (map sent_event later.front);
      ended = later.ended;
    }
accepted_first node work committed asked mid heard next (Ok tried) broken sound is sends later = (
  record {
    front = next.report ∷ later.0.front;
    rest = later.0.rest;
    divided = due_first node next sound is ∙ ap (λ l. next.report ∷ l) later.0.divided;
    mid = later.0.mid;
    accepted = (mid, sends, later.0.accepted);
    last = later.0.last;
    stopped = later.0.stopped;
    tried_is = ap (λ l. accepted_of next.report ∷ l) later.0.tried_is;
    committed_is = later.0.committed_is ∙ append_assoc work (sent_event next.report ∷ []) (map sent_event later.0.front);
  },
  later.1,
)

sent_in_order : (from : Node) (counts : ℕ × ℕ) (node : Node) (work committed : List Event) (asked heard : LinkView) (tried : Result (List Tried) StoreError) (broken : Option Event)
    → Sound node → Sends from counts work node asked heard tried committed broken → IsSentInOrder node work asked heard tried committed broken
sent_in_order from counts node work committed asked heard tried broken sound (all_sent w n view none) =
    (record { front = []; rest = []; divided = none_due node sound none; mid = asked; accepted = refl; last = []; stopped = (refl, refl); tried_is = refl; committed_is = sym (append-nil work) }, refl)
sent_in_order from counts node work committed asked heard tried broken sound (not_sent w n a h next error is sends other) = (
  record {
    front = [];
    rest = next.report ∷ due (after node (sent_event next.report));
    divided = due_first node next sound is;
    mid = asked;
    accepted = refl;
    last = record { job = next.report.job; sent = false } ∷ [];
    stopped = (error, sends_next node next asked heard (Err error) is sends, other, refl);
    tried_is = refl;
    committed_is = sym (append-nil work);
  },
  refl,
)
sent_in_order from counts node work committed asked heard tried broken sound (no_memory w n a h next error is sends) =
    record {
      front = [];
      rest = next.report ∷ due (after node (sent_event next.report));
      divided = due_first node next sound is;
      mid = asked;
      accepted = refl;
      committed_is = sym (append-nil work);
      ended = inl (refl, refl, inr (next.report, due (after node (sent_event next.report)), error, refl, sends_next node next asked heard (Err error) is sends));
    }
sent_in_order from counts node work committed asked heard tried broken sound (unmarked w n a h next error c b is sends refused) =
    record {
      front = [];
      rest = next.report ∷ due (after node (sent_event next.report));
      divided = due_first node next sound is;
      mid = asked;
      accepted = refl;
      committed_is = refused.committed_is ∙ sym (append-nil work);
      ended = inr (next.report, due (after node (sent_event next.report)), refl, sends_next node next asked heard (Ok tt) is sends, refused.broken_is);
    }
sent_in_order from counts node work committed asked heard tried broken sound (unprinted w n new a h next is sends step) =
    record {
      front = next.report ∷ [];
      rest = due (after node (sent_event next.report));
      divided = due_first node next sound is;
      mid = heard;
      accepted = (heard, sends_next node next asked heard (Ok tt) is sends, refl);
      committed_is = refl;
      ended = inl (refl, refl, inl refl);
    }
sent_in_order from counts node work committed asked heard tried broken sound (sent w n new a mid h next later c b is sends step on) =
    accepted_first node work committed asked mid heard next later broken sound is (sends_next node next asked mid (Ok tt) is sends)
    (subst (λ (m : Node). IsSentInOrder m (work ++ sent_event next.report ∷ []) mid heard later committed broken) step.is
    (sent_in_order from counts new (work ++ sent_event next.report ∷ []) committed mid heard later broken (steps_are_sound node (sent_event next.report) new sound step) on))

pub reports_are_sent_in_order : ReportsAreSentInOrder
reports_are_sent_in_order from node counts work committed asked heard tried broken sound sends = sent_in_order from counts node work committed asked heard (Ok tried) broken sound sends

pub reports_are_marked_in_order : ReportsAreMarkedInOrder
reports_are_marked_in_order from node counts work committed asked heard error broken sound sends = sent_in_order from counts node work committed asked heard (Err error) broken sound sends
