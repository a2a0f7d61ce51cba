-- The sending of reports: what it leaves of a node, and what each exit of it says.
use Rattle.std.proofs.Common.{◌≡◌, ℕ, ◌<◌, ◌≤◌, ◌+◌, ◌==◌, ◌&&◌, ◌||◌, Bool, true, false, cond, List, [], ◌∷◌, ◌++◌, map, Option, Some, None, Result, Ok, Err, refl, sym, ap, subst, ◌∙◌, arith, append_assoc, eq-eqb}
use Rattle.std.specs.Prelude.{All}
use Rattle.std.proofs.lemmas.List.Elements.{All-head, All-tail}
use Rattle.std.proofs.lemmas.Option.{none-some}
use Rattle.meta_config.specs.declared.server.Server.{Server}
use Rattle.report_log.specs.declared.report.Report.{Report}
use Rattle.report_log.specs.Sizes.{ReportInSize}
use Rattle.node_state.specs.declared.node.Kept.{Kept}
use Rattle.node_state.specs.declared.node.Node.{Node}
use Rattle.node_state.specs.declared.event.Event.{Event}
use Rattle.node_state.specs.declared.event.Event.TheVariants as events
use Rattle.node_state.specs.Sound.{Sound}
use Rattle.node_state.specs.Table.{Step, Steps, marked}
use Rattle.node_store.specs.declared.error.StoreError.{StoreError}
use Rattle.node_store.specs.declared.error.StoreError.TheVariants as errors
use Rattle.dsc_outside.specs.Link.{LinkView}
use Rattle.dsc_node.specs.Commits.{RefusedAfter, all_of, broken_by}
use Rattle.dsc_node.specs.Sending.{PrintsTried, Sends, ToSend, Tried, all_sent, before_later, first_unsent, no_memory, not_sent, sent, to_send, to_send_by, tried_line, tried_text, unmarked, unprinted, unsent_among, unsent_count}

-- ---- what is to be sent

by_some : (server : Option Server) (agent : Option ℕ) (report : Option Report) (next : ToSend) → to_send_by server agent report ≡ Some next → report ≡ Some next.report
by_some None agent report next is = absurd (none-some next is)
by_some (Some server) None report next is = absurd (none-some next is)
by_some (Some server) (Some agent) None next is = absurd (none-some next is)
by_some (Some server) (Some agent) (Some report) next is = ap (λ (n : ToSend). Some n.report) (let both : record { server = server; agent = agent; report = report } ≡ next = cc is in both)

sends_first : (b : Bool) (node : Node) (next : ToSend) → cond b (to_send_by node.meta.server node.agent (first_unsent node.reports)) None ≡ Some next → first_unsent node.reports ≡ Some next.report
sends_first true node next is = by_some node.meta.server node.agent (first_unsent node.reports) next is
sends_first false node next is = absurd (none-some next is)

-- it is the first report that was not sent
pub is_first : (node : Node) (next : ToSend) → to_send node ≡ Some next → first_unsent node.reports ≡ Some next.report
is_first node next is = sends_first (node.meta.reports && node.registered) node next is

unsent_in : (P : Report → Type 0) (reports : List Kept) (report : Report) → All (λ kept. P kept.report) reports → first_unsent reports ≡ Some report → P report
unsent_in P [] report all is = absurd (none-some report is)
unsent_in P (kept ∷ reports) report all is = here kept.sent (λ later. unsent_in P reports report (All-tail (λ k. P k.report) kept reports all) later) is where
  here : (was_sent : Bool) → (first_unsent reports ≡ Some report → P report) → cond was_sent (first_unsent reports) (Some kept.report) ≡ Some report → P report
  here false on same = subst (λ (r : Report). P r) (let it : kept.report ≡ report = cc same in it) (All-head (λ k. P k.report) kept reports all)
  here true on later = on later

pub next_in_size : (node : Node) (next : ToSend) → Sound node → to_send node ≡ Some next → ReportInSize next.report
next_in_size node next sound is = unsent_in ReportInSize node.reports next.report sound.reports.sizes (is_first node next is)

-- ---- fewer are left

left_le : (job : ℕ) (reports : List Kept) → unsent_among (map (marked job) reports) ≤ unsent_among reports
left_le job [] = omega arith
left_le job (kept ∷ reports) = more kept.sent (kept.report.job == job) (left_le job reports) where
  more : (was_sent is_job : Bool) → unsent_among (map (marked job) reports) ≤ unsent_among reports
      → cond (was_sent || is_job) (unsent_among (map (marked job) reports)) (unsent_among (map (marked job) reports) + 1) ≤ cond was_sent (unsent_among reports) (unsent_among reports + 1)
  more true is_job le = le
  more false true le = omega (arith, le)
  more false false le = omega (arith, le)

left_falls : (reports : List Kept) (report : Report) → first_unsent reports ≡ Some report → unsent_among (map (marked report.job) reports) < unsent_among reports
left_falls [] report is = absurd (none-some report is)
left_falls (kept ∷ reports) report is = falls kept.sent (λ later. left_falls reports report later) is where
  falls : (was_sent : Bool) → (first_unsent reports ≡ Some report → unsent_among (map (marked report.job) reports) < unsent_among reports)
      → cond was_sent (first_unsent reports) (Some kept.report) ≡ Some report
      → cond (was_sent || (kept.report.job == report.job)) (unsent_among (map (marked report.job) reports)) (unsent_among (map (marked report.job) reports) + 1)
      < cond was_sent (unsent_among reports) (unsent_among reports + 1)
  falls true on later = on later
  falls false on here =
      let same : kept.report ≡ report = cc here in
      rw (eq-eqb kept.report.job report.job (ap (λ (r : Report). r.job) same)) (omega (arith, left_le report.job reports))

-- after a report was marked as sent fewer are left
pub fewer_left : (node marked_node : Node) (next : ToSend) → to_send node ≡ Some next → Step node (events.Sent next.report.job) marked_node → unsent_count marked_node < unsent_count node
fewer_left node marked_node next is step =
    let less = left_falls node.reports next.report (is_first node next is) in
    subst (λ (n : Node). unsent_count n < unsent_count node) (sym step.is) less

-- ---- what is printed

pub prints_later : {T : Type 0} (tried : Tried) (later : Result (List Tried) StoreError) (result : Result T StoreError) (old mid new : List ℕ) → mid ≡ old ++ tried_line tried
    → PrintsTried later result mid new → PrintsTried (before_later tried later) result old new
prints_later tried (Ok more) (Ok v) old mid new line is = is ∙ ap (λ (m : List ℕ). m ++ tried_text more) line ∙ append_assoc old (tried_line tried) (tried_text more)
prints_later tried (Ok more) (Err error) old mid new line is = is
prints_later tried (Err error) (Ok v) old mid new line is = is
prints_later tried (Err error) (Err other) old mid new line is = is

-- ---- what it leaves

steps-split : (old new : Node) (front rest : List Event) → Steps old (front ++ rest) new → (mid : Node) × Steps old front mid × Steps mid rest new
steps-split old new [] rest steps = (old, refl, steps)
steps-split old new (event ∷ front) rest (next, step, more) =
    let later = steps-split next new front rest more in
    (later.0, (next, step, later.1), later.2)

pub steps_same : (old new other : Node) (work : List Event) → Steps old work new → Steps old work other → new ≡ other
steps_same old new other [] is also = is ∙ sym also
steps_same old new other (event ∷ work) (mid, step, more) (between, also, rest) =
    steps_same mid new other work more (subst (λ (n : Node). Steps n work other) (also.is ∙ sym step.is) rest)

-- of the work before it each step is kept, and what follows marks reports as sent alone: a value of the node that no mark changes is the same
module _ {X : Type 0} (value : Node → X) (stays : (node : Node) (reports : List Kept) → value (record node { reports = reports }) ≡ value node) where
  marked_same : (node new : Node) (job : ℕ) → Step node (events.Sent job) new → value new ≡ value node
  marked_same node new job step = ap value step.is ∙ stays node (map (marked job) node.reports)

  one_more : (from node marked_node new : Node) (work : List Event) (job : ℕ) → Steps from work node → Step node (events.Sent job) marked_node → Steps from (work ++ events.Sent job ∷ []) new → new ≡ marked_node
  one_more from node marked_node new work job steps step all =
      let split = steps-split from new work (events.Sent job ∷ []) all in
      let same : split.0 ≡ node = steps_same from split.0 node work split.1 steps in
      split.2.2 ∙ split.2.1.is ∙ ap (λ (n : Node). record n { reports = map (marked job) n.reports }) same ∙ sym step.is

  steps-on : (from node new : Node) (work : List Event) (event : Event) → Steps from work node → Step node event new → Steps from (work ++ event ∷ []) new
  steps-on from node new [] event is step = (new, subst (λ (n : Node). Step n event new) is step, refl)
  steps-on from node new (e ∷ work) event (next, first, more) step = (next, first, steps-on next node new work event more step)

  pub sends_leave : (from : Node) (counts : ℕ × ℕ) (work : List Event) (node : Node) (asked heard : LinkView) (tried : Result (List Tried) StoreError) (committed : List Event) (broken : Option Event)
      → Sends from counts work node asked heard tried committed broken → Steps from work node → (new : Node) → Steps from committed new → value new ≡ value node
  sends_leave from counts _ _ _ _ _ _ _ (all_sent work node view none) steps new all = ap value (steps_same from new node work all steps)
  sends_leave from counts _ _ _ _ _ _ _ (not_sent work node asked heard next error is sends other) steps new all = ap value (steps_same from new node work all steps)
  sends_leave from counts _ _ _ _ _ _ _ (no_memory work node asked heard next error is sends) steps new all = ap value (steps_same from new node work all steps)
  sends_leave from counts _ _ _ _ _ _ _ (unmarked work node asked heard next error committed broken is sends refused) steps new all =
      ap value (steps_same from new node work (subst (λ (w : List Event). Steps from w new) refused.committed_is all) steps)
  sends_leave from counts _ _ _ _ _ _ _ (unprinted work node marked_node asked heard next is sends step) steps new all =
      ap value (one_more from node marked_node new work next.report.job steps step all) ∙ marked_same node marked_node next.report.job step
  sends_leave from counts _ _ _ _ _ _ _ (sent work node marked_node asked mid heard next later committed broken is sends step rest) steps new all =
      sends_leave from counts (work ++ events.Sent next.report.job ∷ []) marked_node mid heard later committed broken rest
      (steps-on from node marked_node work (events.Sent next.report.job) steps step) new all
      ∙ marked_same node marked_node next.report.job step

-- ---- which events it commits

some_sent : {job : ℕ} (error : StoreError) (event : Event) → Some event ≡ broken_by (events.Sent job) error → event ≡ events.Sent job
some_sent errors.Disk event is = cc is
some_sent (errors.NotAStore at) event is = absurd (cc is)
some_sent (errors.NotAllowed why) event is = absurd (cc is)
some_sent errors.Memory event is = absurd (cc is)
some_sent errors.Spent event is = absurd (cc is)

-- a fact of the events that holds of the work and of no mark of a report is a fact of the work
module _ (P : List Event → Type 0) (less : (work : List Event) (job : ℕ) → P (work ++ events.Sent job ∷ []) → P work) where
  refused_less : (from : Node) (counts : ℕ × ℕ) (work : List Event) (job : ℕ) (error : StoreError) (committed : List Event) (broken : Option Event)
      → RefusedAfter from counts work (events.Sent job) error committed broken → P (all_of committed broken) → P work
  refused_less from counts work job error committed broken refused p =
      by_broken broken (subst (λ (w : List Event). P (all_of w broken)) refused.committed_is p) refused.broken_is where
        by_broken : (b : Option Event) → P (all_of work b) → b ≡ broken_by (events.Sent job) error → P work
        by_broken None held is = held
        by_broken (Some event) held is = less work job (subst (λ (e : Event). P (work ++ e ∷ [])) (some_sent error event is) held)

  pub sends_less : (from : Node) (counts : ℕ × ℕ) (work : List Event) (node : Node) (asked heard : LinkView) (tried : Result (List Tried) StoreError) (committed : List Event) (broken : Option Event)
      → Sends from counts work node asked heard tried committed broken → P (all_of committed broken) → P work
  sends_less from counts _ _ _ _ _ _ _ (all_sent work node view none) p = p
  sends_less from counts _ _ _ _ _ _ _ (not_sent work node asked heard next error is sends other) p = p
  sends_less from counts _ _ _ _ _ _ _ (no_memory work node asked heard next error is sends) p = p
  sends_less from counts _ _ _ _ _ _ _ (unmarked work node asked heard next error committed broken is sends refused) p = refused_less from counts work next.report.job error committed broken refused p
  sends_less from counts _ _ _ _ _ _ _ (unprinted work node marked_node asked heard next is sends step) p = less work next.report.job p
  sends_less from counts _ _ _ _ _ _ _ (sent work node marked_node asked mid heard next later committed broken is sends step rest) p =
      less work next.report.job (sends_less from counts (work ++ events.Sent next.report.job ∷ []) marked_node mid heard later committed broken rest p)
