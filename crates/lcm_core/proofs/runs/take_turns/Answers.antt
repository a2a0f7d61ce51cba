use Rattle.std.proofs.Common.{◌≡◌, ◌<◌, ℕ, Bool, true, false, List, [], ◌∷◌, ◌++◌, inl, inr, length, take, get_or, set, sym, ◌∙◌, ap, subst, arith, rules, length-append, length-set, get_or-set_same, get_or-set_other, Err}
use Rattle.std.proofs.lemmas.Bool.Decides.{eqb_tells}
use Rattle.std.proofs.lemmas.List.{get_or-replicate, length-replicate, take_all, take_more}
use Rattle.std.proofs.lemmas.List.Sums.{sum_by-append}
use Rattle.depend_order.proofs.DocumentOrders.{order_below, order_count}
use Rattle.resource_kinds.specs.declared.entry.Entry.{Entry}
use Rattle.resource_kinds.specs.Trace.{entry_failures, has_succeeded}
use Rattle.lcm_core.specs.declared.modes.RunMode.TheVariants.{Repair}
use Rattle.lcm_core.specs.Legal.{Legal}
use Rattle.lcm_core.specs.Turn.{IsStop, all_held}
use Rattle.lcm_core.specs.Whole.{Whole}
use Rattle.lcm_core.proofs.OneTurn.{are_of_turn, chain_turn, elsewhere, goes_on_after, shows_last, stop_is_final, stops_after}
use Rattle.lcm_core.proofs.Past.{Past, legal_turn, next_of, past_none, past_over, past_turn, whole_at_last, whole_at_stop}
use Rattle.lcm_core.proofs.Ready.{held_back_if, places_below, ready_if}
use Rattle.lcm_core.proofs.runs.take_turns.Goals as goal

pub loop-place-init : goal.loop-place-init
loop-place-init g c =
    let none = c.requires.fresh in
    let count = length c.args.document.now.resources in
    rw none (record {
      past = past_none c.args.document.now c.args.order.now;
      goes_on = λ e ends last. absurd (omega (arith, ap length ends.1, length-append ends.0 (e ∷ [])));
      size = ap length c.requires.none ∙ length-replicate count false;
      marks = λ q lt. ap (λ (l : List Bool). get_or l q false) c.requires.none ∙ get_or-replicate count q false false lt;
      chain = g.met.R.Resources.stays _;
      faults = omega arith;
      later = omega arith;
      used = omega arith;
      capacity = omega (arith, c.requires.capacity);
    })

-- the resource at this turn

pub bounds-depends-at : goal.bounds-depends-at
bounds-depends-at g c =
    omega (arith, order_below c.args.document.now c.args.order.now c.requires.order c.loop-place.place-index 0 c.loop-place-test.true, c.requires.depends.count)

pub bounds-held-at : goal.bounds-held-at
bounds-held-at g c =
    omega (arith, order_below c.args.document.now c.args.order.now c.requires.order c.loop-place.place-index 0 c.loop-place-test.true, c.loop-place.invariant.size)

pub all_held-requires : goal.all_held-requires
all_held-requires g c =
    let there : get_or c.args.order.now c.loop-place.place-index 0 < length c.args.depends.now = omega (arith, order_below c.args.document.now c.args.order.now c.requires.order c.loop-place.place-index 0 c.loop-place-test.true, c.requires.depends.count) in
    let all = places_below c.args.document.now c.args.depends.now c.requires.depends (g.R.Resources.trace c.loop-place.resources) c.loop-place.held c.loop-place.invariant.marks
    (get_or c.args.order.now c.loop-place.place-index 0) c.index-depends-at.result there c.index-depends-at.is in
    rw c.deref.ensures.value (λ k d lt. omega (arith, all k d lt, c.loop-place.invariant.size))

pub take_turn-requires-clause-place : goal.take_turn-requires-clause-place
take_turn-requires-clause-place g c = order_below c.args.document.now c.args.order.now c.requires.order c.loop-place.place-index 0 c.loop-place-test.true

pub take_turn-requires-clause-capacity : goal.take_turn-requires-clause-capacity
take_turn-requires-clause-capacity g c =
    omega (arith, c.loop-place.invariant.capacity, c.loop-place-test.true, order_count c.args.document.now c.args.order.now c.requires.order)

-- a resource that is passed over

pub loop-place-preserved-then-not-all_held : goal.loop-place-preserved-then-not-all_held
loop-place-preserved-then-not-all_held g c =
    let document = c.args.document.now in
    let order = c.args.order.now in
    let i = c.loop-place.place-index in
    let lt = c.loop-place-test.true in
    let so_far = c.loop-place.invariant in
    let trace = g.R.Resources.trace c.loop-place.resources in
    let there : get_or order i 0 < length c.args.depends.now = omega (arith, order_below document order c.requires.order i 0 lt, c.requires.depends.count) in
    let back = held_back_if document c.args.depends.now c.requires.depends trace c.loop-place.held so_far.marks
    (get_or order i 0) c.index-depends-at.result there c.index-depends-at.is
    (subst (λ (l : List ℕ). all_held c.loop-place.held l ≡ false) c.deref.ensures.value (sym c.all_held.ensures ∙ c.if-not-all_held.true)) in
    record {
      past = subst (λ (l : List ℕ). Past document order l trace) (sym (take_more order i 0 lt))
          (past_over document order (take i order) trace (get_or order i 0) so_far.past (next_of document order i c.requires.order lt) back.0 back.1 back.2);
      goes_on = so_far.goes_on;
      size = so_far.size;
      marks = so_far.marks;
      chain = so_far.chain;
      faults = so_far.faults;
      later = so_far.later;
      used = so_far.used;
      capacity = omega (arith, so_far.capacity);
    }

-- a turn that ended the run

pub returns-in_err-held-clause-legal : goal.returns-in_err-held-clause-legal
returns-in_err-held-clause-legal g c =
    let document = c.args.document.now in
    let order = c.args.order.now in
    let i = c.loop-place.place-index in
    let so_far = c.loop-place.invariant in
    let trace = g.R.Resources.trace c.loop-place.resources in
    let took = c.take_turn.ensures.turn in
    let there : get_or order i 0 < length c.args.depends.now = omega (arith, order_below document order c.requires.order i 0 c.loop-place-test.true, c.requires.depends.count) in
    let ready = ready_if document c.args.depends.now c.requires.depends trace c.loop-place.held so_far.marks
    (get_or order i 0) c.index-depends-at.result there c.index-depends-at.is
    (subst (λ (l : List ℕ). all_held c.loop-place.held l ≡ true) c.deref.ensures.value (sym c.all_held.ensures ∙ c.if-not-all_held.false)) in
    subst (λ (l : List Entry). Legal document Repair order l) (sym took.follows)
    (legal_turn document order (take i order) trace (get_or order i 0) so_far.past (next_of document order i c.requires.order c.loop-place-test.true) took.turn took.is_turn so_far.goes_on ready)

pub returns-in_err-held-clause-whole : goal.returns-in_err-held-clause-whole
returns-in_err-held-clause-whole g c =
    let document = c.args.document.now in
    let order = c.args.order.now in
    let i = c.loop-place.place-index in
    let r = get_or order i 0 in
    let so_far = c.loop-place.invariant in
    let trace = g.R.Resources.trace c.loop-place.resources in
    let took = c.in_err-held.ensures.turn in
    subst (λ (l : List Entry). Whole document Repair order l) (sym took.follows)
    (whole_at_stop document order (take i order) trace r so_far.past (next_of document order i c.requires.order c.loop-place-test.true)
    took.turn took.last took.is_turn took.ends (stop_is_final c.in_err-held.field-0.0 took.last r took.shows))

pub returns-in_err-held-clause-end : goal.returns-in_err-held-clause-end
returns-in_err-held-clause-end g c =
    let r = get_or c.args.order.now c.loop-place.place-index 0 in
    let trace = g.R.Resources.trace c.loop-place.resources in
    let took = c.in_err-held.ensures.turn in
    let stops : IsStop (Err c.in_err-held.field-0.0) (g.R.Resources.trace c.take_turn.new.resources) =
    subst (IsStop (Err c.in_err-held.field-0.0)) (sym took.follows) (stops_after trace took.turn took.last c.in_err-held.field-0.0 r took.ends took.shows) in
    search rules

pub returns-in_err-held-clause-chain : goal.returns-in_err-held-clause-chain
returns-in_err-held-clause-chain g c =
    let took = c.take_turn.ensures.turn in
    let trace = g.R.Resources.trace c.loop-place.resources in
    rw took.follows (chain_turn g.R.Resources.does g.R.Resources.still c.args.document.now _ trace _ (get_or c.args.order.now c.loop-place.place-index 0) took.turn _
    g.met.R.Resources.still_does took.is_turn c.loop-place.invariant.chain took.chain)

-- a turn after which the run goes on

pub loop-place-preserved : goal.loop-place-preserved
loop-place-preserved g c =
    let document = c.args.document.now in
    let order = c.args.order.now in
    let i = c.loop-place.place-index in
    let lt = c.loop-place-test.true in
    let r = get_or order i 0 in
    let so_far = c.loop-place.invariant in
    let trace = g.R.Resources.trace c.loop-place.resources in
    let took = c.in_ok-held.ensures.turn in
    let there : r < length c.args.depends.now = omega (arith, order_below document order c.requires.order i 0 lt, c.requires.depends.count) in
    let ready = ready_if document c.args.depends.now c.requires.depends trace c.loop-place.held so_far.marks r c.index-depends-at.result there c.index-depends-at.is
    (subst (λ (l : List ℕ). all_held c.loop-place.held l ≡ true) c.deref.ensures.value (sym c.all_held.ensures ∙ c.if-not-all_held.false)) in
    let held = c.loop-place.held in
    let now = c.in_ok-held.field-0 in
    let are = are_of_turn r took.turn took.is_turn in
    rw took.follows (record {
      past = subst (λ (l : List ℕ). Past document order l (trace ++ took.turn)) (sym (take_more order i 0 lt))
          (past_turn document order (take i order) trace r so_far.past (next_of document order i c.requires.order lt) took.turn took.is_turn so_far.goes_on ready);
      goes_on = goes_on_after trace took.turn took.last took.ends took.shows.1;
      size = length-set held r now ∙ so_far.size;
      marks = λ q within. elim (eqb_tells r q) [
        | inl same ↦
            subst (λ (p : ℕ). get_or (set held r now) p false ≡ has_succeeded (trace ++ took.turn) p) same.1
            (get_or-set_same held r now false (omega (arith, there, c.requires.depends.count, so_far.size)) ∙ took.shows.0 ∙ sym (shows_last trace took.turn r took.last are took.ends))
        | inr apart ↦
            get_or-set_other held r q now false (λ back. apart.1 (sym back)) ∙ so_far.marks q within ∙ sym (elsewhere trace took.turn r q are apart.0)
      ];
      chain = chain_turn g.R.Resources.does g.R.Resources.still document _ trace _ r took.turn _ g.met.R.Resources.still_does took.is_turn so_far.chain took.chain;
      faults = omega (arith, so_far.faults, took.failures, sum_by-append entry_failures trace took.turn);
      later = omega (arith, so_far.later, took.later);
      used = omega (arith, so_far.used, took.capacity, length-append trace took.turn);
      capacity = omega (arith, so_far.capacity, c.in_ok-held.ensures.capacity);
    })

-- all turns are past

pub returns-clause-whole : goal.returns-clause-whole
returns-clause-whole g c =
    let order = c.args.order.now in
    let done : take c.loop-place.place-index order ≡ order = take_all c.loop-place.place-index order (omega (arith, c.loop-place-test.false)) in
    whole_at_last c.args.document.now order _ (subst (λ (l : List ℕ). Past c.args.document.now order l (g.R.Resources.trace c.loop-place.resources)) done c.loop-place.invariant.past)
