-- The reports that a start keeps.
use Rattle.std.proofs.Common.{◌≡◌, ◌⊎◌, inl, inr, ⊎_elim, ℕ, ◌==◌, ◌&&◌, cond, Bool, true, false, List, [], ◌∷◌, ◌++◌, Option, subst}
use Rattle.lcm_core.specs.declared.modes.RunEnd.{RunEnd}
use Rattle.lcm_core.specs.declared.modes.RunEnd.TheVariants as ends
use Rattle.report_log.specs.declared.report.Report.{Report}
use Rattle.node_state.specs.declared.node.Node.{Node}
use Rattle.node_state.specs.declared.event.Event.{Event}
use Rattle.node_state.specs.declared.event.Event.TheVariants as events
use Rattle.node_store.specs.declared.error.StoreError.{StoreError}
use Rattle.node_store.specs.declared.error.StoreError.TheVariants as errors
use Rattle.dsc_node.specs.Headline.{Keeps, KeepsReport}
use Rattle.dsc_node.specs.Runs.{Run, event_of}
use Rattle.dsc_node.specs.Commits.{RefusedAfter, all_of, broken_by}

module _ (report : Report) where
  keeps-append : (xs ys : List Event) → Keeps (xs ++ ys) report → Keeps xs report ⊎ Keeps ys report
  keeps-append [] ys k = inr k
  keeps-append (x ∷ xs) ys (inl is) = inl (inl is)
  keeps-append (x ∷ xs) ys (inr k) = ⊎_elim (λ a. inl (inr a)) (λ b. inr b) (keeps-append xs ys k)

  broken_keeps : (committed : List Event) (event : Event) (error : StoreError) → Keeps (all_of committed (broken_by event error)) report → Keeps committed report ⊎ KeepsReport event report
  broken_keeps committed event errors.Disk k = ⊎_elim (λ a. inl a) (λ b. inr (one b)) (keeps-append committed (event ∷ []) k) where
    one : Keeps (event ∷ []) report → KeepsReport event report
    one (inl is) = is
    one (inr none) = absurd none
  broken_keeps committed event (errors.NotAStore at) k = inl k
  broken_keeps committed event (errors.NotAllowed why) k = inl k
  broken_keeps committed event errors.Memory k = inl k
  broken_keeps committed event errors.Spent k = inl k

  refused_keeps : (from : Node) (counts : ℕ × ℕ) (work : List Event) (event : Event) (error : StoreError) (committed : List Event) (broken : Option Event)
      → RefusedAfter from counts work event error committed broken → Keeps (all_of committed broken) report → Keeps work report ⊎ KeepsReport event report
  refused_keeps from counts work event error committed broken refused k =
      broken_keeps work event error (subst (λ (w : List Event). Keeps (all_of w (broken_by event error)) report) refused.committed_is (subst (λ (b : Option Event). Keeps (all_of committed b) report) refused.broken_is k))

  one_keeps : (b : Bool) (kept : Report) → KeepsReport (cond b (events.Promote kept) (events.Note kept)) report → report ≡ kept
  one_keeps true kept is = is
  one_keeps false kept is = is

  run_keeps : (end : RunEnd) (pending : Bool) (kept : Report) → KeepsReport (event_of end pending kept) report → report ≡ kept
  run_keeps (ends.RebootAsked place) pending kept is = is
  run_keeps ends.Finished pending kept is = one_keeps (pending && (kept.missed == 0)) kept is
  run_keeps ends.Memory pending kept is = is

  -- the event of a run keeps the run's report
  pub noted_keeps : (work : List Event) (run : Run) (kept : Report) → (Keeps work report → ⊥) → Keeps (work ++ event_of run.end run.choice.pending kept ∷ []) report → report ≡ kept
  noted_keeps work run kept none k =
      ⊎_elim (λ a. absurd (none a)) (λ b. last b) (keeps-append work (event_of run.end run.choice.pending kept ∷ []) k) where
        last : Keeps (event_of run.end run.choice.pending kept ∷ []) report → report ≡ kept
        last (inl is) = run_keeps run.end run.choice.pending kept is
        last (inr more) = absurd more

  pub refused_run_keeps : (from : Node) (counts : ℕ × ℕ) (work : List Event) (run : Run) (kept : Report) (error : StoreError) (committed : List Event) (broken : Option Event) → (Keeps work report → ⊥)
      → RefusedAfter from counts work (event_of run.end run.choice.pending kept) error committed broken → Keeps (all_of committed broken) report → report ≡ kept
  refused_run_keeps from counts work run kept error committed broken none refused k =
      ⊎_elim (λ a. absurd (none a)) (λ b. run_keeps run.end run.choice.pending kept b) (refused_keeps from counts work (event_of run.end run.choice.pending kept) error committed broken refused k)

  pub first_refused_keeps : (from : Node) (counts : ℕ × ℕ) (event : Event) (error : StoreError) (committed : List Event) (broken : Option Event) → (Keeps (event ∷ []) report → ⊥)
      → RefusedAfter from counts [] event error committed broken → Keeps (all_of committed broken) report → ⊥
  first_refused_keeps from counts event error committed broken none refused k =
      ⊎_elim (λ nothing. nothing) (λ is. none (inl is)) (refused_keeps from counts [] event error committed broken refused k)

  -- a mark that a report was sent keeps none
  pub sent_keeps : (work : List Event) (job : ℕ) → Keeps (work ++ events.Sent job ∷ []) report → Keeps work report
  sent_keeps work job k = ⊎_elim (λ a. a) none (keeps-append work (events.Sent job ∷ []) k) where
    none : Keeps (events.Sent job ∷ []) report → Keeps work report
    none (inl is) = absurd is
    none (inr more) = absurd more
