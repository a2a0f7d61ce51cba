-- How the record of a start goes on: from the opening, by a commit, by one call after another, to an end.
use Rattle.std.proofs.Common.{◌≡◌, ◌⊎◌, inl, inr, ℕ, ◌≤◌, List, [], ◌∷◌, ◌++◌, ◌∙◌, refl, sym, subst, append-nil, append_assoc, arith, Option, Some, None, Result, Ok, Err, Bool, true, false}
use Rattle.dsc_outside.specs.declared.disk.Disk.{Ghosts}
use Rattle.dsc_outside.proofs.Moments.{then_on, weaker}
use Rattle.gate_log.specs.Standing.{AllStand, Any, StandsAtAnyMoment, StandsFor, StoodFor}
use Rattle.node_state.specs.declared.node.Node.{Node}
use Rattle.node_state.specs.declared.event.Event.{Event}
use Rattle.node_state.specs.declared.event.Event.TheVariants as events
use Rattle.node_state.specs.Table.{IsWithin, Step, Steps}
use Rattle.node_store.specs.declared.error.StoreError.{StoreError}
use Rattle.node_store.specs.declared.error.StoreError.TheVariants as errors
use Rattle.node_store.specs.Stands.{BeforeOrAfter, Stands}
use Rattle.node_store.specs.Store.{Committed, IsKept, StoreTerm, TakesMemory}
use Rattle.dsc_node.specs.Path.{Carries, CommitGoes, Ended, EndsStart, IsOnTheWay, Passes, SoFar, disk_counts}
use Rattle.dsc_node.specs.Commits.{IsCause, RefusedAfter, broken_by}
use Rattle.dsc_node.proofs.Way.{kept_stands, stands_map, steps-append, steps-push, way_grows, way_steps}

-- what takes memory where capacity was reserved takes it where none was
takes_unreserved : (reserved : Bool) (event : Event) → TakesMemory reserved event → TakesMemory false event
takes_unreserved reserved (events.Init agent) takes = takes
takes_unreserved reserved (events.SetMeta meta) takes = takes
takes_unreserved reserved events.Registered takes = takes
takes_unreserved reserved (events.Stage staged) takes = takes
takes_unreserved reserved (events.Promote report) takes = refl
takes_unreserved reserved (events.Note report) takes = refl
takes_unreserved reserved (events.AskReboot report) takes = refl
takes_unreserved reserved events.Boot takes = takes
takes_unreserved reserved (events.Sent job) takes = takes
takes_unreserved reserved (events.Remove stage) takes = takes
takes_unreserved reserved events.Restore takes = takes

true-false : true ≡ false → ⊥
true-false is = cc is

module _ {D : Type 0} (d : Ghosts D) (begin : D) (from : Node) where
  -- the store was opened just now
  pub opens : (now : D) (store : StoreTerm) → store.node ≡ from → (AllStand d begin Stands Any → StandsAtAnyMoment d begin now Stands (StoodFor d begin Stands)) → d.faults begin ≤ d.faults now
      → SoFar d begin now from [] store
  opens now store is moments count = record {
    passes = λ all. weaker d.moment d.left_since begin now (StandsFor Stands (StoodFor d begin Stands)) (StandsFor Stands (IsOnTheWay d begin from [])) (moments all)
        (stands_map (StoodFor d begin Stands) (IsOnTheWay d begin from []) (λ node stood. inl stood));
    steps = is;
    count = count;
  }

  -- where no event was refused, the start may end
  pub at_rest : (now : D) (work : List Event) (store : StoreTerm) (T : List Event → Option Event → Type 0) → SoFar d begin now from work store → IsKept d now store → T work None
      → Ended d begin now from T
  at_rest now work store T far kept table = record {
    committed = work;
    broken = None;
    table = table;
    node = store.node;
    steps = far.steps;
    allowed = tt;
    passes = far.passes;
    left = λ c there.
        stands_map (λ node. node ≡ store.node) (λ end. Steps from work end ⊎ Steps from work end) (λ node same. inl (subst (λ (n : Node). Steps from work n) (sym same) far.steps)) c
        (kept_stands d now store kept c there);
    count = far.count;
  }

  pub ended_as : (now : D) (A B : List Event → Option Event → Type 0) → Ended d begin now from A → ((committed : List Event) (broken : Option Event) → A committed broken → B committed broken)
      → Ended d begin now from B
  ended_as now A B e to = record {
    committed = e.committed;
    broken = e.broken;
    table = to e.committed e.broken e.table;
    node = e.node;
    steps = e.steps;
    allowed = e.allowed;
    passes = e.passes;
    left = e.left;
    count = e.count;
  }

  module _ (old now : D) (work : List Event) (event : Event) (before after : StoreTerm) (far : SoFar d begin old from work before) (kept : IsKept d old before)
      (moments : StandsAtAnyMoment d old now Stands (BeforeOrAfter before.node event)) (count : d.faults old ≤ d.faults now) (within : IsWithin event) where
    passes_on : Passes d begin now from (work ++ event ∷ [])
    passes_on = λ all. then_on d.moment d.left_since begin old now _ _
        (weaker d.moment d.left_since begin old _ _ (far.passes all) (stands_map (IsOnTheWay d begin from work) (IsOnTheWay d begin from (work ++ event ∷ [])) (way_grows d begin from work event)))
        moments
        (stands_map (BeforeOrAfter before.node event) (IsOnTheWay d begin from (work ++ event ∷ [])) (way_steps d begin from work event before.node far.steps))

    pub went : Step before.node event after.node → SoFar d begin now from (work ++ event ∷ []) after
    went step = record { passes = passes_on; steps = steps-push from before.node after.node work event far.steps step; count = omega (arith, far.count, count) }

    -- refused, with the disk untouched
    refused_still : (error : StoreError) → now ≡ old → broken_by event error ≡ None → IsCause before.node event (disk_counts d begin now) error
        → Ended d begin now from (RefusedAfter from (disk_counts d begin now) work event error)
    refused_still error same none cause =
        let T : List Event → Option Event → Type 0 = RefusedAfter from (disk_counts d begin now) work event error in
        let table : T work None = record { committed_is = refl; broken_is = sym none; node = before.node; steps = far.steps; cause = cause } in
        subst (λ (x : D). Ended d begin x from T) (sym same) (at_rest old work before T far kept table)

    -- an image at the end is one at a moment of the commit
    left_now : ((t : ℕ) (c : List ℕ) → t ≤ d.moment now → d.images now c → d.left_since now t c)
        → AllStand d now Stands (λ end. Steps from work end ⊎ Steps from (work ++ event ∷ []) end)
    left_now counts_now = λ c there.
        stands_map (BeforeOrAfter before.node event) (λ end. Steps from work end ⊎ Steps from (work ++ event ∷ []) end) at c
        (moments.each c (counts_now (d.moment old) c moments.later there)) where
          at : (node : Node) → BeforeOrAfter before.node event node → Steps from work node ⊎ Steps from (work ++ event ∷ []) node
          at node (inl same) = inl (subst (λ (n : Node). Steps from work n) (sym same) far.steps)
          at node (inr step) = inr (steps-push from before.node node work event far.steps step)

    pub stopped : ((t : ℕ) (c : List ℕ) → t ≤ d.moment now → d.images now c → d.left_since now t c) → (error : StoreError) → Committed {T = Unit {0}} d before event old now (Err error) after
        → Ended d begin now from (RefusedAfter from (disk_counts d begin now) work event error)
    stopped counts_now errors.Disk (tried, rose, same, spent) = record {
      committed = work;
      broken = Some event;
      table = record {
        committed_is = refl;
        broken_is = refl;
        node = before.node;
        steps = far.steps;
        cause = (tried.allowed, omega (arith, far.count, rose));
      };
      node = before.node;
      steps = far.steps;
      allowed = tried.allowed;
      passes = passes_on;
      left = left_now counts_now;
      count = omega (arith, far.count, count);
    }
    stopped counts_now (errors.NotAllowed why) (unspent, is, still) = refused_still (errors.NotAllowed why) still.disk refl is
    stopped counts_now errors.Memory (tried, takes, still) = refused_still errors.Memory still.disk refl (tried.allowed, takes_unreserved before.reserved event takes)
    stopped counts_now errors.Spent (spent, still) = absurd (true-false (sym spent ∙ kept.unspent))
    stopped counts_now (errors.NotAStore at) none = absurd none

-- ---- one call after another

module _ {D : Type 0} (d : Ghosts D) where
  pub commit_goes : {T : Type 0} (old now : D) (event : Event) (before after : StoreTerm) → IsKept d old before → IsWithin event → StandsAtAnyMoment d old now Stands (BeforeOrAfter before.node event)
      → d.faults old ≤ d.faults now → ((t : ℕ) (c : List ℕ) → t ≤ d.moment now → d.images now c → d.left_since now t c) → (result : Result T StoreError) → Committed d before event old now result after → CommitGoes d old now before event result after
  commit_goes old now event before after kept within moments count counts_now (Ok v) (tried, step, unspent, reserved) = record {
    steps = (after.node, step, refl);
    on = λ begin from work far.
        went d begin from old now work event before after far kept moments count within step;
  }
  commit_goes old now event before after kept within moments count counts_now (Err error) answer = record {
    on = λ begin from work far.
        stopped d begin from old now work event before after far kept moments count within counts_now error answer;
  }

  pub commit_memory : {T : Type 0} (old now : D) (event : Event) (before after : StoreTerm) (result : Result T StoreError) → Committed d before event old now result after
      → (error : StoreError) → result ≡ Err error → error ≡ errors.Memory → TakesMemory before.reserved event
  commit_memory old now event before after (Ok v) answer error is memory = cc is
  commit_memory old now event before after (Err errors.Memory) answer error is memory = answer.1
  commit_memory old now event before after (Err errors.Disk) answer error is memory = cc (is, memory)
  commit_memory old now event before after (Err (errors.NotAllowed why)) answer error is memory = cc (is, memory)
  commit_memory old now event before after (Err errors.Spent) answer error is memory = cc (is, memory)
  commit_memory old now event before after (Err (errors.NotAStore at)) answer error is memory = cc (is, memory)

  pub carries_none : (now : D) (store : StoreTerm) → Carries d now now store store []
  carries_none now store = record { steps = refl; on = λ begin from work far. subst (λ (w : List Event). SoFar d begin now from w store) (sym (append-nil work)) far }

  pub carries_on : {old mid now : D} {before between after : StoreTerm} {first second : List Event} → Carries d old mid before between first → Carries d mid now between after second
      → Carries d old now before after (first ++ second)
  carries_on {now = now} {before = before} {between = between} {after = after} {first = first} {second = second} one two = record {
    steps = steps-append before.node between.node after.node first second one.steps two.steps;
    on = λ begin from work far.
        subst (λ (w : List Event). SoFar d begin now from w after) (append_assoc work first second) (two.on begin from (work ++ first) (one.on begin from work far));
  }

  pub ends_as : {old now : D} {before : StoreTerm} {A B : Node → ℕ × ℕ → List Event → List Event → Option Event → Type 0} → EndsStart d old now before A
      → ((from : Node) (counts : ℕ × ℕ) (work committed : List Event) (broken : Option Event) → A from counts work committed broken → B from counts work committed broken) → EndsStart d old now before B
  ends_as {now = now} {A = A} {B = B} ends to = record {
    on = λ begin from work far.
        ended_as d begin from now (A from (disk_counts d begin now) work) (B from (disk_counts d begin now) work) (ends.on begin from work far) (to from (disk_counts d begin now) work);
  }

  -- a call, and then one that ended the start
  pub ends_on : {old mid now : D} {before between : StoreTerm} {first : List Event} {A B : Node → ℕ × ℕ → List Event → List Event → Option Event → Type 0}
      → Carries d old mid before between first → EndsStart d mid now between A
      → ((from : Node) (counts : ℕ × ℕ) (work committed : List Event) (broken : Option Event) → A from counts (work ++ first) committed broken → B from counts work committed broken)
      → EndsStart d old now before B
  ends_on {now = now} {first = first} {A = A} {B = B} one two to = record {
    on = λ begin from work far.
        ended_as d begin from now (A from (disk_counts d begin now) (work ++ first)) (B from (disk_counts d begin now) work)
        (two.on begin from (work ++ first) (one.on begin from work far)) (to from (disk_counts d begin now) work);
  }

  -- where nothing is refused here, the start may end
  pub ends_here : {now : D} {store : StoreTerm} {A : Node → ℕ × ℕ → List Event → List Event → Option Event → Type 0} → IsKept d now store
      → ((from : Node) (counts : ℕ × ℕ) (work : List Event) → A from counts work work None) → EndsStart d now now store A
  ends_here {now = now} {store = store} {A = A} kept to = record {
    on = λ begin from work far.
        at_rest d begin from now work store (A from (disk_counts d begin now) work) far kept (to from (disk_counts d begin now) work);
  }

  -- the same after a call
  pub ends_after : {old now : D} {before after : StoreTerm} {events : List Event} {A : Node → ℕ × ℕ → List Event → List Event → Option Event → Type 0}
      → Carries d old now before after events → IsKept d now after → ((from : Node) (counts : ℕ × ℕ) (work : List Event) → A from counts work (work ++ events) None) → EndsStart d old now before A
  ends_after {now = now} {after = after} {events = events} {A = A} carries kept to = record {
    on = λ begin from work far.
        at_rest d begin from now (work ++ events) after (A from (disk_counts d begin now) work) (carries.on begin from work far) kept (to from (disk_counts d begin now) work);
  }

  -- reserved memory changes nothing else of a store
  pub ends_reserved : {old now : D} {before reserved : StoreTerm} {A : Node → ℕ × ℕ → List Event → List Event → Option Event → Type 0} → reserved ≡ record before { reserved = true }
      → EndsStart d old now reserved A → EndsStart d old now before A
  ends_reserved {old = old} {before = before} {reserved = reserved} is ends = record {
    on = λ begin from work far.
        ends.on begin from work (subst (λ (s : StoreTerm). SoFar d begin old from work s) (sym is) (record { passes = far.passes; steps = far.steps; count = far.count }));
  }
