-- A step leads from a sound node to a sound node.
use Rattle.std.proofs.Common.{◌≡◌, inr, ℕ, zero, suc, ◌+◌, ◌-◌, ◌<◌, ◌≤◌, length, drop, length-append, List, [], ◌∷◌, ◌++◌, Option, None, Bool, true, false, is_some, refl, sym, ap, subst, arith, map}
use Rattle.std.specs.Prelude.{All, AllPairs, Some, IsSome}
use Rattle.std.specs.List.{list_any}
use Rattle.std.proofs.lemmas.List.{length-map, length-drop, get_or-map}
use Rattle.partial_merge.specs.declared.part.Part.{Part}
use Rattle.std.proofs.lemmas.List.Elements.{All-map, All-append, All-drop}
use Rattle.std.proofs.lemmas.List.Quantifiers.{all_pairs_push}
use Rattle.std.proofs.lemmas.Bool.Decides.{nat_tests}
use Rattle.report_log.specs.declared.report.Report.{Report}
use Rattle.report_log.specs.Sizes.{ReportInSize}
use Rattle.meta_config.specs.Making.{usual}
use Rattle.node_state.specs.declared.node.Kept.{Kept}
use Rattle.node_state.specs.declared.node.Node.{Node}
use Rattle.node_state.specs.declared.event.Event.{Event}
use Rattle.node_state.specs.declared.event.Event.TheVariants as events
use Rattle.node_state.specs.declared.event.Stage.TheVariants.{Pending, Current, Previous}
use Rattle.node_state.specs.declared.event.Why.{Why}
use Rattle.node_state.specs.declared.event.Why.TheVariants.{NoReport}
use Rattle.meta_config.specs.Parts.{HasPartsOrder}
use Rattle.node_state.specs.Table.{check, refusal, after, is_next, is_unsent, newest, unsent, marked, with_report, promoted, new_node, IsWithin}
use Rattle.node_state.specs.Sound.{AreKept, Sound, StepsAreSound, StepsHaveAgents}
use Rattle.node_state.specs.declared.limits.TheConstants.{OLDER_REPORTS}

-- ---- what an allowed event says

pub checked : (holds : Bool) (why : Why) (rest : Option Why) → check holds why rest ≡ None → (holds ≡ true) × (rest ≡ None)
checked true why rest is = (refl, is)
checked false why rest is = cc is

pub agent_there : {A : Type 0} (agent : Option ℕ) → is_some agent ≡ true → agent ≡ None → A
agent_there agent is none = let e : is_some agent ≡ false = ap (λ (a : Option ℕ). is_some a) none in cc (is, e)

next_job : (next job : ℕ) → is_next next job ≡ true → job ≡ next
next_job next job is = grind (arith, nat_tests)

-- ---- reports

abbrev pub Rises : Kept → Kept → Type 0
Rises earlier later = earlier.report.job < later.report.job

pairs_drop : {X : Type 0} (R : X → X → Type 0) (n : ℕ) (xs : List X) → AllPairs R xs → AllPairs R (drop n xs)
pairs_drop R zero xs all = all
pairs_drop R (suc n) [] all = all
pairs_drop R (suc n) (x ∷ xs) all =
    pairs_drop R n xs (λ i j d before within. all (suc i) (suc j) d (omega (arith, before)) (omega (arith, within)))

pub only_one : {X : Type 0} (P : X → Type 0) (x : X) → P x → All P (x ∷ [])
only_one P x p zero d below = p
only_one P x p (suc k) d below = absurd (omega arith)

newest_few : (reports : List Kept) → length (newest OLDER_REPORTS reports) ≤ OLDER_REPORTS
newest_few reports = omega (arith, length-drop (length reports - OLDER_REPORTS) reports)

later_jobs : (n : ℕ) (reports : List Kept) → All (λ (kept : Kept). kept.report.job < n) reports → All (λ (kept : Kept). kept.report.job < n + 1) reports
later_jobs n reports all = λ k d below. omega (arith, all k d below)

one_more : (n : ℕ) (reports : List Kept) (report : Report) → AreKept n reports → report.job ≡ n → ReportInSize report
    → AreKept (n + 1) (newest OLDER_REPORTS reports ++ unsent report ∷ [])
one_more n reports report kept job size =
    let left = newest OLDER_REPORTS reports in
    let below : All (λ (k : Kept). k.report.job < n) left = All-drop (λ (k : Kept). k.report.job < n) (length reports - OLDER_REPORTS) reports kept.below in
    record {
      rise = all_pairs_push Rises left (unsent report) (pairs_drop Rises (length reports - OLDER_REPORTS) reports kept.rise)
          (λ k d within. omega (arith, below k d within, job));
      below = All-append (λ (k : Kept). k.report.job < n + 1) left (unsent report ∷ []) (later_jobs n left below)
          (only_one (λ (k : Kept). k.report.job < n + 1) (unsent report) (omega (arith, job)));
      few = omega (arith, newest_few reports, length-append left (unsent report ∷ []));
      sizes = All-append (λ (k : Kept). ReportInSize k.report) left (unsent report ∷ [])
          (All-drop (λ (k : Kept). ReportInSize k.report) (length reports - OLDER_REPORTS) reports kept.sizes)
          (only_one (λ (k : Kept). ReportInSize k.report) (unsent report) size);
    }

-- a node of an agent keeps the report of the next job
with_report_sound : (node : Node) (report : Report) → Sound node → is_some node.agent ≡ true → report.job ≡ node.next_job → ReportInSize report
    → Sound (with_report report node)
with_report_sound node report sound agent job size = record {
  pending = sound.pending;
  current = sound.current;
  previous = sound.previous;
  reports = one_more node.next_job node.reports report sound.reports job size;
  meta = sound.meta;
  bare = λ none. agent_there node.agent agent none;
  server = sound.server;
}

pairs_marked : (job : ℕ) (reports : List Kept) → AllPairs Rises reports → AllPairs Rises (map (marked job) reports)
pairs_marked job reports all i j d before within =
    let long = length-map reports (marked job) in
    let low : i < length reports = omega (arith, long, within, before) in
    let high : j < length reports = omega (arith, long, within) in
    rw (get_or-map (marked job) reports i d d low, get_or-map (marked job) reports j d d high) (all i j d before high)

marked_kept : (n job : ℕ) (reports : List Kept) → AreKept n reports → AreKept n (map (marked job) reports)
marked_kept n job reports kept = record {
  rise = pairs_marked job reports kept.rise;
  below = All-map (λ (k : Kept). k.report.job < n) (marked job) reports kept.below;
  few = omega (arith, length-map reports (marked job), kept.few);
  sizes = All-map (λ (k : Kept). ReportInSize k.report) (marked job) reports kept.sizes;
}

-- ---- steps

step_sound : (node : Node) (event : Event) → Sound node → IsWithin event → refusal node event ≡ None → Sound (after node event)
step_sound node (events.Init agent) sound within allowed = record {
  pending = sound.pending;
  current = sound.current;
  previous = sound.previous;
  reports = sound.reports;
  meta = sound.meta;
  bare = λ none. cc none;
  server = sound.server;
}
step_sound node (events.SetMeta meta) sound within allowed =
    let c = checked _ _ _ allowed in
    record {
      pending = sound.pending;
      current = sound.current;
      previous = sound.previous;
      reports = sound.reports;
      meta = within;
      bare = λ none. agent_there node.agent c.0 none;
      server = λ registered. cc registered;
    }
step_sound node events.Registered sound within allowed =
    let c = checked _ _ _ allowed in
    let s = checked _ _ _ c.1 in
    record {
      pending = sound.pending;
      current = sound.current;
      previous = sound.previous;
      reports = sound.reports;
      meta = sound.meta;
      bare = λ none. agent_there node.agent c.0 none;
      server = λ registered. s.0;
    }
step_sound node (events.Stage staged) sound within allowed =
    let c = checked _ _ _ allowed in
    record {
      pending = staged.whole;
      current = sound.current;
      previous = sound.previous;
      reports = sound.reports;
      meta = sound.meta;
      bare = λ none. agent_there node.agent c.0 none;
      server = sound.server;
    }
step_sound node (events.Promote report) sound within allowed =
    let a = checked _ _ _ allowed in let b = checked _ _ _ a.1 in let c = checked _ _ _ b.1 in
    with_report_sound (promoted node) report (record {
      pending = tt;
      current = sound.pending;
      previous = sound.current;
      reports = sound.reports;
      meta = sound.meta;
      bare = λ none. agent_there node.agent a.0 none;
      server = sound.server;
    }) a.0 (next_job node.next_job report.job c.0) within
step_sound node (events.Note report) sound within allowed =
    let a = checked _ _ _ allowed in let b = checked _ _ _ a.1 in let c = checked _ _ _ b.1 in
    with_report_sound node report sound a.0 (next_job node.next_job report.job c.0) within
step_sound node (events.AskReboot report) sound within allowed =
    let a = checked _ _ _ allowed in let b = checked _ _ _ a.1 in let c = checked _ _ _ b.1 in
    with_report_sound (record node { reboot = true }) report (record {
      pending = sound.pending;
      current = sound.current;
      previous = sound.previous;
      reports = sound.reports;
      meta = sound.meta;
      bare = λ none. agent_there node.agent a.0 none;
      server = sound.server;
    }) a.0 (next_job node.next_job report.job c.0) within
step_sound node events.Boot sound within allowed = record {
  pending = sound.pending;
  current = sound.current;
  previous = sound.previous;
  reports = sound.reports;
  meta = sound.meta;
  bare = λ none. let b = sound.bare none in record {
    pending = b.pending;
    current = b.current;
    previous = b.previous;
    reboot = refl;
    reports = b.reports;
    registered = b.registered;
  };
  server = sound.server;
}
step_sound node (events.Sent job) sound within allowed = record {
  pending = sound.pending;
  current = sound.current;
  previous = sound.previous;
  reports = marked_kept node.next_job job node.reports sound.reports;
  meta = sound.meta;
  bare = λ none. let b = sound.bare none in record {
    pending = b.pending;
    current = b.current;
    previous = b.previous;
    reboot = b.reboot;
    reports = ap (λ (l : List Kept). map (marked job) l) b.reports;
    registered = b.registered;
  };
  server = sound.server;
}
step_sound node (events.Remove Pending) sound within allowed =
    let c = checked _ _ _ allowed in
    record {
      pending = tt;
      current = sound.current;
      previous = sound.previous;
      reports = sound.reports;
      meta = sound.meta;
      bare = λ none. agent_there node.agent c.0 none;
      server = sound.server;
    }
step_sound node (events.Remove Current) sound within allowed =
    let c = checked _ _ _ allowed in
    record {
      pending = sound.pending;
      current = tt;
      previous = sound.previous;
      reports = sound.reports;
      meta = sound.meta;
      bare = λ none. agent_there node.agent c.0 none;
      server = sound.server;
    }
step_sound node (events.Remove Previous) sound within allowed =
    let c = checked _ _ _ allowed in
    record {
      pending = sound.pending;
      current = sound.current;
      previous = tt;
      reports = sound.reports;
      meta = sound.meta;
      bare = λ none. agent_there node.agent c.0 none;
      server = sound.server;
    }
step_sound node events.Restore sound within allowed =
    let c = checked _ _ _ allowed in
    record {
      pending = sound.previous;
      current = sound.current;
      previous = sound.previous;
      reports = sound.reports;
      meta = sound.meta;
      bare = λ none. none_left node sound c.0 none;
      server = sound.server;
    }
  where
    none_left : {A : Type 0} (node : Node) → Sound node → is_some node.previous ≡ true → node.agent ≡ None → A
    none_left node sound there none =
        let e : is_some node.previous ≡ false = ap (λ (o : Option (List Part)). is_some o) (sound.bare none).previous in cc (there, e)

pub steps_are_sound : StepsAreSound
steps_are_sound old event new sound step = subst (λ (n : Node). Sound n) (sym step.is) (step_sound old event sound step.within step.allowed)

-- ---- agents

-- a node of which something holds that holds of no node without an agent has one
has_agent : (node : Node) → (node.agent ≡ None → ⊥) → IsSome node.agent
has_agent node not_none = by node.agent refl
  where
    by : (agent : Option ℕ) → node.agent ≡ agent → IsSome agent
    by (Some a) is = refl
    by None is = absurd (not_none is)

true_false : {A : Type 0} (b : Bool) → b ≡ true → b ≡ false → A
true_false b one other = cc (one, other)

agent_after : (node : Node) (event : Event) → Sound node → refusal node event ≡ None → IsSome (after node event).agent
agent_after node (events.Init agent) sound allowed = refl
agent_after node (events.SetMeta meta) sound allowed = (checked _ _ _ allowed).0
agent_after node events.Registered sound allowed = (checked _ _ _ allowed).0
agent_after node (events.Stage staged) sound allowed = (checked _ _ _ allowed).0
agent_after node (events.Promote report) sound allowed = (checked _ _ _ allowed).0
agent_after node (events.Note report) sound allowed = (checked _ _ _ allowed).0
agent_after node (events.AskReboot report) sound allowed = (checked _ _ _ allowed).0
agent_after node events.Boot sound allowed =
    has_agent node (λ none. true_false node.reboot (checked _ _ _ allowed).0 (sound.bare none).reboot)
agent_after node (events.Sent job) sound allowed =
    has_agent node (λ none.
    true_false (list_any (is_unsent job) node.reports) (checked _ NoReport None allowed).0
    (ap (λ (l : List Kept). list_any (is_unsent job) l) (sound.bare none).reports))
agent_after node (events.Remove Pending) sound allowed = (checked _ _ _ allowed).0
agent_after node (events.Remove Current) sound allowed = (checked _ _ _ allowed).0
agent_after node (events.Remove Previous) sound allowed = (checked _ _ _ allowed).0
agent_after node events.Restore sound allowed =
    has_agent node (λ none. true_false (is_some node.previous) (checked _ _ _ allowed).0 (ap (λ (o : Option (List Part)). is_some o) (sound.bare none).previous))

pub steps_have_agents : StepsHaveAgents
steps_have_agents old event new sound step = subst (λ (n : Node). IsSome n.agent) (sym step.is) (agent_after old event sound step.allowed)

-- ---- a new node

no_middle : (a : List ℕ) (r : ℕ) (b : List ℕ) → [] ≡ a ++ r ∷ b → ⊥
no_middle [] r b is = cc is
no_middle (x ∷ a) r b is = cc is

usual_ordered : HasPartsOrder usual
usual_ordered = (
  [],
  record {
    all = λ r below. absurd (omega arith);
    once = λ a r b is. absurd (no_middle a r b is);
    earliest = λ a r b is. absurd (no_middle a r b is);
  },
)

pub new_sound : Sound new_node
new_sound = record {
  pending = tt;
  current = tt;
  previous = tt;
  reports = record {
    rise = λ i j d before within. absurd (omega arith);
    below = λ k d within. absurd (omega arith);
    few = omega arith;
    sizes = λ k d within. absurd (omega arith);
  };
  meta = record { is = inr refl; ordered = usual_ordered };
  bare = λ none. record { pending = refl; current = refl; previous = refl; reboot = refl; reports = refl; registered = refl };
  server = λ registered. cc registered;
}
