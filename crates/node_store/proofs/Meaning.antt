-- An image of a store stands for one sound node, or it fails and stands for none.
use Rattle.std.proofs.Common.{◌≡◌, inl, inr, ℕ, Bool, false, List, [], ◌∷◌, ◌++◌, refl, sym, ap, ◌∙◌, subst, arith, append_assoc}
use Rattle.std.proofs.lemmas.List.{append-nil}
use Rattle.gate_log.specs.Kept.{LeadFromFront, LeadSomewhere, LeadToOne}
use Rattle.gate_log.proofs.Leading.{none_by, one_by}
use Rattle.node_state.specs.declared.node.Node.{Node}
use Rattle.node_state.specs.Table.{new_node}
use Rattle.node_store.specs.Laws.{FailingStandForNone, NodesAreOne, NodesAreSound}
use Rattle.node_store.specs.Digests.{Blobs, Told, Unfolds, format_body, nothing_told}
use Rattle.node_store.specs.Stands.{Leads, LeadsByDigests, LeadsInFull, node_shape}
use Rattle.node_store.specs.Taking.{Reached, has_events}
use Rattle.node_store.proofs.Ranges.{leads_sound}
use Rattle.node_store.proofs.Runs.{Runs, leads_run, no_format, nothing_reached, reached_by, runs_one}
use Rattle.node_store.specs.Resolving.{after_kind}
use Rattle.node_store.proofs.Unfolded.{first_or, none_apart, unfolds_front, unfolds_one, unfolds_said}

-- ---- format 1

full_to_one : LeadToOne LeadsInFull
full_to_one bodies one other first second =
    (runs_one new_node false bodies one other (has_events first.events) (has_events second.events) (leads_run bodies one first) (leads_run bodies other second)).0

-- the first of bodies that make of the node another one
runs_front : (old new : Node) (begun after : Bool) (front rest : List (List ℕ)) → Runs old begun (front ++ rest) new after → (mid : Node) × (flag : Bool) × Runs old begun front mid flag
runs_front old new begun after [] rest runs = (old, begun, (refl, refl))
runs_front old new begun after (body ∷ front) rest (m, f, move, more) =
    let r = runs_front m new f after front rest more in
    (r.0, r.1, (m, f, move, r.2))

-- bodies that are reached, and more of them
runs_reach : (old new : Node) (begun after : Bool) (reached bodies : List (List ℕ)) → Reached old begun reached → Runs old begun bodies new after → Reached new after (reached ++ bodies)
runs_reach old new begun after reached [] so_far (same, flag) =
    subst (λ (l : List (List ℕ)). Reached new after l) (sym (append-nil reached))
    (subst (λ (b : Bool). Reached new b reached) (sym flag) (subst (λ (n : Node). Reached n begun reached) (sym same) so_far))
runs_reach old new begun after reached (body ∷ bodies) so_far (m, f, move, more) =
    subst (λ (l : List (List ℕ)). Reached new after l) (append_assoc reached (body ∷ []) bodies)
    (runs_reach m new f after (reached ++ body ∷ []) bodies (reached_by old m begun f reached body move.of so_far move.is move.goes) more)

-- the first of bodies that lead to a node lead to one too
full_from_front : LeadFromFront LeadsInFull
full_from_front front rest node leads =
    let first = runs_front new_node node false (has_events leads.events) front rest (leads_run (front ++ rest) node leads) in
    (first.0, (runs_reach new_node first.0 false first.1 [] front nothing_reached first.2).leads)

-- ---- both formats

abbrev pub told_as : Blobs → List (List ℕ) → Told
told_as blobs said = record { blobs = blobs; said = said }

pub lead_to_one : LeadToOne Leads
lead_to_one bodies one other (inl first) (inl second) = full_to_one bodies one other first second
lead_to_one bodies one other (inl first) (inr second) = absurd (no_format second.1.rest one (subst (λ (l : List (List ℕ)). LeadsInFull l one) second.1.is first))
lead_to_one bodies one other (inr first) (inl second) = absurd (no_format first.1.rest other (subst (λ (l : List (List ℕ)). LeadsInFull l other) first.1.is second))
lead_to_one bodies one other (inr (a, first)) (inr (b, second)) =
    let rest : first.rest ≡ second.rest = ap (λ (l : List (List ℕ)). after_kind l) (sym first.is ∙ second.is) in
    let told = unfolds_one second.rest nothing_told (told_as a first.said) (told_as b second.said) none_apart
    (subst (λ (l : List (List ℕ)). Unfolds nothing_told l (told_as a first.said)) rest first.unfolds) second.unfolds in
    full_to_one second.said one other (subst (λ (t : Told). LeadsInFull t.said one) told first.leads) second.leads

-- the first of bodies of format 2
digests_from_front : (front rest : List (List ℕ)) (blobs : Blobs) (node : Node) → LeadsByDigests blobs (front ++ rest) node → LeadSomewhere Leads front
digests_from_front [] rest blobs node leads = (new_node, inl (nothing_reached.leads))
digests_from_front (first ∷ front) rest blobs node leads =
    let told = told_as blobs leads.said in
    let same : front ++ rest ≡ leads.rest = ap (λ (l : List (List ℕ)). after_kind l) leads.is in
    let format : first ≡ format_body = ap (λ (l : List (List ℕ)). first_or [] l) leads.is in
    let halves = unfolds_front front rest nothing_told told (subst (λ (l : List (List ℕ)). Unfolds nothing_told l told) (sym same) leads.unfolds) in
    let more = unfolds_said rest halves.0 told halves.2 in
    let before = full_from_front halves.0.said more.0 node (subst (λ (l : List (List ℕ)). LeadsInFull l node) more.1 leads.leads) in
    (before.0, inr (halves.0.blobs, record { rest = front; said = halves.0.said; is = ap (λ (l : List ℕ). l ∷ front) format; unfolds = halves.1; leads = before.1 }))

-- the first of bodies that lead to a node lead to one too
pub lead_from_front : LeadFromFront Leads
lead_from_front front rest node (inl leads) = let first = full_from_front front rest node leads in (first.0, inl first.1)
lead_from_front front rest node (inr (blobs, leads)) = digests_from_front front rest blobs node leads

-- ---- images

pub one_node : NodesAreOne
one_node = one_by node_shape Leads (omega arith) lead_to_one

pub sound_node : NodesAreSound
sound_node image node stands = leads_sound stands.bodies node stands.leads

pub failing_for_none : FailingStandForNone
failing_for_none = none_by node_shape Leads (omega arith) lead_from_front
