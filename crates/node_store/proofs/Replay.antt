-- One body more.
use Rattle.std.proofs.Common.{◌≡◌, inl, inr, List, ℕ, Option, true, false, [], ◌∷◌, ◌++◌, map, refl, sym, ap, ◌∙◌, subst, None, append_assoc}
use Rattle.std.specs.List.{AllByRecursion}
use Rattle.std.proofs.lemmas.List.{append-nil, map-append}
use Rattle.dsc_outside.specs.declared.disk.Disk.{Ghosts}
use Rattle.dsc_outside.proofs.Moments.{weaker}
use Rattle.gate_log.specs.Kept.{IsEither, StandsBy}
use Rattle.gate_log.specs.Standing.{StandsAtAnyMoment, StandsFor}
use Rattle.node_state.specs.declared.node.Node.{Node}
use Rattle.node_state.specs.declared.event.Event.{Event}
use Rattle.node_state.specs.declared.event.Event.TheVariants as events
use Rattle.node_state.specs.declared.piece.Piece.{Piece}
use Rattle.node_state.specs.Table.{IsWithin, Step, Steps, after, new_node, refusal}
use Rattle.node_state.specs.Pieces.{Builds}
use Rattle.node_store.specs.Bodies.{IsEventInRange, IsPieceInRange, body_of_event, body_of_piece}
use Rattle.node_store.specs.Digests.{Blobs, Told, is_plain, kind_of, nothing_told}
use Rattle.node_store.specs.Stands.{BeforeOrAfter, LeadTo, LeadsByDigests, LeadsInFull, Stands, node_shape}
use Rattle.node_store.specs.Growing.{is_stage}
use Rattle.node_store.proofs.Formats.{kept_as, leads_in}
use Rattle.node_store.proofs.Unfolded.{unfolds_push}

pub steps-push : (old mid new : Node) (events : List Event) (event : Event) → Steps old events mid → Step mid event new → Steps old (events ++ event ∷ []) new
steps-push old mid new [] event is step = (new, subst (λ (n : Node). Step n event new) is step, refl)
steps-push old mid new (e ∷ events) event (m, t, more) step = (m, t, steps-push m mid new events event more step)

pub ranges-push : (events : List Event) (event : Event) → AllByRecursion IsEventInRange events → IsEventInRange event → AllByRecursion IsEventInRange (events ++ event ∷ [])
ranges-push [] event all range = (range, tt)
ranges-push (e ∷ events) event all range = (all.0, ranges-push events event all.1 range)

abbrev pub leads-push : (mid new : Node) (bodies : List (List ℕ)) (body : List ℕ) (event : Event) → LeadsInFull bodies mid → body ≡ body_of_event event → IsEventInRange event → Step mid event new
    → LeadsInFull (bodies ++ body ∷ []) new
leads-push mid new bodies body event leads spells range step = record {
  front = leads.front;
  events = leads.events ++ event ∷ [];
  first = leads.first;
  is = (λ i. leads.is i ++ spells i ∷ []) ∙ append_assoc (map body_of_piece leads.front) (map body_of_event leads.events) (body_of_event event ∷ [])
      ∙ ap (λ (l : List (List ℕ)). map body_of_piece leads.front ++ l) (sym (map-append body_of_event leads.events (event ∷ [])));
  builds = leads.builds;
  steps = steps-push leads.first mid new leads.events event leads.steps step;
  pieces = leads.pieces;
  ranges = ranges-push leads.events event leads.ranges range;
}

pub built_leads : (front : List Piece) (node : Node) → Builds new_node front node → AllByRecursion IsPieceInRange front → LeadsInFull (map body_of_piece front) node
built_leads front node builds ranges = record {
  front = front;
  events = [];
  first = node;
  is = sym (append-nil (map body_of_piece front));
  builds = builds;
  steps = refl;
  pieces = ranges;
  ranges = tt;
}

-- ---- one event more, in either format

-- a body of an event other than a Stage says itself
plain_event : (event : Event) → is_stage event ≡ false → is_plain (kind_of (body_of_event event)) ≡ true
plain_event (events.Init agent) appended = refl
plain_event (events.SetMeta meta) appended = refl
plain_event events.Registered appended = refl
plain_event (events.Stage staged) appended = absurd (cc appended)
plain_event (events.Promote report) appended = refl
plain_event (events.Note report) appended = refl
plain_event (events.AskReboot report) appended = refl
plain_event events.Boot appended = refl
plain_event (events.Sent job) appended = refl
plain_event (events.Remove stage) appended = refl
plain_event events.Restore appended = refl

-- bodies of format 2, and one more that says itself
pub by_digests-push : (blobs : Blobs) (mid new : Node) (bodies : List (List ℕ)) (body : List ℕ) (event : Event) → LeadsByDigests blobs bodies mid → is_stage event ≡ false → body ≡ body_of_event event → IsEventInRange event → Step mid event new
    → LeadsByDigests blobs (bodies ++ body ∷ []) new
by_digests-push blobs mid new bodies body event leads appended spells range step =
    let told : Told = record { blobs = blobs; said = leads.said ++ body ∷ [] } in
    record {
      rest = leads.rest ++ body ∷ [];
      said = told.said;
      is = ap (λ (l : List (List ℕ)). l ++ body ∷ []) leads.is;
      unfolds = unfolds_push leads.rest body nothing_told (record { blobs = blobs; said = leads.said }) told leads.unfolds
          (inr (record { full = body; says = inr (inr (record { plain = ap (λ (l : List ℕ). is_plain (kind_of l)) spells ∙ plain_event event appended; says = refl })); same = refl; more = refl }));
      leads = leads-push mid new leads.said body event leads.leads spells range step;
    }

-- ---- images

-- the node after an allowed event is one step on
pub stepped : {D : Type 0} (d : Ghosts D) (before now : D) (node : Node) (event : Event) (from to : Option Blobs) → IsWithin event → refusal node event ≡ None
    → StandsAtAnyMoment d before now (StandsBy node_shape LeadTo) (IsEither (kept_as node from) (kept_as (after node event) to)) → StandsAtAnyMoment d before now Stands (BeforeOrAfter node event)
stepped d before now node event from to within allowed any =
    weaker d.moment d.left_since before now (StandsFor (StandsBy node_shape LeadTo) (IsEither (kept_as node from) (kept_as (after node event) to))) (StandsFor Stands (BeforeOrAfter node event)) any (λ c s. record {
      value = s.value.0;
      stands = record { bodies = s.stands.bodies; gives = s.stands.gives; leads = leads_in s.value.1 s.stands.bodies s.value.0 s.stands.leads };
      has = by s.value s.has;
    })
  where
    by : (n : Node × Option Blobs) → IsEither (kept_as node from) (kept_as (after node event) to) n → BeforeOrAfter node event n.0
    by n (inl same) = inl (ap (λ (k : Node × Option Blobs). k.0) same)
    by n (inr same) = inr (record { within = within; allowed = allowed; is = ap (λ (k : Node × Option Blobs). k.0) same })
