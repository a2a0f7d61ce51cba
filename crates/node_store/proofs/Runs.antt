-- The nodes that bodies in full lead to, one body after the other.
use Rattle.std.proofs.Common.{◌≡◌, List, ℕ, Bool, true, false, [], ◌∷◌, ◌++◌, map, refl, sym, ap, ◌∙◌, subst, Result, Ok, Err}
use Rattle.std.specs.Prelude.{IfOk}
use Rattle.std.specs.List.{AllByRecursion}
use Rattle.std.proofs.lemmas.List.{append-nil, map-append}
use Rattle.gate_log.specs.declared.replay.TakeError.{TakeError}
use Rattle.gate_log.specs.declared.replay.TakeError.TheVariants.{Refused, Memory}
use Rattle.node_state.specs.declared.node.Node.{Node}
use Rattle.node_state.specs.declared.event.Event.{Event}
use Rattle.node_state.specs.declared.piece.Piece.{Piece}
use Rattle.node_state.specs.Table.{Steps, new_node}
use Rattle.node_state.specs.Pieces.{Builds, IsPiece, fits, placed}
use Rattle.node_store.specs.declared.body.Body.{Body}
use Rattle.node_store.specs.declared.body.Body.TheVariants as kinds
use Rattle.node_store.specs.Bodies.{IsBody, IsEventInRange, IsPieceInRange, body_of_event, body_of_piece}
use Rattle.node_store.specs.Digests.{format_body}
use Rattle.node_store.specs.Stands.{LeadsInFull}
use Rattle.node_store.specs.Taking.{Goes, Moves, Reached, Took, TookBody, has_events}
use Rattle.node_store.proofs.ByKind.{of_kind}
use Rattle.node_store.proofs.OneBody.{one_body}
use Rattle.node_store.proofs.Replay.{leads-push}

-- ---- runs

-- bodies make of the node another one, one after the other
abbrev pub Runs : Node → Bool → List (List ℕ) → Node → Bool → Type 0
Runs old begun [] new after = (new ≡ old) × (after ≡ begun)
Runs old begun (body ∷ bodies) new after = (mid : Node) × (flag : Bool) × Moves old begun body mid flag × Runs mid flag bodies new after

goes_one : (old : Node) (begun : Bool) (of : Body) (a b : Node) (x y : Bool) → Goes old begun of a x → Goes old begun of b y → (a ≡ b) × (x ≡ y)
goes_one old begun (kinds.Event event) a b x y p q = (p.0.is ∙ sym q.0.is, p.1 ∙ sym q.1)
goes_one old begun (kinds.Piece piece) a b x y p q = (p.2 ∙ sym q.2, p.3 ∙ sym q.3)

moves_one : (old : Node) (begun : Bool) (body : List ℕ) (a b : Node) (x y : Bool) → Moves old begun body a x → Moves old begun body b y → (a ≡ b) × (x ≡ y)
moves_one old begun body a b x y p q =
    goes_one old begun q.of a b x y (subst (λ (of : Body). Goes old begun of a x) (one_body body p.of q.of p.is q.is) p.goes) q.goes

pub runs_one : (old : Node) (begun : Bool) (bodies : List (List ℕ)) (a b : Node) (x y : Bool) → Runs old begun bodies a x → Runs old begun bodies b y → (a ≡ b) × (x ≡ y)
runs_one old begun [] a b x y p q = (p.0 ∙ sym q.0, p.1 ∙ sym q.1)
runs_one old begun (body ∷ bodies) a b x y (m, f, p, more) (n, g, q, rest) =
    let s = moves_one old begun body n m g f q p in
    runs_one m f bodies a b x y more (subst (λ (k : Bool). Runs m k bodies b y) s.1 (subst (λ (k : Node). Runs k g bodies b y) s.0 rest))

-- the last body, after the others
runs_last : (old : Node) (begun : Bool) (bodies : List (List ℕ)) (body : List ℕ) (new : Node) (after : Bool) → Runs old begun (bodies ++ body ∷ []) new after
    → (mid : Node) × (flag : Bool) × Runs old begun bodies mid flag × Moves mid flag body new after
runs_last old begun [] body new after (m, f, move, (is, same)) =
    (old, begun, (refl, refl), subst (λ (k : Bool). Moves old begun body new k) (sym same) (subst (λ (n : Node). Moves old begun body n f) (sym is) move))
runs_last old begun (b ∷ bodies) body new after (m, f, move, rest) =
    let r = runs_last m f bodies body new after rest in
    (r.0, r.1, (m, f, move, r.2), r.3)

-- ---- what leads to a node runs to it

fronts_run : (old first : Node) (front : List Piece) → Builds old front first → AllByRecursion IsPieceInRange front
    → (more : List (List ℕ)) (new : Node) (after : Bool) → Runs first false more new after → Runs old false (map body_of_piece front ++ more) new after
fronts_run old first [] is ranges more new after runs = subst (λ (n : Node). Runs n false more new after) is runs
fronts_run old first (piece ∷ front) (whole, fit, rest) ranges more new after runs = (
  placed old piece,
  false,
  record { of = kinds.Piece piece; is = (refl, ranges.0, whole); goes = (refl, fit, refl, refl) },
  fronts_run (placed old piece) first front rest ranges.1 more new after runs,
)

later_run : (old new : Node) (events : List Event) → Steps old events new → AllByRecursion IsEventInRange events → Runs old true (map body_of_event events) new true
later_run old new [] is ranges = (is, refl)
later_run old new (event ∷ events) (mid, step, rest) ranges =
    (mid, true, record { of = kinds.Event event; is = (refl, ranges.0, step.within); goes = (step, refl) }, later_run mid new events rest ranges.1)

events_run : (old new : Node) (events : List Event) → Steps old events new → AllByRecursion IsEventInRange events → Runs old false (map body_of_event events) new (has_events events)
events_run old new [] is ranges = (is, refl)
events_run old new (event ∷ events) (mid, step, rest) ranges =
    (mid, true, record { of = kinds.Event event; is = (refl, ranges.0, step.within); goes = (step, refl) }, later_run mid new events rest ranges.1)

pub leads_run : (bodies : List (List ℕ)) (node : Node) (leads : LeadsInFull bodies node) → Runs new_node false bodies node (has_events leads.events)
leads_run bodies node leads =
    subst (λ (l : List (List ℕ)). Runs new_node false l node (has_events leads.events)) (sym leads.is)
    (fronts_run new_node leads.first leads.front leads.builds leads.pieces (map body_of_event leads.events) node (has_events leads.events)
    (events_run leads.first node leads.events leads.steps leads.ranges))

-- a Format is of no event and no piece
pub no_format : (rest : List (List ℕ)) (node : Node) → LeadsInFull (format_body ∷ rest) node → ⊥
no_format rest node leads =
    let run = leads_run (format_body ∷ rest) node leads in
    of_kind 15 (2 ∷ []) run.2.of run.2.is

-- ---- one body more

more_events : (events : List Event) (event : Event) → has_events (events ++ event ∷ []) ≡ true
more_events [] event = refl
more_events (e ∷ events) event = refl

no_events : (events : List Event) → false ≡ has_events events → events ≡ []
no_events [] is = refl
no_events (event ∷ events) is = cc is

builds-push : (old mid : Node) (front : List Piece) (piece : Piece) → Builds old front mid → IsPiece piece → fits mid piece ≡ true → Builds old (front ++ piece ∷ []) (placed mid piece)
builds-push old mid [] piece is whole fit = (whole, subst (λ (n : Node). fits n piece ≡ true) is fit, ap (λ (n : Node). placed n piece) is)
builds-push old mid (p ∷ front) piece (w, f, rest) whole fit = (w, f, builds-push (placed old p) mid front piece rest whole fit)

pieces-push : (front : List Piece) (piece : Piece) → AllByRecursion IsPieceInRange front → IsPieceInRange piece → AllByRecursion IsPieceInRange (front ++ piece ∷ [])
pieces-push [] piece all range = (range, tt)
pieces-push (p ∷ front) piece all range = (all.0, pieces-push front piece all.1 range)

-- pieces alone, and one piece more
abbrev piece-push : (mid : Node) (bodies : List (List ℕ)) (body : List ℕ) (piece : Piece) (leads : LeadsInFull bodies mid) → leads.events ≡ [] → IsBody body (kinds.Piece piece) → fits mid piece ≡ true
    → LeadsInFull (bodies ++ body ∷ []) (placed mid piece)
piece-push mid bodies body piece leads none is fit =
    let whole : bodies ≡ map body_of_piece leads.front =
    leads.is ∙ ap (λ (l : List Event). map body_of_piece leads.front ++ map body_of_event l) none ∙ append-nil (map body_of_piece leads.front) in
    let same : mid ≡ leads.first = subst (λ (l : List Event). Steps leads.first l mid) none leads.steps in
    let front = leads.front ++ piece ∷ [] in
    record {
      front = front;
      events = [];
      first = placed mid piece;
      is = (λ i. whole i ++ is.0 i ∷ []) ∙ sym (map-append body_of_piece leads.front (piece ∷ [])) ∙ sym (append-nil (map body_of_piece front));
      builds = builds-push new_node mid leads.front piece (subst (λ (n : Node). Builds new_node leads.front n) (sym same) leads.builds) is.2 fit;
      steps = refl;
      pieces = pieces-push leads.front piece leads.pieces is.1;
      ranges = tt;
    }

pub reached_by : (old new : Node) (begun after : Bool) (bodies : List (List ℕ)) (body : List ℕ) (of : Body) → Reached old begun bodies → IsBody body of → Goes old begun of new after → Reached new after (bodies ++ body ∷ [])
reached_by old new begun after bodies body (kinds.Event event) reached is goes = record {
  leads = leads-push old new bodies body event reached.leads is.0 is.1 goes.0;
  is_begun = goes.1 ∙ sym (more_events reached.leads.events event);
}
reached_by old new begun after bodies body (kinds.Piece piece) reached is goes =
    let leads = piece-push old bodies body piece reached.leads (no_events reached.leads.events (sym goes.0 ∙ reached.is_begun)) is goes.1 in
    subst (λ (n : Node). Reached n after (bodies ++ body ∷ [])) (sym goes.2) (record { leads = leads; is_begun = goes.3 })

-- where the bodies with one more lead to a node, that one makes it of the node before
pub last_moves : (old new : Node) (begun : Bool) (bodies : List (List ℕ)) (body : List ℕ) → Reached old begun bodies → (leads : LeadsInFull (bodies ++ body ∷ []) new) → Moves old begun body new (has_events leads.events)
last_moves old new begun bodies body reached leads =
    let last = runs_last new_node false bodies body new (has_events leads.events) (leads_run (bodies ++ body ∷ []) new leads) in
    let s = runs_one new_node false bodies last.0 old last.1 (has_events reached.leads.events) last.2 (leads_run bodies old reached.leads) in
    let there = subst (λ (n : Node). Moves n last.1 body new (has_events leads.events)) s.0 last.3 in
    subst (λ (k : Bool). Moves old k body new (has_events leads.events)) (s.1 ∙ sym reached.is_begun) there

-- ---- what taking answers

pub nothing_reached : Reached new_node false []
nothing_reached = record {
  leads = record { front = []; events = []; first = new_node; is = refl; builds = refl; steps = refl; pieces = tt; ranges = tt };
  is_begun = refl;
}

pub body_is : {E : Type 0} (bytes : List ℕ) (result : Result Body E) (read of : Body) → result ≡ Ok read → read ≡ of → IfOk result (λ b. IsBody bytes b) → IsBody bytes of
body_is {E} bytes result read of is same found =
    subst (λ (b : Body). IsBody bytes b) same (subst (λ (r : Result Body E). IfOk r (λ b. IsBody bytes b)) is found)

pub took_body : (old new : Node) (begun after : Bool) (body : List ℕ) (of : Body) (result : Result (Unit {0}) TakeError) → Took old begun of new after result → IsBody body of → TookBody old begun body new after result
took_body old new begun after body of (Ok v) took is = record { of = of; is = is; goes = took }
took_body old new begun after body of (Err Refused) took is = λ next flag moves.
    took next flag (subst (λ (b : Body). Goes old begun b next flag) (one_body body moves.of of moves.is is) moves.goes)
took_body old new begun after body of (Err Memory) took is = tt
