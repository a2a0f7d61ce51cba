-- A sound node is made of its pieces, and what pieces make is sound.
use Rattle.std.proofs.Common.{◌≡◌, ℕ, zero, suc, ◌+◌, ◌<◌, ◌≤◌, Bool, true, false, List, [], ◌∷◌, ◌++◌, length, map, Option, Some, None, is_some, is_none, refl, sym, ap, subst, arith, append_assoc, length-append, get_or}
use Rattle.std.specs.Prelude.{All, AllPairs, IfSome, IsSome, not, ◌&&◌, ◌||◌}
use Rattle.std.specs.List.{list_all}
use Rattle.std.proofs.lemmas.Bool.{lt-ltb, le-leb, ltb-true, leb-true}
use Rattle.std.proofs.lemmas.List.{append-nil, length-map}
use Rattle.std.proofs.lemmas.List.Elements.{All-append}
use Rattle.std.proofs.lemmas.List.Quantifiers.{all_pairs_push}
use Rattle.partial_merge.specs.declared.part.Part.{Part}
use Rattle.report_log.specs.Sizes.{ReportInSize}
use Rattle.meta_config.specs.declared.server.Server.{Server}
use Rattle.node_state.specs.declared.node.Kept.{Kept}
use Rattle.node_state.specs.declared.node.Node.{Node}
use Rattle.node_state.specs.declared.piece.Piece.{Piece}
use Rattle.node_state.specs.declared.piece.Piece.TheVariants as pieces
use Rattle.node_state.specs.declared.event.Stage.{Stage}
use Rattle.node_state.specs.declared.event.Stage.TheVariants.{Pending, Current, Previous}
use Rattle.node_state.specs.Lists.{IsStaged}
use Rattle.node_state.specs.Table.{new_node}
use Rattle.node_state.specs.Sound.{AreKept, Sound}
use Rattle.node_state.specs.Pieces.{base_of, slot_of, report_of, is_before, fits, placed, IsPiece, Builds, FrontsBuild, FrontsAreSmall, BuiltIsSound}
use Rattle.node_state.proofs.SoundSteps.{agent_there, only_one, new_sound, Rises}
use Rattle.node_state.specs.declared.limits.TheConstants.{MAX_REPORTS, OLDER_REPORTS}

pub both_true : (a b : Bool) → a ≡ true → b ≡ true → (a && b) ≡ true
both_true true true p q = refl
both_true true false p q = q
both_true false b p q = p

pub both_parts : (a b : Bool) → (a && b) ≡ true → (a ≡ true) × (b ≡ true)
both_parts true b is = (refl, is)
both_parts false b is = cc is

-- ---- a sound node is made of its pieces

builds-append : (old mid new : Node) (xs ys : List Piece) → Builds old xs mid → Builds mid ys new → Builds old (xs ++ ys) new
builds-append old mid new [] ys is more = subst (λ (n : Node). Builds n ys new) is more
builds-append old mid new (x ∷ xs) ys (p, f, rest) more = (p, f, builds-append (placed old x) mid new xs ys rest more)

abbrev with_pending : Option (List Part) → Node → Node
with_pending slot node = record node { pending = slot }

abbrev with_current : Option (List Part) → Node → Node
with_current slot node = record node { current = slot }

abbrev with_previous : Option (List Part) → Node → Node
with_previous slot node = record node { previous = slot }

abbrev with_reports : List Kept → Node → Node
with_reports reports node = record node { reports = reports }

-- a node of an agent that has nothing else to be placed
abbrev bare : ℕ → Node → Node
bare agent node = placed new_node (base_of agent node)

pending_built : (agent : ℕ) (node : Node) (slot : Option (List Part)) → IfSome slot IsStaged
    → Builds (bare agent node) (slot_of Pending slot) (with_pending slot (bare agent node))
pending_built agent node None staged = refl
pending_built agent node (Some parts) staged = (staged, refl, refl)

current_built : (agent : ℕ) (node : Node) (pending slot : Option (List Part)) → IfSome slot IsStaged
    → Builds (with_pending pending (bare agent node)) (slot_of Current slot) (with_current slot (with_pending pending (bare agent node)))
current_built agent node pending None staged = refl
current_built agent node pending (Some parts) staged = (staged, refl, refl)

previous_built : (agent : ℕ) (node : Node) (pending current slot : Option (List Part)) → IfSome slot IsStaged
    → Builds (with_current current (with_pending pending (bare agent node))) (slot_of Previous slot)
    (with_previous slot (with_current current (with_pending pending (bare agent node))))
previous_built agent node pending current None staged = refl
previous_built agent node pending current (Some parts) staged = (staged, refl, refl)

-- the jobs of the reports that are placed are below the next one's
all_before : (job : ℕ) (reports : List Kept) → All (λ (k : Kept). k.report.job < job) reports → list_all (is_before job) reports ≡ true
all_before job [] all = refl
all_before job (kept ∷ reports) all =
    both_true _ _ (lt-ltb kept.report.job job (all 0 kept (omega arith))) (all_before job reports (λ k d below. all (suc k) d (omega (arith, below))))

before_all : (job : ℕ) (reports : List Kept) → list_all (is_before job) reports ≡ true → All (λ (k : Kept). k.report.job < job) reports
before_all job [] is k d below = absurd (omega arith)
before_all job (kept ∷ reports) is zero d below = ltb-true kept.report.job job (both_parts _ _ is).0
before_all job (kept ∷ reports) is (suc k) d below = before_all job reports (both_parts _ _ is).1 k d (omega (arith, below))

reports_built : (node : Node) (done rest : List Kept) → is_some node.agent ≡ true
    → All (λ (k : Kept). k.report.job < node.next_job) rest
    → AllPairs Rises rest
    → All (λ (k : Kept). ReportInSize k.report) rest
    → ((j : ℕ) (d : Kept) → j < length rest → All (λ (k : Kept). k.report.job < (get_or rest j d).report.job) done)
    → length done + length rest ≤ MAX_REPORTS
    → Builds (with_reports done node) (map report_of rest) (with_reports (done ++ rest) node)
reports_built node done [] agent jobs rise sizes after few = ap (λ (l : List Kept). with_reports l node) (append-nil done)
reports_built node done (kept ∷ rest) agent jobs rise sizes after few = (
  sizes 0 kept (omega arith),
  both_true _ _ agent
      (both_true _ _ (lt-ltb kept.report.job node.next_job (jobs 0 kept (omega arith)))
      (both_true _ _ (all_before kept.report.job done (after 0 kept (omega arith))) (le-leb (length done) OLDER_REPORTS (omega (arith, few))))),
  subst (λ (l : List Kept). Builds (with_reports (done ++ kept ∷ []) node) (map report_of rest) (with_reports l node)) (append_assoc done (kept ∷ []) rest)
      (reports_built node (done ++ kept ∷ []) rest agent
      (λ k d below. jobs (suc k) d (omega (arith, below)))
      (λ i j d before within. rise (suc i) (suc j) d (omega (arith, before)) (omega (arith, within)))
      (λ k d below. sizes (suc k) d (omega (arith, below)))
      (λ j d below. All-append (λ (k : Kept). k.report.job < (get_or rest j d).report.job) done (kept ∷ [])
      (after (suc j) d (omega (arith, below)))
      (only_one (λ (k : Kept). k.report.job < (get_or rest j d).report.job) kept (rise 0 (suc j) d (omega arith) (omega (arith, below)))))
      (omega (arith, few, length-append done (kept ∷ [])))),
)

server_there : (registered : Bool) (server : Option Server) → (registered ≡ true → IsSome server) → (not registered || is_some server) ≡ true
server_there false server has = refl
server_there true None has = let none = has refl in cc none
server_there true (Some s) has = refl

pub fronts_build : FrontsBuild
fronts_build agent node is sound =
    let a = bare agent node in
    let b = with_pending node.pending a in
    let c = with_current node.current b in
    let d = with_previous node.previous c in
    let whole : with_reports node.reports d ≡ node = λ i. record node { agent = sym is i } in
    let kept = sound.reports in
    let reports = subst (λ (n : Node). Builds d (map report_of node.reports) n) whole
    (reports_built d [] node.reports refl kept.below kept.rise kept.sizes (λ j e below k x none. absurd (omega arith)) (omega (arith, kept.few))) in (
      sound.meta,
      server_there node.registered node.meta.server sound.server,
      builds-append a b node (slot_of Pending node.pending) _ (pending_built agent node node.pending sound.pending)
          (builds-append b c node (slot_of Current node.current) _ (current_built agent node node.pending node.current sound.current)
          (builds-append c d node (slot_of Previous node.previous) _ (previous_built agent node node.pending node.current node.previous sound.previous) reports)),
    )

slot_small : (stage : Stage) (slot : Option (List Part)) → length (slot_of stage slot) ≤ 1
slot_small stage None = omega arith
slot_small stage (Some parts) = omega arith

pub fronts_are_small : FrontsAreSmall
fronts_are_small agent node sound =
    let p = slot_of Pending node.pending in
    let c = slot_of Current node.current in
    let q = slot_of Previous node.previous in
    let r = map report_of node.reports in
    omega (
      arith,
      length-append p (c ++ (q ++ r)),
      length-append c (q ++ r),
      length-append q r,
      length-map node.reports report_of,
      slot_small Pending node.pending,
      slot_small Current node.current,
      slot_small Previous node.previous,
      sound.reports.few,
    )

-- ---- what pieces make is sound

none_there : {X : Type 0} (o : Option X) → is_none o ≡ true → o ≡ None
none_there None is = refl
none_there (Some x) is = cc is

nothing_kept : (next : ℕ) (reports : List Kept) → reports ≡ [] → AreKept next reports
nothing_kept next reports none = subst (λ (l : List Kept). AreKept next l) (sym none) (record {
  rise = λ i j d before within. absurd (omega arith);
  below = λ k d within. absurd (omega arith);
  few = omega arith;
  sizes = λ k d within. absurd (omega arith);
})

server_has : (registered : Bool) (server : Option Server) → (not registered || is_some server) ≡ true → registered ≡ true → IsSome server
server_has false server fit is = cc is
server_has true server fit is = fit

piece_sound : (node : Node) (piece : Piece) → Sound node → IsPiece piece → fits node piece ≡ true → Sound (placed node piece)
piece_sound node (pieces.Base agent registered reboot next_job meta) sound whole fit =
    let a = both_parts _ _ fit in
    let b = sound.bare (none_there node.agent a.0) in
    record {
      pending = sound.pending;
      current = sound.current;
      previous = sound.previous;
      reports = nothing_kept next_job node.reports b.reports;
      meta = whole;
      bare = λ none. cc none;
      server = server_has registered meta.server a.1;
    }
piece_sound node (pieces.Slot Pending parts) sound whole fit =
    let a = both_parts _ _ fit in
    record { pending = whole; current = sound.current; previous = sound.previous; reports = sound.reports; meta = sound.meta; bare = λ none. agent_there node.agent a.0 none; server = sound.server }
piece_sound node (pieces.Slot Current parts) sound whole fit =
    let a = both_parts _ _ fit in
    record { pending = sound.pending; current = whole; previous = sound.previous; reports = sound.reports; meta = sound.meta; bare = λ none. agent_there node.agent a.0 none; server = sound.server }
piece_sound node (pieces.Slot Previous parts) sound whole fit =
    let a = both_parts _ _ fit in
    record { pending = sound.pending; current = sound.current; previous = whole; reports = sound.reports; meta = sound.meta; bare = λ none. agent_there node.agent a.0 none; server = sound.server }
piece_sound node (pieces.Kept kept) sound whole fit =
    let a = both_parts _ _ fit in
    let b = both_parts _ _ a.1 in
    let c = both_parts _ _ b.1 in
    let below = before_all kept.report.job node.reports c.0 in
    record {
      pending = sound.pending;
      current = sound.current;
      previous = sound.previous;
      reports = record {
        rise = all_pairs_push Rises node.reports kept sound.reports.rise below;
        below = All-append (λ (k : Kept). k.report.job < node.next_job) node.reports (kept ∷ []) sound.reports.below
            (only_one (λ (k : Kept). k.report.job < node.next_job) kept (ltb-true kept.report.job node.next_job b.0));
        few = omega (arith, leb-true (length node.reports) OLDER_REPORTS c.1, length-append node.reports (kept ∷ []));
        sizes = All-append (λ (k : Kept). ReportInSize k.report) node.reports (kept ∷ []) sound.reports.sizes
            (only_one (λ (k : Kept). ReportInSize k.report) kept whole);
      };
      meta = sound.meta;
      bare = λ none. agent_there node.agent a.0 none;
      server = sound.server;
    }

built_sound : (old : Node) (made : List Piece) (new : Node) → Sound old → Builds old made new → Sound new
built_sound old [] new sound is = subst (λ (n : Node). Sound n) (sym is) sound
built_sound old (piece ∷ made) new sound (whole, fit, more) = built_sound (placed old piece) made new (piece_sound old piece sound whole fit) more

pub built_is_sound : BuiltIsSound
built_is_sound made node builds = built_sound new_node made node new_sound builds
