-- The texts of a node to which bodies of format 2 lead are those of Blobs.
use Rattle.std.proofs.Common.{◌≡◌, inl, inr, ℕ, Bool, true, false, List, [], ◌∷◌, ◌++◌, refl, sym, ap, ◌∙◌, subst, arith, append_assoc}
use Rattle.std.proofs.lemmas.List.{append-nil, append_cancel_left}
use Rattle.partial_merge.specs.declared.part.Part.{Part}
use Rattle.node_state.specs.declared.event.Event.{Event}
use Rattle.node_state.specs.declared.event.Event.TheVariants as events
use Rattle.node_state.specs.declared.event.Stage.{Stage}
use Rattle.node_state.specs.declared.event.Stage.TheVariants.{Pending, Current, Previous}
use Rattle.node_state.specs.declared.list.Staged.{Staged}
use Rattle.node_state.specs.declared.node.Node.{Node}
use Rattle.node_state.specs.declared.piece.Piece.{Piece}
use Rattle.node_state.specs.declared.piece.Piece.TheVariants as pieces
use Rattle.node_state.specs.Pieces.{placed}
use Rattle.node_state.specs.StagedParts.{parts_of}
use Rattle.node_state.specs.Table.{after, new_node}
use Rattle.node_store.specs.declared.body.Body.{Body}
use Rattle.node_store.specs.declared.body.Body.TheVariants as kinds
use Rattle.node_store.specs.Bodies.{IsBody}
use Rattle.node_store.specs.Digests.{Blobs, Resolves, Says, Told, Unfolds, is_plain, kind_of, nothing_told, texts_in, texts_of, texts_of_node}
use Rattle.node_store.specs.Growing.{AllAmong}
use Rattle.node_store.specs.Parts.{AreParts, bytes_of_parts}
use Rattle.node_store.specs.Resolving.{after_kind}
use Rattle.node_store.specs.Stands.{LeadsByDigests}
use Rattle.node_store.specs.Taking.{Goes, has_events}
use Rattle.node_store.proofs.Heads.{stage_unique}
use Rattle.node_store.proofs.Lacking.{all_both, all_first, all_more, all_second, among_parts}
use Rattle.node_store.proofs.Meaning.{told_as}
use Rattle.node_store.proofs.OneBody.{parts_unique}
use Rattle.node_store.proofs.Runs.{Runs, leads_run}
use Rattle.node_store.proofs.Unfolded.{unfolds_said}

-- ---- the slots of a node

module _ (blobs : Blobs) (node : Node) (all : AllAmong blobs (texts_of_node node)) where
  pub of_pending : AllAmong blobs (texts_in node.pending)
  of_pending = all_first blobs (texts_in node.pending) (texts_in node.current ++ texts_in node.previous) all

  of_others : AllAmong blobs (texts_in node.current ++ texts_in node.previous)
  of_others = all_second blobs (texts_in node.pending) (texts_in node.current ++ texts_in node.previous) all

  pub of_current : AllAmong blobs (texts_in node.current)
  of_current = all_first blobs (texts_in node.current) (texts_in node.previous) of_others

  pub of_previous : AllAmong blobs (texts_in node.previous)
  of_previous = all_second blobs (texts_in node.current) (texts_in node.previous) of_others

joined : (blobs : Blobs) (node : Node) → AllAmong blobs (texts_in node.pending) → AllAmong blobs (texts_in node.current) → AllAmong blobs (texts_in node.previous) → AllAmong blobs (texts_of_node node)
joined blobs node pending current previous =
    all_both blobs (texts_in node.pending) (texts_in node.current ++ texts_in node.previous) pending (all_both blobs (texts_in node.current) (texts_in node.previous) current previous)

-- the texts of a node after an event are those before it, and those of a Stage
pub after_among : (blobs : Blobs) (node : Node) (event : Event) → AllAmong blobs (texts_of_node node) → ((staged : Staged) → event ≡ events.Stage staged → AllAmong blobs (texts_of (parts_of staged)))
    → AllAmong blobs (texts_of_node (after node event))
after_among blobs node (events.Init agent) all new = all
after_among blobs node (events.SetMeta meta) all new = all
after_among blobs node events.Registered all new = all
after_among blobs node (events.Stage staged) all new = joined blobs (after node (events.Stage staged)) (new staged refl) (of_current blobs node all) (of_previous blobs node all)
after_among blobs node (events.Promote report) all new = joined blobs (after node (events.Promote report)) tt (of_pending blobs node all) (of_current blobs node all)
after_among blobs node (events.Note report) all new = all
after_among blobs node (events.AskReboot report) all new = all
after_among blobs node events.Boot all new = all
after_among blobs node (events.Sent job) all new = all
after_among blobs node (events.Remove Pending) all new = joined blobs (after node (events.Remove Pending)) tt (of_current blobs node all) (of_previous blobs node all)
after_among blobs node (events.Remove Current) all new = joined blobs (after node (events.Remove Current)) (of_pending blobs node all) tt (of_previous blobs node all)
after_among blobs node (events.Remove Previous) all new = joined blobs (after node (events.Remove Previous)) (of_pending blobs node all) (of_current blobs node all) tt
after_among blobs node events.Restore all new = joined blobs (after node events.Restore) (of_previous blobs node all) (of_current blobs node all) (of_previous blobs node all)

-- ---- one body

module _ (blobs : Blobs) (body full : List ℕ) where
  resolved : (marks bytes : List ℕ) (parts : List Part) → Resolves blobs marks bytes → AreParts parts → bytes ≡ bytes_of_parts parts → AllAmong blobs (texts_of parts)
  resolved marks bytes parts r ranges is =
      subst (λ (l : List Part). AllAmong blobs (texts_of l)) (parts_unique bytes r.parts parts (record { in_range = r.ranges; is = r.says }) (record { in_range = ranges; is = is }))
      (among_parts blobs r.parts r.among)

  -- what says a Stage in full names Blobs
  stage_among : (staged : Staged) → Says blobs body full → IsBody full (kinds.Event (events.Stage staged)) → AllAmong blobs (texts_of (parts_of staged))
  stage_among staged (inl s) is = resolved s.marks s.parts (parts_of staged) s.resolves is.1 (ap (λ (l : List ℕ). after_kind l) (sym s.says ∙ is.0))
  stage_among staged (inr (inl s)) is = absurd (omega (arith, ap kind_of (sym s.says ∙ is.0)))
  stage_among staged (inr (inr s)) is = let no : true ≡ false = sym s.plain ∙ ap (λ (l : List ℕ). is_plain (kind_of l)) (sym s.says ∙ is.0) in absurd (cc no)

  -- and so does what says a Slot
  slot_among : (stage : Stage) (parts : List Part) → Says blobs body full → IsBody full (kinds.Piece (pieces.Slot stage parts)) → AllAmong blobs (texts_of parts)
  slot_among stage parts (inl s) is = absurd (omega (arith, ap kind_of (sym s.says ∙ is.0)))
  slot_among stage parts (inr (inl s)) is =
      let both = stage_unique s.stage stage s.parts (bytes_of_parts parts) tt tt (ap (λ (l : List ℕ). after_kind l) (sym s.says ∙ is.0)) in
      resolved s.marks s.parts parts s.resolves is.1.0 both.1
  slot_among stage parts (inr (inr s)) is = let no : true ≡ false = sym s.plain ∙ ap (λ (l : List ℕ). is_plain (kind_of l)) (sym s.says ∙ is.0) in absurd (cc no)

  placed_among : (node : Node) (piece : Piece) → Says blobs body full → IsBody full (kinds.Piece piece) → AllAmong blobs (texts_of_node node) → AllAmong blobs (texts_of_node (placed node piece))
  placed_among node (pieces.Base agent registered reboot next_job meta) says is all = all
  placed_among node (pieces.Slot Pending parts) says is all = joined blobs (placed node (pieces.Slot Pending parts)) (slot_among Pending parts says is) (of_current blobs node all) (of_previous blobs node all)
  placed_among node (pieces.Slot Current parts) says is all = joined blobs (placed node (pieces.Slot Current parts)) (of_pending blobs node all) (slot_among Current parts says is) (of_previous blobs node all)
  placed_among node (pieces.Slot Previous parts) says is all = joined blobs (placed node (pieces.Slot Previous parts)) (of_pending blobs node all) (of_current blobs node all) (slot_among Previous parts says is)
  placed_among node (pieces.Kept kept) says is all = all

  goes_among : (old new : Node) (begun after_it : Bool) (of : Body) → Says blobs body full → IsBody full of → Goes old begun of new after_it → AllAmong blobs (texts_of_node old) → AllAmong blobs (texts_of_node new)
  goes_among old new begun after_it (kinds.Event event) says is goes all =
      subst (λ (n : Node). AllAmong blobs (texts_of_node n)) (sym goes.0.is)
      (after_among blobs old event all (λ staged same. stage_among staged says (subst (λ (e : Event). IsBody full (kinds.Event e)) same is)))
  goes_among old new begun after_it (kinds.Piece piece) says is goes all = subst (λ (n : Node). AllAmong blobs (texts_of_node n)) (sym goes.2) (placed_among old piece says is all)

-- ---- bodies, one after the other

told_blobs : (blobs : Blobs) (said : List (List ℕ)) (old : Told) → told_as blobs said ≡ old → blobs ≡ old.blobs
told_blobs blobs said old is = ap (λ (t : Told). t.blobs) is

run_among : (rest : List (List ℕ)) (old : Told) (blobs : Blobs) (said more : List (List ℕ)) (from node : Node) (begun flag : Bool) → Unfolds old rest (told_as blobs said) → said ≡ old.said ++ more
    → Runs from begun more node flag → AllAmong old.blobs (texts_of_node from) → AllAmong blobs (texts_of_node node)
run_among [] old blobs said more from node begun flag is split runs all =
    let none : more ≡ [] = append_cancel_left old.said more [] (sym split ∙ ap (λ (t : Told). t.said) is ∙ sym (append-nil old.said)) in
    let same : node ≡ from = (subst (λ (l : List (List ℕ)). Runs from begun l node flag) none runs).0 in
    subst (λ (b : Blobs). AllAmong b (texts_of_node node)) (sym (told_blobs blobs said old is)) (subst (λ (n : Node). AllAmong old.blobs (texts_of_node n)) (sym same) all)
run_among (body ∷ rest) old blobs said more from node begun flag (mid, inl t, unfolds) split runs all =
    run_among rest mid blobs said more from node begun flag unfolds (split ∙ ap (λ (l : List (List ℕ)). l ++ more) (sym t.same)) runs
    (subst (λ (b : Blobs). AllAmong b (texts_of_node from)) (sym t.blob.adds) (all_more old.blobs (t.blob.bytes ∷ []) (texts_of_node from) all))
run_among (body ∷ rest) old blobs said more from node begun flag (mid, inr t, unfolds) split runs all =
    let later = unfolds_said rest mid (told_as blobs said) unfolds in
    let whole : said ≡ old.said ++ (t.full ∷ later.0) = later.1 ∙ ap (λ (l : List (List ℕ)). l ++ later.0) t.more ∙ append_assoc old.said (t.full ∷ []) later.0 in
    let first : more ≡ t.full ∷ later.0 = append_cancel_left old.said more (t.full ∷ later.0) (sym split ∙ whole) in
    let run = subst (λ (l : List (List ℕ)). Runs from begun l node flag) first runs in
    run_among rest mid blobs said later.0 run.0 node run.1 flag unfolds later.1 run.3
    (subst (λ (b : Blobs). AllAmong b (texts_of_node run.0)) (sym t.same) (goes_among old.blobs body t.full from run.0 begun run.1 run.2.of t.says run.2.is run.2.goes all))

-- the texts of the node to which they lead are Blobs
pub leads_among : (blobs : Blobs) (bodies : List (List ℕ)) (node : Node) → LeadsByDigests blobs bodies node → AllAmong blobs (texts_of_node node)
leads_among blobs bodies node leads =
    run_among leads.rest nothing_told blobs leads.said leads.said new_node node false (has_events leads.leads.events) leads.unfolds refl (leads_run leads.said node leads.leads) tt
