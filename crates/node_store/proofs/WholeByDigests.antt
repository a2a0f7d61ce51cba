-- The bodies of a whole node in format 2 lead to it.
use Rattle.std.proofs.Common.{inl, inr, ℕ, Option, Some, None, List, [], ◌∷◌, ◌++◌, map, refl, ap, subst, append_assoc}
use Rattle.std.specs.List.{AllByRecursion}
use Rattle.std.proofs.lemmas.List.{append-nil}
use Rattle.store_fields.specs.Fields.{IsBlob}
use Rattle.partial_merge.specs.declared.part.Part.{Part}
use Rattle.node_state.specs.declared.event.Stage.{Stage}
use Rattle.node_state.specs.declared.event.Stage.TheVariants.{Pending, Current, Previous}
use Rattle.node_state.specs.declared.node.Kept.{Kept}
use Rattle.node_state.specs.declared.node.Node.{Node}
use Rattle.node_state.specs.declared.piece.Piece.{Piece}
use Rattle.node_state.specs.declared.piece.Piece.TheVariants as pieces
use Rattle.node_state.specs.Pieces.{front, report_of, slot_of}
use Rattle.node_store.specs.Bodies.{IsPieceInRange, body_of_piece}
use Rattle.node_store.specs.Digests.{Blobs, Told, Unfolds, blob_body, bytes_of_marks, mark_of, nothing_told, texts_in, texts_of, texts_of_node}
use Rattle.node_store.specs.Growing.{AllAmong, AreNew}
use Rattle.node_store.specs.Parts.{AreParts, bytes_of_parts}
use Rattle.node_store.specs.Stands.{LeadsByDigests, LeadsInFull}
use Rattle.node_store.specs.Whole.{body_by_digests, whole_bodies}
use Rattle.node_store.proofs.Lacking.{all_first, all_second, parts_among}
use Rattle.node_store.proofs.Meaning.{told_as}

unfolds_both : (xs ys : List (List ℕ)) (old mid new : Told) → Unfolds old xs mid → Unfolds mid ys new → Unfolds old (xs ++ ys) new
unfolds_both [] ys old mid new is rest = subst (λ (t : Told). Unfolds t ys new) is rest
unfolds_both (x ∷ xs) ys old mid new (m, tells, more) rest = (m, tells, unfolds_both xs ys m mid new more rest)

-- Blobs whose digests are new
blobs_told : (blobs texts : Blobs) (said : List (List ℕ)) → AreNew blobs texts → AllByRecursion IsBlob texts → Unfolds (told_as blobs said) (map blob_body texts) (told_as (blobs ++ texts) said)
blobs_told blobs [] said new small = ap (λ (b : Blobs). told_as b said) (append-nil blobs)
blobs_told blobs (text ∷ texts) said new small = (
  told_as (blobs ++ text ∷ []) said,
  inl (record { blob = record { bytes = text; is = refl; range = small.0; new = new.0; adds = refl }; same = refl }),
  subst (λ (b : Blobs). Unfolds (told_as (blobs ++ text ∷ []) said) (map blob_body texts) (told_as b said)) (append_assoc blobs (text ∷ []) texts)
      (blobs_told (blobs ++ text ∷ []) texts said new.1 small.1),
)

-- a piece, of which the parts are among the Blobs
IsAmongBlobs : Blobs → Piece → Type 0
IsAmongBlobs blobs (pieces.Slot stage parts) = AllAmong blobs (texts_of parts) × AreParts parts
IsAmongBlobs blobs (pieces.Base agent registered reboot next_job meta) = Unit {0}
IsAmongBlobs blobs (pieces.Kept kept) = Unit {0}

-- says the piece in full
pieces_told : (blobs : Blobs) (said : List (List ℕ)) (all : List Piece) → AllByRecursion (IsAmongBlobs blobs) all → Unfolds (told_as blobs said) (map body_by_digests all) (told_as blobs (said ++ map body_of_piece all))
unfolding IsAmongBlobs
pieces_told blobs said [] among = ap (λ (l : List (List ℕ)). told_as blobs l) (append-nil said)
pieces_told blobs said (pieces.Base agent registered reboot next_job meta ∷ all) among =
    let full = body_of_piece (pieces.Base agent registered reboot next_job meta) in (
      told_as blobs (said ++ full ∷ []),
      inr (record { full = full; says = inr (inr (record { plain = refl; says = refl })); same = refl; more = refl }),
      subst (λ (l : List (List ℕ)). Unfolds (told_as blobs (said ++ full ∷ [])) (map body_by_digests all) (told_as blobs l)) (append_assoc said (full ∷ []) (map body_of_piece all))
          (pieces_told blobs (said ++ full ∷ []) all among.1),
    )
pieces_told blobs said (pieces.Slot stage parts ∷ all) among =
    let full = body_of_piece (pieces.Slot stage parts) in (
      told_as blobs (said ++ full ∷ []),
      inr (record {
        full = full;
        says = inr (inl (record {
          stage = stage;
          marks = bytes_of_marks (map mark_of parts);
          parts = bytes_of_parts parts;
          is = refl;
          resolves = record { parts = parts; ranges = among.0.1; among = parts_among blobs parts among.0.0; is = refl; says = refl };
          says = refl;
        }));
        same = refl;
        more = refl;
      }),
      subst (λ (l : List (List ℕ)). Unfolds (told_as blobs (said ++ full ∷ [])) (map body_by_digests all) (told_as blobs l)) (append_assoc said (full ∷ []) (map body_of_piece all))
          (pieces_told blobs (said ++ full ∷ []) all among.1),
    )
pieces_told blobs said (pieces.Kept kept ∷ all) among =
    let full = body_of_piece (pieces.Kept kept) in (
      told_as blobs (said ++ full ∷ []),
      inr (record { full = full; says = inr (inr (record { plain = refl; says = refl })); same = refl; more = refl }),
      subst (λ (l : List (List ℕ)). Unfolds (told_as blobs (said ++ full ∷ [])) (map body_by_digests all) (told_as blobs l)) (append_assoc said (full ∷ []) (map body_of_piece all))
          (pieces_told blobs (said ++ full ∷ []) all among.1),
    )

-- ---- the pieces of a node

slot_among : (blobs : Blobs) (stage : Stage) (slot : Option (List Part)) (rest : List Piece) → AllAmong blobs (texts_in slot) → AllByRecursion IsPieceInRange (slot_of stage slot ++ rest)
    → (AllByRecursion IsPieceInRange rest → AllByRecursion (IsAmongBlobs blobs) rest) → AllByRecursion (IsAmongBlobs blobs) (slot_of stage slot ++ rest)
unfolding IsAmongBlobs
slot_among blobs stage None rest among ranges more = more ranges
slot_among blobs stage (Some parts) rest among ranges more = ((among, ranges.0.0), more ranges.1)

reports_among : (blobs : Blobs) (reports : List Kept) → AllByRecursion (IsAmongBlobs blobs) (map report_of reports)
unfolding IsAmongBlobs
reports_among blobs [] = tt
reports_among blobs (kept ∷ reports) = (tt, reports_among blobs reports)

front_among : (blobs : Blobs) (agent : ℕ) (node : Node) → AllAmong blobs (texts_of_node node) → AllByRecursion IsPieceInRange (front agent node) → AllByRecursion (IsAmongBlobs blobs) (front agent node)
unfolding IsAmongBlobs
front_among blobs agent node among ranges =
    let rest = all_second blobs (texts_in node.pending) (texts_in node.current ++ texts_in node.previous) among in (
      tt,
      slot_among blobs Pending node.pending _ (all_first blobs (texts_in node.pending) (texts_in node.current ++ texts_in node.previous) among) ranges.1 (λ after.
          slot_among blobs Current node.current _ (all_first blobs (texts_in node.current) (texts_in node.previous) rest) after (λ last.
          slot_among blobs Previous node.previous _ (all_second blobs (texts_in node.current) (texts_in node.previous) rest) last (λ none. reports_among blobs node.reports))),
    )

-- the whole node
pub whole_leads : (blobs : Blobs) (agent : ℕ) (node : Node) → AreNew [] blobs → AllByRecursion IsBlob blobs → AllAmong blobs (texts_of_node node) → AllByRecursion IsPieceInRange (front agent node)
    → LeadsInFull (map body_of_piece (front agent node)) node → LeadsByDigests blobs (whole_bodies (Some blobs) agent node) node
whole_leads blobs agent node new small among ranges leads = record {
  rest = map blob_body blobs ++ map body_by_digests (front agent node);
  said = map body_of_piece (front agent node);
  is = refl;
  unfolds = unfolds_both (map blob_body blobs) (map body_by_digests (front agent node)) nothing_told (told_as blobs []) (told_as blobs (map body_of_piece (front agent node)))
      (blobs_told [] blobs [] new small) (pieces_told blobs [] (front agent node) (front_among blobs agent node among ranges));
  leads = leads;
}
