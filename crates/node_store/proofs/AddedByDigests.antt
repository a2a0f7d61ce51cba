-- An event is added to a bank of format 2, after the Blobs that the bank lacks.
use Rattle.std.proofs.Common.{◌≡◌, ◌⊎◌, inl, inr, ℕ, ◌+◌, ◌*◌, ◌≤◌, List, [], ◌∷◌, ◌++◌, map, length, refl, sym, ap, subst, arith, append_assoc, length-append}
use Rattle.std.specs.List.{AllByRecursion}
use Rattle.std.proofs.lemmas.List.{append-nil}
use Rattle.std.proofs.lemmas.List.Sums.{sum_by-cons}
use Rattle.sha2.specs.Sha256.{sha256}
use Rattle.sha2.proofs.Facts256.{length-sha256}
use Rattle.gate_log.specs.Text.{after_gate, cells, need_of}
use Rattle.gate_log.proofs.Cells.{length-after_gate}
use Rattle.store_fields.specs.Fields.{IsBlob}
use Rattle.partial_merge.specs.declared.part.Part.{Part}
use Rattle.node_state.specs.declared.event.Event.{Event}
use Rattle.node_state.specs.declared.event.Event.TheVariants as events
use Rattle.node_state.specs.declared.list.Staged.{Staged}
use Rattle.node_state.specs.declared.node.Node.{Node}
use Rattle.node_state.specs.Lists.{bytes_of}
use Rattle.node_state.specs.StagedParts.{parts_of}
use Rattle.node_state.specs.Table.{IsWithin, Step}
use Rattle.node_store.specs.Bodies.{HaveDigests, IsEventInRange, body_of_event}
use Rattle.node_store.specs.Digests.{Blobs, IsAmong, IsNew, Lack, blob_body, bytes_of_marks, mark_of, nothing_told, stage_body, texts_of}
use Rattle.node_store.specs.Growing.{AllAmong, AreNew, event_body, texts_of_event}
use Rattle.node_store.specs.Parts.{AreParts, bytes_of_parts}
use Rattle.node_store.specs.Stands.{Leads, LeadsByDigests}
use Rattle.node_store.specs.declared.limits.TheConstants.{MAX_BODY}
use Rattle.node_store.proofs.ByDigests.{stage_long}
use Rattle.node_store.proofs.Lacking.{lack_all, lack_new, parts_among}
use Rattle.node_store.proofs.Meaning.{told_as}
use Rattle.node_store.proofs.Replay.{by_digests-push, leads-push}
use Rattle.node_store.proofs.Sizes.{event_long}
use Rattle.node_store.proofs.Unfolded.{first_or, unfolds_push}
use Rattle.node_store.specs.Resolving.{after_kind}

-- ---- bodies

-- a Blob more leads to the same node
blob-push : (blobs : Blobs) (bodies : List (List ℕ)) (node : Node) (text : List ℕ) → IsNew blobs text → IsBlob text → LeadsByDigests blobs bodies node
    → LeadsByDigests (blobs ++ text ∷ []) (bodies ++ blob_body text ∷ []) node
blob-push blobs bodies node text new small leads = record {
  rest = leads.rest ++ blob_body text ∷ [];
  said = leads.said;
  is = ap (λ (l : List (List ℕ)). l ++ blob_body text ∷ []) leads.is;
  unfolds = unfolds_push leads.rest (blob_body text) nothing_told (told_as blobs leads.said) (told_as (blobs ++ text ∷ []) leads.said) leads.unfolds
      (inl (record { blob = record { bytes = text; is = refl; range = small; new = new; adds = refl }; same = refl }));
  leads = leads.leads;
}

blobs-push : (blobs : Blobs) (bodies : List (List ℕ)) (node : Node) (texts : Blobs) → AreNew blobs texts → AllByRecursion IsBlob texts → LeadsByDigests blobs bodies node
    → LeadsByDigests (blobs ++ texts) (bodies ++ map blob_body texts) node
blobs-push blobs bodies node [] new small leads =
    subst (λ (b : Blobs). LeadsByDigests b (bodies ++ []) node) (sym (append-nil blobs))
    (subst (λ (l : List (List ℕ)). LeadsByDigests blobs l node) (sym (append-nil bodies)) leads)
blobs-push blobs bodies node (text ∷ texts) new small leads =
    let more = blobs-push (blobs ++ text ∷ []) (bodies ++ blob_body text ∷ []) node texts new.1 small.1 (blob-push blobs bodies node text new.0 small.0 leads) in
    subst (λ (b : Blobs). LeadsByDigests b (bodies ++ map blob_body (text ∷ texts)) node) (append_assoc blobs (text ∷ []) texts)
    (subst (λ (l : List (List ℕ)). LeadsByDigests ((blobs ++ text ∷ []) ++ texts) l node) (append_assoc bodies (blob_body text ∷ []) (map blob_body texts)) more)

-- a Stage by digests of Blobs before it is a Stage of these parts
stage-push : (blobs : Blobs) (bodies : List (List ℕ)) (old new : Node) (staged : Staged) → AllByRecursion (λ (part : Part). IsAmong blobs part.bytes) (parts_of staged) → AreParts (parts_of staged)
    → Step old (events.Stage staged) new → LeadsByDigests blobs bodies old → LeadsByDigests blobs (bodies ++ stage_body (parts_of staged) ∷ []) new
stage-push blobs bodies old new staged among ranges step leads =
    let parts = parts_of staged in
    let full : List ℕ = body_of_event (events.Stage staged) in
    record {
      rest = leads.rest ++ stage_body parts ∷ [];
      said = leads.said ++ full ∷ [];
      is = ap (λ (l : List (List ℕ)). l ++ stage_body parts ∷ []) leads.is;
      unfolds = unfolds_push leads.rest (stage_body parts) nothing_told (told_as blobs leads.said) (told_as blobs (leads.said ++ full ∷ [])) leads.unfolds
          (inr (record {
            full = full;
            says = inl (record {
              marks = bytes_of_marks (map mark_of parts);
              parts = bytes_of_parts parts;
              is = refl;
              resolves = record { parts = parts; ranges = ranges; among = among; is = refl; says = refl };
              says = refl;
            });
            same = refl;
            more = refl;
          }));
      leads = leads-push old new leads.said full (events.Stage staged) leads.leads refl ranges step;
    }

-- in format 2 an event's body leads on
pub event-push : (blobs : Blobs) (bodies : List (List ℕ)) (old new : Node) (event : Event) → AllAmong blobs (texts_of_event event) → IsEventInRange event → Step old event new → LeadsByDigests blobs bodies old
    → LeadsByDigests blobs (bodies ++ event_body event ∷ []) new
event-push blobs bodies old new (events.Stage staged) among range step leads = stage-push blobs bodies old new staged (parts_among blobs (parts_of staged) among) range step leads
event-push blobs bodies old new (events.Init agent) among range step leads = by_digests-push blobs old new bodies _ (events.Init agent) leads refl refl range step
event-push blobs bodies old new (events.SetMeta meta) among range step leads = by_digests-push blobs old new bodies _ (events.SetMeta meta) leads refl refl range step
event-push blobs bodies old new events.Registered among range step leads = by_digests-push blobs old new bodies _ events.Registered leads refl refl range step
event-push blobs bodies old new (events.Promote report) among range step leads = by_digests-push blobs old new bodies _ (events.Promote report) leads refl refl range step
event-push blobs bodies old new (events.Note report) among range step leads = by_digests-push blobs old new bodies _ (events.Note report) leads refl refl range step
event-push blobs bodies old new (events.AskReboot report) among range step leads = by_digests-push blobs old new bodies _ (events.AskReboot report) leads refl refl range step
event-push blobs bodies old new events.Boot among range step leads = by_digests-push blobs old new bodies _ events.Boot leads refl refl range step
event-push blobs bodies old new (events.Sent job) among range step leads = by_digests-push blobs old new bodies _ (events.Sent job) leads refl refl range step
event-push blobs bodies old new (events.Remove stage) among range step leads = by_digests-push blobs old new bodies _ (events.Remove stage) leads refl refl range step
event-push blobs bodies old new events.Restore among range step leads = by_digests-push blobs old new bodies _ events.Restore leads refl refl range step

-- ---- all bodies of an event

-- of bodies with one more after them these are the first: all, or some without that one
first_of : (texts : Blobs) (last : List ℕ) (front rest : List (List ℕ)) → map blob_body texts ++ last ∷ [] ≡ front ++ rest
    → (front ≡ map blob_body texts ++ last ∷ []) ⊎ ((done left : Blobs) × (texts ≡ done ++ left) × (front ≡ map blob_body done))
first_of texts last [] rest is = inr ([], texts, refl, refl)
first_of [] last (f ∷ []) rest is = inl (λ i. first_or [] (sym is i) ∷ [])
first_of [] last (f ∷ g ∷ front) rest is = absurd (cc is)
first_of (text ∷ texts) last (f ∷ front) rest is = by (first_of texts last front rest (ap (λ (l : List (List ℕ)). after_kind l) is))
  where
    same : f ≡ blob_body text
    same = ap (λ (l : List (List ℕ)). first_or [] l) (sym is)

    by : (front ≡ map blob_body texts ++ last ∷ []) ⊎ ((done left : Blobs) × (texts ≡ done ++ left) × (front ≡ map blob_body done))
        → (f ∷ front ≡ map blob_body (text ∷ texts) ++ last ∷ []) ⊎ ((done left : Blobs) × (text ∷ texts ≡ done ++ left) × (f ∷ front ≡ map blob_body done))
    by (inl all) = inl (λ i. same i ∷ all i)
    by (inr (done, left, split, first)) = inr (text ∷ done, left, ap (λ (l : Blobs). text ∷ l) split, λ i. same i ∷ first i)

new_first : (blobs done left : Blobs) → AreNew blobs (done ++ left) → AreNew blobs done
new_first blobs [] left new = tt
new_first blobs (text ∷ done) left new = (new.0, new_first (blobs ++ text ∷ []) done left new.1)

small_first : (done left : Blobs) → AllByRecursion IsBlob (done ++ left) → AllByRecursion IsBlob done
small_first [] left small = tt
small_first (text ∷ done) left small = (small.0, small_first done left small.1)

module _ (blobs lacking : Blobs) (bodies : List (List ℕ)) (old new : Node) (event : Event) (lack : Lack blobs (texts_of_event event) lacking) (small : AllByRecursion IsBlob lacking) (leads : LeadsByDigests blobs bodies old) where
  -- they count
  pub digests_count : IsEventInRange event → Step old event new → LeadsByDigests (blobs ++ lacking) (bodies ++ (map blob_body lacking ++ event_body event ∷ [])) new
  digests_count range step =
      subst (λ (l : List (List ℕ)). LeadsByDigests (blobs ++ lacking) l new) (append_assoc bodies (map blob_body lacking) (event_body event ∷ []))
      (event-push (blobs ++ lacking) (bodies ++ map blob_body lacking) old new event (lack_all blobs (texts_of_event event) lacking lack) range step
      (blobs-push blobs bodies old lacking (lack_new blobs (texts_of_event event) lacking lack) small leads))

  -- the first of them leave the node
  pub digests_wait : (front rest : List (List ℕ)) → map blob_body lacking ++ event_body event ∷ [] ≡ front ++ rest → (front ≡ map blob_body lacking ++ event_body event ∷ []) ⊎ Leads (bodies ++ front) old
  digests_wait front rest is = by (first_of lacking (event_body event) front rest is)
    where
      by : (front ≡ map blob_body lacking ++ event_body event ∷ []) ⊎ ((done left : Blobs) × (lacking ≡ done ++ left) × (front ≡ map blob_body done)) → (front ≡ map blob_body lacking ++ event_body event ∷ []) ⊎ Leads (bodies ++ front) old
      by (inl all) = inl all
      by (inr (done, left, split, first)) =
          inr (inr (
            blobs ++ done,
            subst (λ (l : List (List ℕ)). LeadsByDigests (blobs ++ done) (bodies ++ l) old) (sym first)
                (blobs-push blobs bodies old done
                (new_first blobs done left (subst (λ (l : Blobs). AreNew blobs l) split (lack_new blobs (texts_of_event event) lacking lack)))
                (small_first done left (subst (λ (l : Blobs). AllByRecursion IsBlob l) split small)) leads),
          ))

-- ---- how long they are

-- an event that is to be written
pub event_small : (event : Event) → IsWithin event → HaveDigests event → need_of (event_body event) ≤ MAX_BODY
event_small (events.Stage staged) within digests = omega (arith, stage_long (parts_of staged) staged.whole)
event_small (events.Init agent) within digests = event_long (events.Init agent) within digests
event_small (events.SetMeta meta) within digests = event_long (events.SetMeta meta) within digests
event_small events.Registered within digests = event_long events.Registered within digests
event_small (events.Promote report) within digests = event_long (events.Promote report) within digests
event_small (events.Note report) within digests = event_long (events.Note report) within digests
event_small (events.AskReboot report) within digests = event_long (events.AskReboot report) within digests
event_small events.Boot within digests = event_long events.Boot within digests
event_small (events.Sent job) within digests = event_long (events.Sent job) within digests
event_small (events.Remove stage) within digests = event_long (events.Remove stage) within digests
event_small events.Restore within digests = event_long events.Restore within digests

pub blob_cell : (text : List ℕ) (more : List (List ℕ)) → length (cells (blob_body text ∷ more)) ≡ 38 + length text + length (cells more)
blob_cell text more =
    omega (arith, length-append (after_gate (blob_body text)) (cells more), length-after_gate (blob_body text), length-append (sha256 text) text, length-sha256 text)

-- the bytes of these texts together
unfoldable pub total : List (List ℕ) → ℕ
total [] = 0
total (text ∷ texts) = length text + total texts

pub total_both : (xs ys : List (List ℕ)) → total (xs ++ ys) ≡ total xs + total ys
unfolding total
total_both [] ys = omega arith
total_both (x ∷ xs) ys = omega (arith, total_both xs ys)

pub total_is : (parts : List Part) → total (texts_of parts) ≡ bytes_of parts
unfolding total
total_is [] = omega arith
total_is (part ∷ parts) = omega (arith, total_is parts, sum_by-cons (λ (p : Part). length p.bytes) part parts)

pub lack_long : (blobs : Blobs) (texts : List (List ℕ)) (lacking : Blobs) → Lack blobs texts lacking → length (cells (map blob_body lacking)) ≤ 38 * length texts + total texts
unfolding total
lack_long blobs [] lacking is = omega (arith, ap (λ (l : Blobs). length (cells (map blob_body l))) is)
lack_long blobs (text ∷ texts) lacking (inl held) = omega (arith, lack_long blobs texts lacking held.1)
lack_long blobs (text ∷ texts) lacking (inr (others, new, is, lack)) =
    omega (arith, lack_long (blobs ++ text ∷ []) texts others lack, ap (λ (l : Blobs). length (cells (map blob_body l))) is, blob_cell text (map blob_body others))

-- none of these texts is longer
abbrev pub AreShort : ℕ → List (List ℕ) → Type 0
AreShort n texts = AllByRecursion (λ text. length text ≤ n) texts

pub short_both : (n : ℕ) (xs ys : List (List ℕ)) → AreShort n xs → AreShort n ys → AreShort n (xs ++ ys)
short_both n [] ys one other = other
short_both n (x ∷ xs) ys one other = (one.0, short_both n xs ys one.1 other)

-- none is longer than all parts together
pub parts_short : (parts : List Part) (n : ℕ) → bytes_of parts ≤ n → AreShort n (texts_of parts)
parts_short [] n long = tt
parts_short (part ∷ parts) n long =
    (omega (arith, long, sum_by-cons (λ (p : Part). length p.bytes) part parts), parts_short parts n (omega (arith, long, sum_by-cons (λ (p : Part). length p.bytes) part parts)))

pub lack_short : (blobs : Blobs) (texts : List (List ℕ)) (lacking : Blobs) (n : ℕ) → AreShort n texts → Lack blobs texts lacking → AreShort n lacking
lack_short blobs [] lacking n short is = subst (λ (l : Blobs). AreShort n l) (sym is) tt
lack_short blobs (text ∷ texts) lacking n short (inl held) = lack_short blobs texts lacking n short.1 held.1
lack_short blobs (text ∷ texts) lacking n short (inr (others, new, is, lack)) =
    subst (λ (l : Blobs). AreShort n l) (sym is) (short.0, lack_short (blobs ++ text ∷ []) texts others n short.1 lack)
