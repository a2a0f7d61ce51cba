-- What is added to the bank of a store.
use Rattle.std.proofs.Common.{◌≡◌, ◌⊎◌, inl, inr, ℕ, ◌≤◌, ◌<◌, ◌^◌, Bool, true, false, ◌||◌, Option, Some, None, Result, Ok, Err, List, [], ◌∷◌, ◌++◌, map, length, drop, refl, sym, ap, ◌∙◌, subst, arith, append_assoc, length-append}
use Rattle.std.specs.Prelude.{◌↔◌, IsTrue, OnOk}
use Rattle.std.specs.List.{AllByRecursion}
use Rattle.std.proofs.lemmas.List.{append-nil, drop_at, length-map}
use Rattle.store_fields.specs.Fields.{IsBlob}
use Rattle.dsc_outside.specs.declared.disk.Disk.{Ghosts}
use Rattle.dsc_outside.specs.declared.failed.Failed.{Failed}
use Rattle.dsc_outside.proofs.Moments.{weaker}
use Rattle.gate_log.specs.declared.shape.Shape.{Shape}
use Rattle.gate_log.specs.Text.{AllFit, Gives, after_gate, cells, need_of}
use Rattle.gate_log.specs.Kept.{Added, Counts, WroteBy}
use Rattle.gate_log.specs.Log.{IsLogOf, LogTerm}
use Rattle.gate_log.specs.Several.{GivesFront, LeavesFront}
use Rattle.gate_log.specs.Standing.{StandsAtAnyMoment, StandsFor}
use Rattle.gate_log.proofs.Cells.{length-after_gate}
use Rattle.gate_log.proofs.Leading.{kept_grown}
use Rattle.gate_log.proofs.OneByOne.{cells_both}
use Rattle.report_log.specs.declared.limits.TheConstants.{MAX_PARTS}
use Rattle.partial_merge.specs.declared.part.Part.{Part}
use Rattle.node_state.specs.declared.event.Event.{Event}
use Rattle.node_state.specs.declared.event.Event.TheVariants as events
use Rattle.node_state.specs.declared.limits.TheConstants.{MAX_BYTES}
use Rattle.node_state.specs.declared.node.Node.{Node}
use Rattle.node_state.specs.StagedParts.{parts_of}
use Rattle.node_state.specs.Table.{IsWithin, Step, after, refusal}
use Rattle.node_store.specs.Bank.{BankTerm, IsBankOf, MayAdd, blobs_as, blobs_of_bank}
use Rattle.node_store.specs.Bodies.{IsEventInRange, body_of_event}
use Rattle.node_store.specs.Digests.{Blobs, Lack, blob_body, format_body, texts_of}
use Rattle.node_store.specs.Growing.{AllAmong, added_bodies, bodies_of_format, cleared, event_body, is_stage, need_to_add, texts_of_event}
use Rattle.node_store.specs.Stands.{BeforeOrAfter, LeadTo, Leads, LeadsByDigests, LeadsIn, LeadsInFull, Stands, node_shape}
use Rattle.node_store.specs.Store.{AddsEvent, AreAdded, IsEmptyBank, IsStage}
use Rattle.node_store.specs.declared.limits.TheConstants.{MAX_BODY}
use Rattle.node_store.proofs.AddedByDigests.{AreShort, digests_count, digests_wait, event-push, lack_long, lack_short, parts_short, total, total_is}
use Rattle.node_store.proofs.AfterFormat.{format_long}
use Rattle.node_store.proofs.Formats.{kept_as, kept_from, kept_to, leads_in}
use Rattle.node_store.proofs.Lacking.{lack_one}
use Rattle.node_store.proofs.NoBodies.{no_bodies}
use Rattle.node_store.proofs.Replay.{leads-push}
use Rattle.node_store.proofs.ByDigests.{are_blobs, blobs_fit_before}
use Rattle.node_store.proofs.Unfolded.{first_or}
use Rattle.node_store.specs.Resolving.{after_kind}

-- ---- events

-- an event other than a Stage brings no text, and has its own body in either format
pub plain_texts : (event : Event) → is_stage event ≡ false → texts_of_event event ≡ []
plain_texts (events.Stage staged) plain = absurd (cc plain)
plain_texts (events.Init agent) plain = refl
plain_texts (events.SetMeta meta) plain = refl
plain_texts events.Registered plain = refl
plain_texts (events.Promote report) plain = refl
plain_texts (events.Note report) plain = refl
plain_texts (events.AskReboot report) plain = refl
plain_texts events.Boot plain = refl
plain_texts (events.Sent job) plain = refl
plain_texts (events.Remove stage) plain = refl
plain_texts events.Restore plain = refl

plain_body : (event : Event) → is_stage event ≡ false → event_body event ≡ body_of_event event
plain_body (events.Stage staged) plain = absurd (cc plain)
plain_body (events.Init agent) plain = refl
plain_body (events.SetMeta meta) plain = refl
plain_body events.Registered plain = refl
plain_body (events.Promote report) plain = refl
plain_body (events.Note report) plain = refl
plain_body (events.AskReboot report) plain = refl
plain_body events.Boot plain = refl
plain_body (events.Sent job) plain = refl
plain_body (events.Remove stage) plain = refl
plain_body events.Restore plain = refl

plain_adds : (blobs : Option Blobs) (node : Node) (event : Event) (added : List (List ℕ)) → is_stage event ≡ false → AreAdded blobs node event added → AddsEvent blobs node.agent event added
plain_adds blobs node (events.Stage staged) added plain are = absurd (cc plain)
plain_adds (Some blobs) node (events.Init agent) added plain are = are
plain_adds (Some blobs) node (events.SetMeta meta) added plain are = are
plain_adds (Some blobs) node events.Registered added plain are = are
plain_adds (Some blobs) node (events.Promote report) added plain are = are
plain_adds (Some blobs) node (events.Note report) added plain are = are
plain_adds (Some blobs) node (events.AskReboot report) added plain are = are
plain_adds (Some blobs) node events.Boot added plain are = are
plain_adds (Some blobs) node (events.Sent job) added plain are = are
plain_adds (Some blobs) node (events.Remove stage) added plain are = are
plain_adds (Some blobs) node events.Restore added plain are = are
plain_adds None node (events.Init agent) added plain are = are
plain_adds None node (events.SetMeta meta) added plain are = are
plain_adds None node events.Registered added plain are = are
plain_adds None node (events.Promote report) added plain are = are
plain_adds None node (events.Note report) added plain are = are
plain_adds None node (events.AskReboot report) added plain are = are
plain_adds None node events.Boot added plain are = are
plain_adds None node (events.Sent job) added plain are = are
plain_adds None node (events.Remove stage) added plain are = are
plain_adds None node events.Restore added plain are = are

pub not_stage : (event : Event) → IsStage event → is_stage event ≡ false → ⊥
not_stage event (staged, is) plain = let no : true ≡ false = sym (ap is_stage is) ∙ plain in cc no

-- the texts of an event are few, and not long together
record AreFew (texts : List (List ℕ)) : Type 0 where
  pub few : length texts ≤ MAX_PARTS
  pub long : total texts ≤ MAX_BYTES
  pub short : AreShort MAX_BYTES texts

few_none : AreFew []
unfolding total
few_none = record { few = omega arith; long = omega arith; short = tt }

event_few : (event : Event) → AreFew (texts_of_event event)
event_few (events.Stage staged) = record {
  few = omega (arith, staged.whole.named.few, length-map (parts_of staged) (λ (p : Part). p.bytes));
  long = omega (arith, staged.whole.long, total_is (parts_of staged));
  short = parts_short (parts_of staged) MAX_BYTES staged.whole.long;
}
event_few (events.Init agent) = few_none
event_few (events.SetMeta meta) = few_none
event_few events.Registered = few_none
event_few (events.Promote report) = few_none
event_few (events.Note report) = few_none
event_few (events.AskReboot report) = few_none
event_few events.Boot = few_none
event_few (events.Sent job) = few_none
event_few (events.Remove stage) = few_none
event_few events.Restore = few_none

-- ---- how long they are

-- the bytes of their cells
pub need_is : (empty : Bool) (lacking : Blobs) (event : Event) → length (cells (added_bodies empty lacking event)) ≡ need_to_add empty lacking (length (event_body event))
need_is empty lacking event =
    omega (
      arith,
      cells_both (bodies_of_format empty) (map blob_body lacking ++ event_body event ∷ []),
      cells_both (map blob_body lacking) (event_body event ∷ []),
      length-append (after_gate (event_body event)) [],
      length-after_gate (event_body event),
    )

fits_format : (empty : Bool) (rest : List (List ℕ)) → AllFit MAX_BODY rest → AllFit MAX_BODY (bodies_of_format empty ++ rest)
fits_format true rest fits = (omega arith, fits)
fits_format false rest fits = fits

format_most : (empty : Bool) → length (cells (bodies_of_format empty)) ≤ 7
format_most true = omega (arith, format_long [])
format_most false = omega arith

module _ (old : BankTerm) (event : Event) (from : ℕ) (new : BankTerm) (may : MayAdd old event from new) where
  -- the texts from that place on
  pub lacking_is : (texts : Blobs) → texts ≡ drop from new.texts → texts ≡ may.has.lacking
  lacking_is texts is = is ∙ ap (λ (l : Blobs). drop from l) may.has.is ∙ drop_at old.texts may.has.lacking from (sym may.many)

  short_lacking : AreShort MAX_BYTES may.has.lacking
  short_lacking = lack_short old.texts (texts_of_event event) may.has.lacking MAX_BYTES (event_few event).short may.has.lack

  pub adds_fit : (empty : Bool) (texts : Blobs) → texts ≡ drop from new.texts → need_of (event_body event) ≤ MAX_BODY → AllFit MAX_BODY (added_bodies empty texts event)
  adds_fit empty texts is small =
      subst (λ (l : Blobs). AllFit MAX_BODY (added_bodies empty l event)) (sym (lacking_is texts is))
      (fits_format empty _ (blobs_fit_before may.has.lacking (event_body event ∷ []) short_lacking (omega (arith, small), tt)))

  pub adds_few : (empty : Bool) (texts : Blobs) → texts ≡ drop from new.texts → need_of (event_body event) ≤ MAX_BODY → need_to_add empty texts (length (event_body event)) < 2 ^ 32
  adds_few empty texts is small =
      let few = (event_few event).few in
      let long = (event_few event).long in
      omega (
        arith,
        few,
        long,
        small,
        format_most empty,
        lack_long old.texts (texts_of_event event) may.has.lacking may.has.lack,
        ap (λ (l : Blobs). length (cells (map blob_body l))) (lacking_is texts is),
      )

-- ---- which they are

-- an empty bank is of format 1
pub empty_in : (by_digests empty : Bool) (texts : Blobs) (node : Node) → IsTrue empty ↔ IsEmptyBank (blobs_as by_digests texts) node → by_digests ≡ true → empty ≡ false
empty_in true true texts node is second = absurd (no ((is.0 refl).format))
  where
    no : Some texts ≡ None → ⊥
    no same = cc same
empty_in true false texts node is second = refl
empty_in false empty texts node is second = absurd (cc second)

agent_in : (empty : Bool) (agent : Option ℕ) (texts : Blobs) (node : Node) (event : Event) (added : List (List ℕ)) → IsTrue empty ↔ IsEmptyBank (blobs_as false texts) node → node.agent ≡ agent → AddsEvent None agent event added
    → added ≡ bodies_of_format empty ++ body_of_event event ∷ []
agent_in true None texts node event added is agent are = are
agent_in false None texts node event added is agent are = let yes : false ≡ true = is.1 (record { format = refl; agent = agent }) in absurd (cc yes)
agent_in true (Some number) texts node event added is agent are = let no : Some number ≡ None = sym agent ∙ (is.0 refl).agent in absurd (cc no)
agent_in false (Some number) texts node event added is agent are = are

pub stage_or_not : (event : Event) → IsStage event ⊎ (is_stage event ≡ false)
stage_or_not (events.Stage staged) = inl (staged, refl)
stage_or_not (events.Init agent) = inr refl
stage_or_not (events.SetMeta meta) = inr refl
stage_or_not events.Registered = inr refl
stage_or_not (events.Promote report) = inr refl
stage_or_not (events.Note report) = inr refl
stage_or_not (events.AskReboot report) = inr refl
stage_or_not events.Boot = inr refl
stage_or_not (events.Sent job) = inr refl
stage_or_not (events.Remove stage) = inr refl
stage_or_not events.Restore = inr refl

module _ (by_digests : Bool) (texts lacking : Blobs) (node : Node) (event : Event) (empty : Bool) (lack : Lack texts (texts_of_event event) lacking) (format : (by_digests ≡ true) ⊎ (is_stage event ≡ false))
    (is : IsTrue empty ↔ IsEmptyBank (blobs_as by_digests texts) node) where
  none_lacking : is_stage event ≡ false → lacking ≡ []
  none_lacking plain = subst (λ (l : List (List ℕ)). Lack texts l lacking) (plain_texts event plain) lack

  pub plain_is : is_stage event ≡ false → bodies_of_format empty ++ body_of_event event ∷ [] ≡ added_bodies empty lacking event
  plain_is plain = λ i. bodies_of_format empty ++ (map blob_body (sym (none_lacking plain) i) ++ sym (plain_body event plain) i ∷ [])

-- the bodies that are added are these
pub added_is : (by_digests : Bool) (texts lacking : Blobs) (node : Node) (event : Event) (empty : Bool) → Lack texts (texts_of_event event) lacking → (by_digests ≡ true) ⊎ (is_stage event ≡ false)
    → IsTrue empty ↔ IsEmptyBank (blobs_as by_digests texts) node → (added : List (List ℕ)) → AreAdded (blobs_as by_digests texts) node event added → added ≡ added_bodies empty lacking event
added_is true texts lacking node event empty lack format is added are = by (stage_or_not event)
  where
    none : empty ≡ false
    none = empty_in true empty texts node is refl

    by : IsStage event ⊎ (is_stage event ≡ false) → added ≡ added_bodies empty lacking event
    by (inl (staged, stage)) =
        let here : AreAdded (Some texts) node (events.Stage staged) added = subst (λ (e : Event). AreAdded (Some texts) node e added) stage are in
        let same = lack_one texts (texts_of (parts_of staged)) here.0 lacking here.1 (subst (λ (e : Event). Lack texts (texts_of_event e) lacking) stage lack) in
        here.2 ∙ (λ i. bodies_of_format (sym none i) ++ (map blob_body (same i) ++ event_body (sym stage i) ∷ []))
    by (inr plain) =
        plain_adds (Some texts) node event added plain are ∙ (λ i. bodies_of_format (sym none i) ++ body_of_event event ∷ [])
        ∙ plain_is true texts lacking node event empty lack format is plain
added_is false texts lacking node event empty lack (inl never) is added are = absurd (cc never)
added_is false texts lacking node event empty lack (inr plain) is added are =
    agent_in empty node.agent texts node event added is refl (plain_adds None node event added plain are) ∙ plain_is false texts lacking node event empty lack (inr plain) is plain

-- none are, where the event may not be added
pub never_added : (by_digests : Bool) (texts : Blobs) (node : Node) (event : Event) (added : List (List ℕ)) → is_stage event ≡ true
    → (by_digests ≡ true → (lacking : Blobs) → Lack texts (texts_of_event event) lacking → ⊥) → AreAdded (blobs_as by_digests texts) node event added → ⊥
never_added true texts node (events.Stage staged) added stage collides are = collides refl are.0 are.1
never_added false texts node (events.Stage staged) added stage collides are = are
never_added by_digests texts node (events.Init agent) added stage collides are = cc stage
never_added by_digests texts node (events.SetMeta meta) added stage collides are = cc stage
never_added by_digests texts node events.Registered added stage collides are = cc stage
never_added by_digests texts node (events.Promote report) added stage collides are = cc stage
never_added by_digests texts node (events.Note report) added stage collides are = cc stage
never_added by_digests texts node (events.AskReboot report) added stage collides are = cc stage
never_added by_digests texts node events.Boot added stage collides are = cc stage
never_added by_digests texts node (events.Sent job) added stage collides are = cc stage
never_added by_digests texts node (events.Remove stage) added is collides are = cc is
never_added by_digests texts node events.Restore added stage collides are = cc stage

-- ---- where they lead

-- a Format alone, in an empty bank
pub format_leads : (bodies : List (List ℕ)) (node : Node) → LeadsInFull bodies node → node.agent ≡ None → LeadsByDigests [] (bodies ++ format_body ∷ []) node
format_leads bodies node leads agent =
    let none = no_bodies bodies node leads agent in
    subst (λ (l : List (List ℕ)). LeadsByDigests [] (l ++ format_body ∷ []) node) (sym none)
    (record { rest = []; said = []; is = refl; unfolds = refl; leads = subst (λ (l : List (List ℕ)). LeadsInFull l node) none leads })

pub plain_among : (blobs : Blobs) (event : Event) → is_stage event ≡ false → AllAmong blobs (texts_of_event event)
plain_among blobs event plain = subst (λ (l : List (List ℕ)). AllAmong blobs l) (sym (plain_texts event plain)) tt

-- the bodies of a plain event in a bank of format 1
plain_lead : (empty : Bool) (texts : Blobs) (bodies : List (List ℕ)) (node new : Node) (event : Event) → is_stage event ≡ false → IsTrue empty ↔ IsEmptyBank (blobs_as false texts) node → IsEventInRange event → Step node event new
    → LeadsInFull bodies node → LeadsIn (blobs_as empty (cleared empty texts)) (bodies ++ (bodies_of_format empty ++ event_body event ∷ [])) new
plain_lead true texts bodies node new event plain is range step leads =
    subst (λ (l : List (List ℕ)). LeadsByDigests [] l new) (append_assoc bodies (format_body ∷ []) (event_body event ∷ []))
    (event-push [] (bodies ++ format_body ∷ []) node new event (plain_among [] event plain) range step (format_leads bodies node leads (is.0 refl).agent))
plain_lead false texts bodies node new event plain is range step leads = leads-push node new bodies (event_body event) event leads (plain_body event plain) range step

pub adds_lead : (by_digests : Bool) (texts lacking : Blobs) (node new : Node) (event : Event) (empty : Bool) → Lack texts (texts_of_event event) lacking → (by_digests ≡ true) ⊎ (is_stage event ≡ false)
    → IsTrue empty ↔ IsEmptyBank (blobs_as by_digests texts) node → AllByRecursion IsBlob lacking → IsEventInRange event → Step node event new → (bodies : List (List ℕ)) → LeadsIn (blobs_as by_digests texts) bodies node
    → LeadsIn (blobs_as (by_digests || empty) (cleared empty (texts ++ lacking))) (bodies ++ added_bodies empty lacking event) new
adds_lead true texts lacking node new event empty lack format is small range step bodies leads =
    subst (λ (e : Bool). LeadsByDigests (cleared e (texts ++ lacking)) (bodies ++ added_bodies e lacking event) new) (sym (empty_in true empty texts node is refl))
    (digests_count texts lacking bodies node new event lack small leads range step)
adds_lead false texts lacking node new event empty lack (inl never) is small range step bodies leads = absurd (cc never)
adds_lead false texts lacking node new event empty lack (inr plain) is small range step bodies leads =
    let none = none_lacking false texts lacking node event empty lack (inr plain) is plain in
    subst (λ (l : Blobs). LeadsIn (blobs_as empty (cleared empty (texts ++ l))) (bodies ++ added_bodies empty l event) new) (sym none)
    (subst (λ (l : Blobs). LeadsIn (blobs_as empty (cleared empty l)) (bodies ++ added_bodies empty [] event) new) (sym (append-nil texts))
    (plain_lead empty texts bodies node new event plain is range step leads))

-- ---- until the last of them is there

one_of : (last : List ℕ) (front rest : List (List ℕ)) → last ∷ [] ≡ front ++ rest → (front ≡ last ∷ []) ⊎ (front ≡ [])
one_of last [] rest is = inr refl
one_of last (f ∷ []) rest is = inl (λ i. first_or [] (sym is i) ∷ [])
one_of last (f ∷ g ∷ front) rest is = absurd (cc is)

plain_wait : (empty : Bool) (texts : Blobs) (bodies : List (List ℕ)) (node : Node) (last : List ℕ) → IsTrue empty ↔ IsEmptyBank (blobs_as false texts) node → LeadsInFull bodies node
    → (front rest : List (List ℕ)) → bodies_of_format empty ++ last ∷ [] ≡ front ++ rest → (front ≡ bodies_of_format empty ++ last ∷ []) ⊎ Leads (bodies ++ front) node
plain_wait true texts bodies node last is leads [] rest split = inr (inl (subst (λ (l : List (List ℕ)). LeadsInFull l node) (sym (append-nil bodies)) leads))
plain_wait true texts bodies node last is leads (f ∷ front) rest split = by (one_of last front rest (ap (λ (l : List (List ℕ)). after_kind l) split))
  where
    same : f ≡ format_body
    same = ap (λ (l : List (List ℕ)). first_or [] l) (sym split)

    by : (front ≡ last ∷ []) ⊎ (front ≡ []) → (f ∷ front ≡ format_body ∷ last ∷ []) ⊎ Leads (bodies ++ f ∷ front) node
    by (inl all) = inl (λ i. same i ∷ all i)
    by (inr none) = inr (inr ([], subst (λ (l : List (List ℕ)). LeadsByDigests [] (bodies ++ l) node) (λ i. sym same i ∷ sym none i) (format_leads bodies node leads (is.0 refl).agent)))
plain_wait false texts bodies node last is leads front rest split = by (one_of last front rest split)
  where
    by : (front ≡ last ∷ []) ⊎ (front ≡ []) → (front ≡ last ∷ []) ⊎ Leads (bodies ++ front) node
    by (inl all) = inl all
    by (inr none) = inr (inl (subst (λ (l : List (List ℕ)). LeadsInFull (bodies ++ l) node) (sym none) (subst (λ (l : List (List ℕ)). LeadsInFull l node) (sym (append-nil bodies)) leads)))

pub adds_wait : (by_digests : Bool) (texts lacking : Blobs) (node new : Node) (event : Event) (empty : Bool) → Lack texts (texts_of_event event) lacking → (by_digests ≡ true) ⊎ (is_stage event ≡ false)
    → IsTrue empty ↔ IsEmptyBank (blobs_as by_digests texts) node → AllByRecursion IsBlob lacking → Step node event new → (bodies : List (List ℕ)) → LeadsIn (blobs_as by_digests texts) bodies node
    → (front rest : List (List ℕ)) → added_bodies empty lacking event ≡ front ++ rest → (front ≡ added_bodies empty lacking event) ⊎ Leads (bodies ++ front) node
adds_wait true texts lacking node new event empty lack format is small step bodies leads front rest split =
    subst (λ (e : Bool). (front ≡ added_bodies e lacking event) ⊎ Leads (bodies ++ front) node) (sym none)
    (digests_wait texts lacking bodies node new event lack small leads front rest (subst (λ (e : Bool). added_bodies e lacking event ≡ front ++ rest) none split))
  where
    none : empty ≡ false
    none = empty_in true empty texts node is refl
adds_wait false texts lacking node new event empty lack (inl never) is small step bodies leads front rest split = absurd (cc never)
adds_wait false texts lacking node new event empty lack (inr plain) is small step bodies leads front rest split =
    subst (λ (l : Blobs). (front ≡ added_bodies empty l event) ⊎ Leads (bodies ++ front) node) (sym none)
    (plain_wait empty texts bodies node (event_body event) is leads front rest (subst (λ (l : Blobs). added_bodies empty l event ≡ front ++ rest) none split))
  where
    none : lacking ≡ []
    none = none_lacking false texts lacking node event empty lack (inr plain) is plain

-- ---- what was written

module _ {D : Type 0} (d : Ghosts D) (before now : D) (old : BankTerm) (node : Node) (event : Event) (from : ℕ) (new : BankTerm) (log : LogTerm) (empty : Bool) (may : MayAdd old event from new)
    (lacking : Blobs) (same : lacking ≡ drop from new.texts) (is : IsTrue empty ↔ IsEmptyBank (blobs_of_bank old) node) (kept : IsBankOf d before old node) (range : IsEventInRange event) (within : IsWithin event)
    (allowed : refusal node event ≡ None) where
  small : AllByRecursion IsBlob may.has.lacking
  small = are_blobs may.has.lacking (short_lacking old event from new may)

  step : Step node event (after node event)
  step = record { within = within; allowed = allowed; is = refl }

  pub bank_counts : Counts LeadTo (added_bodies empty lacking event) (kept_as node (blobs_of_bank old)) (kept_as (after node event) (blobs_as (old.by_digests || empty) (cleared empty new.texts)))
  bank_counts bodies leads =
      subst (λ (t : Blobs). LeadsIn (blobs_as (old.by_digests || empty) (cleared empty t)) (bodies ++ added_bodies empty lacking event) (after node event)) (sym may.has.is)
      (subst (λ (l : Blobs). LeadsIn (blobs_as (old.by_digests || empty) (cleared empty (old.texts ++ may.has.lacking))) (bodies ++ added_bodies empty l event) (after node event)) (sym (lacking_is old event from new may lacking same))
      (adds_lead old.by_digests old.texts may.has.lacking node (after node event) event empty may.has.lack may.format is small range step bodies leads))

  pub bank_wrote : {T : Type 0} (r : Result T Failed) → Added old.log (added_bodies empty lacking event) (d.faults before) (d.faults now) r log
      → ((bodies : List (List ℕ)) → IsLogOf d before old.log bodies → OnOk r (IsLogOf d now log (bodies ++ added_bodies empty lacking event)))
      → WroteBy d before now node_shape (LeadsIn (blobs_as (old.by_digests || empty) (cleared empty new.texts))) (after node event) log r
  bank_wrote (Ok v) answer adds =
      let first = kept_to d before old.log node (blobs_of_bank old) kept in
      kept_from d now log (after node event) (blobs_as (old.by_digests || empty) (cleared empty new.texts))
      (kept_grown node_shape LeadTo d before now old.log log (added_bodies empty lacking event) (kept_as node (blobs_of_bank old)) (kept_as (after node event) (blobs_as (old.by_digests || empty) (cleared empty new.texts)))
      first bank_counts answer (adds first.bodies first.of))
  bank_wrote (Err e) answer adds = answer

  pub bank_moment : LeavesFront d before now old.log (added_bodies empty lacking event) → StandsAtAnyMoment d before now Stands (BeforeOrAfter node event)
  bank_moment leaves =
      weaker d.moment d.left_since before now _ (StandsFor Stands (BeforeOrAfter node event)) (leaves kept.bodies kept.of)
      (λ c front. stands c (subst (λ (s : Shape). GivesFront s kept.bodies (added_bodies empty lacking event) c) kept.shape front))
    where
      these : lacking ≡ may.has.lacking
      these = lacking_is old event from new may lacking same

      by : (c : List ℕ) (front : List (List ℕ)) → Gives node_shape c (kept.bodies ++ front) → (front ≡ added_bodies empty may.has.lacking event) ⊎ Leads (kept.bodies ++ front) node → StandsFor Stands (BeforeOrAfter node event) c
      by c front gives (inl all) = record {
        value = after node event;
        stands = record {
          bodies = kept.bodies ++ front;
          gives = gives;
          leads = leads_in (blobs_as (old.by_digests || empty) (cleared empty new.texts)) (kept.bodies ++ front) (after node event)
              (subst (λ (l : List (List ℕ)). LeadsIn (blobs_as (old.by_digests || empty) (cleared empty new.texts)) (kept.bodies ++ l) (after node event))
              (sym (all ∙ (λ i. added_bodies empty (sym these i) event))) (bank_counts kept.bodies kept.leads));
        };
        has = inr step;
      }
      by c front gives (inr leads) = record { value = node; stands = record { bodies = kept.bodies ++ front; gives = gives; leads = leads }; has = inl refl }

      stands : (c : List ℕ) → GivesFront node_shape kept.bodies (added_bodies empty lacking event) c → StandsFor Stands (BeforeOrAfter node event) c
      stands c given = by c given.front given.gives
          (adds_wait old.by_digests old.texts may.has.lacking node (after node event) event empty may.has.lack may.format is small step kept.bodies kept.leads given.front given.rest
          ((λ i. added_bodies empty (sym these i) event) ∙ given.is))
