-- An event that may be added to a bank: what is added, and what is there then.
use Rattle.std.proofs.Common.{◌≡◌, ◌⊎◌, inl, inr, ℕ, ◌≤◌, Bool, true, false, ◌||◌, Option, Some, None, Result, Ok, Err, List, [], ◌∷◌, ◌++◌, length, drop, refl, sym, ap, ◌∙◌, subst, arith}
use Rattle.std.specs.Prelude.{◌↔◌, IsTrue, OnOk}
use Rattle.dsc_outside.specs.declared.disk.Disk.{Ghosts}
use Rattle.gate_log.specs.Log.{LogTerm, capacity_in}
use Rattle.gate_log.specs.Text.{cells}
use Rattle.node_state.specs.declared.event.Event.{Event}
use Rattle.node_state.specs.declared.event.Event.TheVariants as events
use Rattle.node_state.specs.declared.node.Node.{Node}
use Rattle.node_state.specs.Table.{after}
use Rattle.node_store.specs.Bank.{BankTerm, Grew, GrewAt, IsBankOf, MayAdd, blobs_as, blobs_of_bank}
use Rattle.node_store.specs.Bodies.{body_of_event}
use Rattle.node_store.specs.Digests.{Blobs, Lack, format_body, texts_of_node}
use Rattle.node_store.specs.Growing.{AllAmong, added_bodies, bodies_of_format, cleared, event_body, is_stage, need_to_add, texts_of_event}
use Rattle.node_store.specs.Stands.{LeadsIn, LeadsInFull}
use Rattle.node_store.specs.Store.{AddsEvent, AreAdded, IsEmptyBank, IsStage, NeedsFormat}
use Rattle.node_store.proofs.AmongBlobs.{after_among, leads_among}
use Rattle.node_store.proofs.BankAdds.{added_is, empty_in, format_leads, lacking_is, need_is, not_stage, plain_is, stage_or_not}

pub on_ok : {T E : Type 0} {P : Type 0} (r : Result T E) → P → OnOk r P
on_ok (Ok v) p = p
on_ok (Err e) p = tt

pub not_both : (b : Bool) → b ≡ false → b ≡ true → ⊥
not_both true one other = cc one
not_both false one other = cc other

some_none : (texts : Blobs) → Some texts ≡ None → ⊥
some_none texts same = cc same

-- whether a bank is empty does not depend on its texts
empty_of : (empty by_digests : Bool) (one other : Blobs) (node : Node) → IsTrue empty ↔ IsEmptyBank (blobs_as by_digests one) node → IsTrue empty ↔ IsEmptyBank (blobs_as by_digests other) node
empty_of empty true one other node is = ((λ yes. absurd (some_none one (is.0 yes).format)), (λ none. absurd (some_none other none.format)))
empty_of empty false one other node is = is

-- ---- the bodies are those that are added

plain_are : (blobs : Option Blobs) (node : Node) (event : Event) (added : List (List ℕ)) → is_stage event ≡ false → AddsEvent blobs node.agent event added → AreAdded blobs node event added
plain_are blobs node (events.Stage staged) added plain are = absurd (cc plain)
plain_are (Some blobs) node (events.Init agent) added plain are = are
plain_are (Some blobs) node (events.SetMeta meta) added plain are = are
plain_are (Some blobs) node events.Registered added plain are = are
plain_are (Some blobs) node (events.Promote report) added plain are = are
plain_are (Some blobs) node (events.Note report) added plain are = are
plain_are (Some blobs) node (events.AskReboot report) added plain are = are
plain_are (Some blobs) node events.Boot added plain are = are
plain_are (Some blobs) node (events.Sent job) added plain are = are
plain_are (Some blobs) node (events.Remove stage) added plain are = are
plain_are (Some blobs) node events.Restore added plain are = are
plain_are None node (events.Init agent) added plain are = are
plain_are None node (events.SetMeta meta) added plain are = are
plain_are None node events.Registered added plain are = are
plain_are None node (events.Promote report) added plain are = are
plain_are None node (events.Note report) added plain are = are
plain_are None node (events.AskReboot report) added plain are = are
plain_are None node events.Boot added plain are = are
plain_are None node (events.Sent job) added plain are = are
plain_are None node (events.Remove stage) added plain are = are
plain_are None node events.Restore added plain are = are

agent_are : (empty : Bool) (agent : Option ℕ) (texts : Blobs) (node : Node) (event : Event) → IsTrue empty ↔ IsEmptyBank (blobs_as false texts) node → node.agent ≡ agent
    → AddsEvent None agent event (bodies_of_format empty ++ body_of_event event ∷ [])
agent_are true None texts node event is agent = refl
agent_are false None texts node event is agent = let yes : false ≡ true = is.1 (record { format = refl; agent = agent }) in absurd (cc yes)
agent_are true (Some number) texts node event is agent = let no : Some number ≡ None = sym agent ∙ (is.0 refl).agent in absurd (cc no)
agent_are false (Some number) texts node event is agent = refl

adds_are : (by_digests : Bool) (texts lacking : Blobs) (node : Node) (event : Event) (empty : Bool) → Lack texts (texts_of_event event) lacking → (by_digests ≡ true) ⊎ (is_stage event ≡ false)
    → IsTrue empty ↔ IsEmptyBank (blobs_as by_digests texts) node → AreAdded (blobs_as by_digests texts) node event (added_bodies empty lacking event)
adds_are true texts lacking node event empty lack format is = by (stage_or_not event)
  where
    none : empty ≡ false
    none = empty_in true empty texts node is refl

    by : IsStage event ⊎ (is_stage event ≡ false) → AreAdded (Some texts) node event (added_bodies empty lacking event)
    by (inl (staged, stage)) =
        subst (λ (b : Bool). AreAdded (Some texts) node event (added_bodies b lacking event)) (sym none)
        (subst (λ (e : Event). AreAdded (Some texts) node e (added_bodies false lacking e)) (sym stage) (lacking, subst (λ (e : Event). Lack texts (texts_of_event e) lacking) stage lack, refl))
    by (inr plain) =
        plain_are (Some texts) node event (added_bodies empty lacking event) plain
        (sym (plain_is true texts lacking node event empty lack format is plain) ∙ (λ i. bodies_of_format (none i) ++ body_of_event event ∷ []))
adds_are false texts lacking node event empty lack (inl never) is = absurd (cc never)
adds_are false texts lacking node event empty lack (inr plain) is =
    plain_are None node event (added_bodies empty lacking event) plain
    (subst (λ (l : List (List ℕ)). AddsEvent None node.agent event l) (plain_is false texts lacking node event empty lack (inr plain) is plain) (agent_are empty node.agent texts node event is refl))

module _ (old : BankTerm) (node : Node) (event : Event) (grown : Option ℕ) (from : ℕ) (new : BankTerm) (texts : Blobs) (empty : Bool) (grew : Grew old event grown new) (some : grown ≡ Some from)
    (same : texts ≡ drop from new.texts) (is : IsTrue empty ↔ IsEmptyBank (blobs_of_bank new) node) where
  pub may : MayAdd old event from new
  may = subst (λ (o : Option ℕ). GrewAt old event o new) some grew.at

  pub empty_is : IsTrue empty ↔ IsEmptyBank (blobs_of_bank old) node
  empty_is = subst (λ (b : Bool). IsTrue empty ↔ IsEmptyBank (blobs_as b old.texts) node) grew.format (empty_of empty new.by_digests new.texts old.texts node is)

  these : texts ≡ may.has.lacking
  these = lacking_is old event from new may texts same

  pub added_here : (added : List (List ℕ)) → AreAdded (blobs_of_bank old) node event added → added ≡ added_bodies empty texts event
  added_here added are = added_is old.by_digests old.texts may.has.lacking node event empty may.has.lack may.format empty_is added are ∙ (λ i. added_bodies empty (sym these i) event)

  pub are_added : AreAdded (blobs_of_bank old) node event (added_bodies empty texts event)
  are_added =
      subst (λ (l : Blobs). AreAdded (blobs_of_bank old) node event (added_bodies empty l event)) (sym these)
      (adds_are old.by_digests old.texts may.has.lacking node event empty may.has.lack may.format empty_is)

  -- the bytes that they need
  pub need_here : (added : List (List ℕ)) → AreAdded (blobs_of_bank old) node event added → length (cells added) ≡ need_to_add empty texts (length (event_body event))
  need_here added are = ap (λ (l : List (List ℕ)). length (cells l)) (added_here added are) ∙ need_is empty texts event

  -- ---- after them

  plain_event : IsEmptyBank (blobs_of_bank old) node → is_stage event ≡ false
  plain_event none = by may.format
    where
      by : (old.by_digests ≡ true) ⊎ (is_stage event ≡ false) → is_stage event ≡ false
      by (inl second) = absurd (some_none old.texts (subst (λ (b : Bool). blobs_as b old.texts ≡ None) second none.format))
      by (inr plain) = plain

  -- the texts of the node are there: an empty bank has none, and its event brings none
  pub there_after : {D : Type 0} (d : Ghosts D) (disk : D) → IsBankOf d disk old node → AllAmong new.texts (texts_of_node (after node event)) → AllAmong (cleared empty new.texts) (texts_of_node (after node event))
  there_after d disk kept all = by empty refl
    where
      by : (e : Bool) → empty ≡ e → AllAmong (cleared e new.texts) (texts_of_node (after node event))
      by true first =
          let none = empty_is.0 first in
          let leads : LeadsInFull kept.bodies node = subst (λ (b : Option Blobs). LeadsIn b kept.bodies node) none.format kept.leads in
          let plain = plain_event none in
          after_among [] node event (leads_among [] (kept.bodies ++ format_body ∷ []) node (format_leads kept.bodies node leads none.agent)) (λ staged stage. absurd (not_stage event (staged, stage) plain))
      by false other = all

  or_first : (one other : Bool) → one ≡ true → (one || other) ≡ true
  or_first one other first = ap (λ (b : Bool). b || other) first

  or_second : (one other : Bool) → other ≡ true → (one || other) ≡ true
  or_second true other second = refl
  or_second false other second = second

  -- it is of format 2 where that is asked for
  pub format_after : (log : LogTerm) → need_to_add empty texts (length (event_body event)) ≤ capacity_in log → NeedsFormat (blobs_of_bank old) log node event → (new.by_digests || empty) ≡ true
  format_after log fits (inl stage) = by may.format
    where
      by : (old.by_digests ≡ true) ⊎ (is_stage event ≡ false) → (new.by_digests || empty) ≡ true
      by (inl second) = or_first new.by_digests empty (grew.format ∙ second)
      by (inr plain) = absurd (not_stage event stage plain)
  format_after log fits (inr (inl none)) = or_second new.by_digests empty (empty_is.1 none)
  format_after log fits (inr (inr room)) = absurd (omega (arith, fits, room.above, need_here room.added room.are))
