-- How a bank grows by the texts of an event.
use Rattle.std.proofs.Common.{◌≡◌, inl, inr, ℕ, Bool, true, false, ◌&&◌, Some, None, Result, Ok, Err, List, [], length, refl, sym, ◌∙◌, subst}
use Rattle.std.specs.Prelude.{IfErr}
use Rattle.std.specs.Bool.{then_some}
use Rattle.std.proofs.lemmas.List.{append-nil}
use Rattle.partial_merge.specs.declared.part.Part.{Part}
use Rattle.mof_values.specs.declared.memory.Memory.{Memory}
use Rattle.node_state.specs.declared.event.Event.{Event}
use Rattle.node_state.specs.declared.event.Event.TheVariants as events
use Rattle.node_state.specs.declared.list.Staged.{Staged}
use Rattle.node_state.specs.StagedParts.{parts_of}
use Rattle.node_store.specs.Bank.{BankTerm, Grew, GrewAt}
use Rattle.node_store.specs.Digests.{Blobs, Lack, texts_of}
use Rattle.node_store.specs.Growing.{AddsTexts, is_stage}
use Rattle.node_store.specs.Store.{IsStage}
use Rattle.node_store.proofs.BankAdds.{plain_among, plain_texts}
use Rattle.node_store.proofs.Lacking.{adds_all, adds_more}

-- an event other than a Stage brings no text
pub grew_plain : (old : BankTerm) (event : Event) (from : ℕ) → is_stage event ≡ false → from ≡ length old.texts → Grew old event (Some from) old
grew_plain old event from plain many = record {
  log = refl;
  format = refl;
  more = ([], sym (append-nil old.texts));
  there = plain_among old.texts event plain;
  at = record {
    format = inr plain;
    many = many;
    has = record {
      lacking = [];
      lack = subst (λ (l : List (List ℕ)). Lack old.texts l []) (sym (plain_texts event plain)) refl;
      is = sym (append-nil old.texts);
    };
  };
}

module _ (old : BankTerm) (staged : Staged) (new : Blobs) where
  grown : BankTerm
  grown = record old { texts = new }

  may_or_not : (by_digests apart : Bool) (from : ℕ) → old.by_digests ≡ by_digests → from ≡ length old.texts → AddsTexts old.texts (texts_of (parts_of staged)) apart new
      → ((by_digests && apart ≡ true) → GrewAt old (events.Stage staged) (Some from) (record old { texts = new })) × ((by_digests && apart ≡ false) → GrewAt old (events.Stage staged) None (record old { texts = new }))
  may_or_not true true from is many adds = ((λ yes. record { format = inl is; many = many; has = adds }), (λ no. absurd (cc no)))
  may_or_not true false from is many adds = ((λ yes. absurd (cc yes)), (λ no. record { stage = refl; collides = λ second. adds.never }))
  may_or_not false apart from is many adds = ((λ yes. absurd (cc yes)), (λ no. record { stage = refl; collides = λ second. absurd (cc (sym second ∙ is)) }))

  pub grew_stage : (apart : Bool) (from : ℕ) → from ≡ length old.texts → AddsTexts old.texts (texts_of (parts_of staged)) apart new
      → ((old.by_digests && apart ≡ true) → Grew old (events.Stage staged) (Some from) (record old { texts = new })) × ((old.by_digests && apart ≡ false) → Grew old (events.Stage staged) None (record old { texts = new }))
  grew_stage apart from many adds =
      let at = may_or_not old.by_digests apart from refl many adds in
      let more = adds_more old.texts new (texts_of (parts_of staged)) apart adds in
      let there = adds_all old.texts new (texts_of (parts_of staged)) apart adds in (
        (λ yes. record { log = refl; format = refl; more = more; there = there; at = at.0 yes }),
        (λ no. record { log = refl; format = refl; more = more; there = there; at = at.1 no }),
      )

-- a Stage may be added in format 2 where its list does not collide
module _ (old : BankTerm) (event : Event) (staged : Staged) (new : Blobs) (is : event ≡ events.Stage staged) where
  pub grew_by : (parts : List Part) (apart may : Bool) (from : ℕ) → parts ≡ parts_of staged → may ≡ (old.by_digests && apart) → from ≡ length old.texts → AddsTexts old.texts (texts_of parts) apart new
      → Grew old event (then_some may from) (record old { texts = new })
  grew_by parts apart may from same may_is many adds = subst (λ (e : Event). Grew old e (then_some may from) (record old { texts = new })) (sym is) (by may may_is)
    where
      whole : AddsTexts old.texts (texts_of (parts_of staged)) apart new
      whole = subst (λ (l : List Part). AddsTexts old.texts (texts_of l) apart new) same adds

      by : (b : Bool) → b ≡ (old.by_digests && apart) → Grew old (events.Stage staged) (then_some b from) (record old { texts = new })
      by true both = (grew_stage old staged new apart from many whole).0 (sym both)
      by false other = (grew_stage old staged new apart from many whole).1 (sym other)

  pub refused_by : {T : Type 0} (view : BankTerm) → view ≡ old → (r : Result T Memory) → IfErr r (λ error. IsStage event × (view ≡ old))
  refused_by view same (Ok v) = tt
  refused_by view same (Err e) = ((staged, is), same)
