-- What a repair has after it when the turns of some resources are past.
use Rattle.std.proofs.Common.{◌≡◌, ◌⊎◌, inl, inr, ℕ, ◌+◌, ◌<◌, false, IsTrue, List, [], ◌∷◌, ◌++◌, length, take, drop, get_or, map, refl, sym, ◌∙◌, ap, subst, arith}
use Rattle.std.specs.Prelude.{Contains}
use Rattle.std.proofs.Math.Dec.{eqb}
use Rattle.std.proofs.lemmas.Bool.{false≢true}
use Rattle.std.proofs.lemmas.Bool.Decides.{eqb_tells}
use Rattle.std.proofs.lemmas.List.{append_assoc, map-append}
use Rattle.std.proofs.lemmas.Map.Made.{Contains-tail}
use Rattle.std.proofs.lemmas.List.Elements.{Contains-append_cases, Contains-append_left, Contains-append_right}
use Rattle.dsc_terms.specs.Lists.{Precedes}
use Rattle.dsc_terms.proofs.Splits.{contains_front, precedes, precedes_front, split_append, split_at, split_push}
use Rattle.dsc_document.specs.declared.document.Document.{Document}
use Rattle.dsc_document.specs.Dependencies.{IsDependency}
use Rattle.depend_order.specs.Documents.{IsOrderOfDocument}
use Rattle.resource_kinds.specs.declared.entry.TestAnswer.TheVariants as tests
use Rattle.resource_kinds.specs.declared.entry.SetAnswer.TheVariants as sets
use Rattle.resource_kinds.specs.declared.entry.Entry.{Entry}
use Rattle.resource_kinds.specs.declared.entry.Entry.TheVariants.{Tested, Set}
use Rattle.resource_kinds.specs.Trace.{EndsWith, HasEntry, IsFinal, has_succeeded, place_of}
use Rattle.lcm_core.specs.declared.modes.RunMode.TheVariants.{Repair}
use Rattle.lcm_core.specs.Legal.{GoesOn, IsReady, Legal, MaySet, MayTest}
use Rattle.lcm_core.specs.Turn.{IsTurn}
use Rattle.lcm_core.specs.Whole.{BeginsWithSet, BeginsWithTest, IsReached, Whole}
use Rattle.lcm_core.proofs.Traces.{ends_with_push, legal_push}
use Rattle.lcm_core.proofs.OneTurn.{AreOf, again_in_turn, are_of_turn, elsewhere, has_split, of_contained, of_split, repaired_in_turn, set_begins, succeeded_elsewhere, test_begins}

-- one of its dependencies, whose turn is past too, did not succeed
abbrev pub IsHeldBack : Document → List ℕ → List Entry → ℕ → Type 0
IsHeldBack document past t q = (s : ℕ) × IsDependency document q s × Contains past s × (has_succeeded t s ≡ false)

pub record Past (document : Document) (order past : List ℕ) (t : List Entry) : Type 0 where
  pub legal : Legal document Repair order t
  pub within : (q : ℕ) → HasEntry t q → Contains past q
  pub tested : (q : ℕ) → Contains past q → HasEntry t q ⊎ IsHeldBack document past t q
  pub again : (before : List Entry) (q : ℕ) (after : List Entry) → t ≡ before ++ Set q sets.Done ∷ after → BeginsWithTest after q
  pub repaired : (before : List Entry) (q : ℕ) (after : List Entry) → t ≡ before ++ Tested q tests.No ∷ after → (HasEntry before q → ⊥) → BeginsWithSet after q

-- r is the next of the order
pub record IsNextOf (document : Document) (order past : List ℕ) (r : ℕ) : Type 0 where
  pub is_place : r < length document.resources
  pub listed : Contains order r
  pub new : Contains past r → ⊥
  pub follows : (q : ℕ) → Contains past q → Precedes order q r
  pub front : (q : ℕ) → Precedes order q r → Contains past q
  pub met : (q : ℕ) → IsDependency document r q → Contains past q

pub next_of : (document : Document) (order : List ℕ) (i : ℕ) → IsOrderOfDocument document order → i < length order → IsNextOf document order (take i order) (get_or order i 0)
next_of document order i is lt =
    let r = get_or order i 0 in
    let at = split_at order i 0 lt in
    let ready = (is.earliest (take i order) r (drop (i + 1) order) at).ready in
    record {
      is_place = ready.is_place;
      listed = subst (λ (l : List ℕ). Contains l r) (sym at) (contains_front r (take i order) (drop (i + 1) order));
      new = ready.absent;
      follows = λ q has. precedes order i q lt has;
      front = λ q before. precedes_front order i q lt is.once before;
      met = ready.met;
    }

pub past_none : (document : Document) (order : List ℕ) → Past document order [] []
past_none document order = record {
  legal = λ before e after p. absurd (nothing before e after p);
  within = λ q has. absurd (omega (arith, has.1));
  tested = λ q has. absurd (omega (arith, has.1));
  again = λ before q after p. absurd (nothing before _ after p);
  repaired = λ before q after p first. absurd (nothing before _ after p);
}
  where
    nothing : (before : List Entry) (e : Entry) (after : List Entry) → [] ≡ before ++ e ∷ after → ⊥
    nothing [] e after p = absurd cc
    nothing (b ∷ before) e after p = absurd cc

module _ (document : Document) (order past : List ℕ) (t : List Entry) (r : ℕ) (so_far : Past document order past t) (next : IsNextOf document order past r) where
  fresh : HasEntry t r → ⊥
  fresh has = next.new (so_far.within r has)

  -- r is not one of those that are past
  other : (q : ℕ) → Contains past q → eqb r q ≡ false
  other q has = elim (eqb_tells r q) [
    | inl same ↦ absurd (next.new (subst (Contains past) (sym same.1) has))
    | inr apart ↦ apart.0
  ]

  -- ---- the turn is legal

  ready_push : (u : List Entry) (e : Entry) → place_of e ≡ r → IsReady document Repair u r → IsReady document Repair (u ++ e ∷ []) r
  ready_push u e here ready = λ same q depends.
      subst IsTrue (sym (succeeded_elsewhere u e q (ap (λ (p : ℕ). eqb p q) here ∙ other q (next.met q depends)))) (ready same q depends)

  may_test_first : GoesOn t → IsReady document Repair t r → MayTest document Repair order t r
  may_test_first goes_on ready = record {
    is_place = next.is_place;
    in_turn = inl (record { listed = next.listed; once = fresh; in_order = λ q has. next.follows q (so_far.within q has) });
    ready = ready;
    goes_on = goes_on;
  }

  may_set : IsReady document Repair t r → MaySet document Repair (t ++ Tested r tests.No ∷ []) r
  may_set ready = record {
    is_place = next.is_place;
    repairs = refl;
    after_no = (t, refl);
    once = λ front answer rest p. elim (split_push t (Tested r tests.No) front (Set r answer) rest p) [
      | inl same ↦ absurd (no_set answer same.1)
      | inr more ↦ fresh (has_split t front (Set r answer) more.0 more.1)
    ];
    ready = ready_push t (Tested r tests.No) refl ready;
    goes_on = λ e ends last. absurd (no_end (subst IsFinal (sym (ends_with_push t (Tested r tests.No) e ends)) last));
  }
    where
      no_set : (answer : _) → Tested r tests.No ≡ Set r answer → ⊥
      no_set answer p = absurd cc

      no_end : tests.No ≡ tests.Memory → ⊥
      no_end p = absurd cc

  may_test_again : IsReady document Repair t r → MayTest document Repair order (t ++ Tested r tests.No ∷ [] ++ Set r sets.Done ∷ []) r
  may_test_again ready =
      let u = t ++ Tested r tests.No ∷ [] in
      record {
        is_place = next.is_place;
        in_turn = inr (u, refl);
        ready = ready_push u (Set r sets.Done) refl (ready_push t (Tested r tests.No) refl ready);
        goes_on = λ e ends last. subst IsFinal (sym (ends_with_push u (Set r sets.Done) e ends)) last;
      }

  pub legal_turn : (turn : List Entry) → IsTurn r turn → GoesOn t → IsReady document Repair t r → Legal document Repair order (t ++ turn)
  legal_turn turn (inl tested) goes_on ready =
      subst (λ (l : List Entry). Legal document Repair order (t ++ l)) (sym tested.is)
      (legal_push document Repair order t (Tested r tested.answer) so_far.legal (may_test_first goes_on ready))
  legal_turn turn (inr (inl set)) goes_on ready =
      let u = t ++ Tested r tests.No ∷ [] in
      let first = legal_push document Repair order t (Tested r tests.No) so_far.legal (may_test_first goes_on ready) in
      subst (λ (l : List Entry). Legal document Repair order l) (append_assoc t (Tested r tests.No ∷ []) (Set r set.answer ∷ []) ∙ ap (λ (l : List Entry). t ++ l) (sym set.is))
      (legal_push document Repair order u (Set r set.answer) first (may_set ready))
  legal_turn turn (inr (inr again)) goes_on ready =
      let u = t ++ Tested r tests.No ∷ [] in
      let first = legal_push document Repair order t (Tested r tests.No) so_far.legal (may_test_first goes_on ready) in
      let second = legal_push document Repair order u (Set r sets.Done) first (may_set ready) in
      let joined = append_assoc u (Set r sets.Done ∷ []) (Tested r again.answer ∷ []) ∙ append_assoc t (Tested r tests.No ∷ []) (Set r sets.Done ∷ Tested r again.answer ∷ []) in
      subst (λ (l : List Entry). Legal document Repair order l) (joined ∙ ap (λ (l : List Entry). t ++ l) (sym again.is))
      (legal_push document Repair order (u ++ Set r sets.Done ∷ []) (Tested r again.answer) second (may_test_again ready))

  -- ---- the turn of r is past

  stays : (more : List ℕ) (u : List Entry) (q : ℕ) → AreOf r u → IsHeldBack document past t q → IsHeldBack document (past ++ more) (t ++ u) q
  stays more u q are (s, depends, has, failed) = (s, depends, Contains-append_left past more s has, elsewhere t u r s are (other s has) ∙ failed)

  has_left : (u : List Entry) (q : ℕ) → HasEntry t q → HasEntry (t ++ u) q
  has_left u q has = subst (λ (l : List ℕ). Contains l q) (sym (map-append place_of t u)) (Contains-append_left (map place_of t) (map place_of u) q has)

  has_right : (u : List Entry) (q : ℕ) → HasEntry u q → HasEntry (t ++ u) q
  has_right u q has = subst (λ (l : List ℕ). Contains l q) (sym (map-append place_of t u)) (Contains-append_right (map place_of t) (map place_of u) q has)

  has_front : (front before : List Entry) (q : ℕ) → before ≡ t ++ front → (HasEntry before q → ⊥) → HasEntry front q → ⊥
  has_front front before q is none has = none (subst (λ (l : List Entry). HasEntry l q) (sym is) (has_right front q has))

  turn_has : (turn : List Entry) → IsTurn r turn → HasEntry turn r
  turn_has turn (inl tested) = has_split turn [] (Tested r tested.answer) [] tested.is
  turn_has turn (inr (inl set)) = has_split turn [] (Tested r tests.No) (Set r set.answer ∷ []) set.is
  turn_has turn (inr (inr again)) = has_split turn [] (Tested r tests.No) (Set r sets.Done ∷ Tested r again.answer ∷ []) again.is

  one_of : (q : ℕ) → q ≡ r → Contains (r ∷ []) q
  one_of q same = (0, omega arith, sym same)

  is_r : (q : ℕ) → Contains (r ∷ []) q → r ≡ q
  is_r q has = elim (eqb_tells r q) [
    | inl same ↦ same.1
    | inr apart ↦ absurd (omega (arith, (Contains-tail r [] q apart.1 has).1))
  ]

  pub past_turn : (turn : List Entry) → IsTurn r turn → GoesOn t → IsReady document Repair t r → Past document order (past ++ r ∷ []) (t ++ turn)
  past_turn turn is goes_on ready =
      let are = are_of_turn r turn is in
      record {
        legal = legal_turn turn is goes_on ready;
        within = λ q has. elim (Contains-append_cases (map place_of t) (map place_of turn) q (subst (λ (l : List ℕ). Contains l q) (map-append place_of t turn) has)) [
          | inl before ↦ Contains-append_left past (r ∷ []) q (so_far.within q before)
          | inr now ↦ Contains-append_right past (r ∷ []) q (one_of q (of_contained r q turn are now))
        ];
        tested = λ q has. elim (Contains-append_cases past (r ∷ []) q has) [
          | inl before ↦ elim (so_far.tested q before) [
            | inl had ↦ inl (has_left turn q had)
            | inr back ↦ inr (stays (r ∷ []) turn q are back)
          ]
          | inr now ↦ inl (subst (λ (p : ℕ). HasEntry (t ++ turn) p) (is_r q now) (has_right turn r (turn_has turn is)))
        ];
        again = λ before q after p. elim (split_append t turn before (Set q sets.Done) after p) [
          | inl here ↦ subst (λ (l : List Entry). BeginsWithTest l q) (sym here.2) (test_begins here.0 turn q (so_far.again before q here.0 here.1))
          | inr there ↦ again_in_turn r q turn there.0 after is there.2
        ];
        repaired = λ before q after p first. elim (split_append t turn before (Tested q tests.No) after p) [
          | inl here ↦ subst (λ (l : List Entry). BeginsWithSet l q) (sym here.2) (set_begins here.0 turn q (so_far.repaired before q here.0 here.1 first))
          | inr there ↦ repaired_in_turn r q turn there.0 after is (has_front there.0 before q there.1 first) there.2
        ];
      }

  -- r was passed over, since a dependency of it did not succeed
  pub past_over : (s : ℕ) → IsDependency document r s → has_succeeded t s ≡ false → Past document order (past ++ r ∷ []) t
  past_over s depends failed = record {
    legal = so_far.legal;
    within = λ q has. Contains-append_left past (r ∷ []) q (so_far.within q has);
    tested = λ q has. elim (Contains-append_cases past (r ∷ []) q has) [
      | inl before ↦ elim (so_far.tested q before) [
        | inl had ↦ inl had
        | inr (u, needs, in_past, not) ↦ inr (u, needs, Contains-append_left past (r ∷ []) u in_past, not)
      ]
      | inr now ↦ inr (s, subst (λ (p : ℕ). IsDependency document p s) (is_r q now) depends, Contains-append_left past (r ∷ []) s (next.met s depends), failed)
    ];
    again = so_far.again;
    repaired = so_far.repaired;
  }

  -- ---- a run that ended in the turn of r

  pub whole_at_stop : (turn : List Entry) (last : Entry) → IsTurn r turn → EndsWith turn last → IsFinal last → Whole document Repair order (t ++ turn)
  whole_at_stop turn last is ends final =
      let are = are_of_turn r turn is in
      let here : place_of last ≡ r = of_split r ends.0 last [] (subst (AreOf r) ends.1 are) in
      let end : EndsWith (t ++ turn) last = (t ++ ends.0, ap (λ (l : List Entry). t ++ l) ends.1 ∙ sym (append_assoc t ends.0 (last ∷ []))) in
      let before_r : (q : ℕ) → IsReached order (t ++ turn) q → Contains past q = λ q reached. next.front q (subst (Precedes order q) here (reached last end final)) in
      record {
        tested = λ q listed reached ready. elim (so_far.tested q (before_r q reached)) [
          | inl had ↦ has_left turn q had
          | inr (s, depends, in_past, failed) ↦ absurd (false≢true (sym (elsewhere t turn r s are (other s in_past) ∙ failed) ∙ ready refl s depends))
        ];
        again = λ before q after reached p. elim (split_append t turn before (Set q sets.Done) after p) [
          | inl in_t ↦ subst (λ (l : List Entry). BeginsWithTest l q) (sym in_t.2) (test_begins in_t.0 turn q (so_far.again before q in_t.0 in_t.1))
          | inr there ↦ again_in_turn r q turn there.0 after is there.2
        ];
        repaired = λ before q after same reached p first. elim (split_append t turn before (Tested q tests.No) after p) [
          | inl in_t ↦ subst (λ (l : List Entry). BeginsWithSet l q) (sym in_t.2) (set_begins in_t.0 turn q (so_far.repaired before q in_t.0 in_t.1 first))
          | inr there ↦ repaired_in_turn r q turn there.0 after is (has_front there.0 before q there.1 first) there.2
        ];
      }

-- ---- a run that came to its end

pub whole_at_last : (document : Document) (order : List ℕ) (t : List Entry) → Past document order order t → Whole document Repair order t
whole_at_last document order t so_far = record {
  tested = λ q listed reached ready. elim (so_far.tested q listed) [
    | inl had ↦ had
    | inr (s, depends, in_past, failed) ↦ absurd (false≢true (sym failed ∙ ready refl s depends))
  ];
  again = λ before q after reached p. so_far.again before q after p;
  repaired = λ before q after same reached p first. so_far.repaired before q after p first;
}
