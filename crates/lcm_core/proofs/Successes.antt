-- In a legal trace nothing of a resource stands after its yes, so the yeses are the resources that succeeded.
use Rattle.std.proofs.Common.{◌≡◌, inl, inr, ℕ, ◌+◌, ◌<◌, Bool, true, false, cond, List, [], ◌∷◌, ◌++◌, length, get_or, set, map, refl, sym, ◌∙◌, ap, subst, arith, append-nil, All}
use Rattle.std.specs.Prelude.{Contains, count_by}
use Rattle.std.proofs.lemmas.Bool.{cases_Bool, false≢true}
use Rattle.std.proofs.lemmas.List.{append_assoc, map-append}
use Rattle.std.proofs.lemmas.List.Elements.{All-head, All-tail, Contains-append_left}
use Rattle.std.proofs.lemmas.List.Sums.{sum_by-cons, sum_by-set}
use Rattle.dsc_terms.specs.Lists.{places_below}
use Rattle.dsc_terms.proofs.Splits.{split_push}
use Rattle.dsc_document.specs.declared.document.Document.{Document}
use Rattle.resource_kinds.specs.declared.entry.TestAnswer.TheVariants as tests
use Rattle.resource_kinds.specs.declared.entry.SetAnswer.{SetAnswer}
use Rattle.resource_kinds.specs.declared.entry.SetAnswer.TheVariants as sets
use Rattle.resource_kinds.specs.declared.entry.Entry.{Entry}
use Rattle.resource_kinds.specs.declared.entry.Entry.TheVariants.{Tested, Set}
use Rattle.resource_kinds.specs.Trace.{HasEntry, entry_is_yes, has_succeeded, is_yes, place_of}
use Rattle.resource_kinds.proofs.Marks.{count_mapped, get_or-marks, length-marks, marks_by, marks_push}
use Rattle.lcm_core.specs.declared.modes.RunMode.{RunMode}
use Rattle.lcm_core.specs.Legal.{Legal}
use Rattle.lcm_core.specs.RunLaws.{EndsAtYes, LegalEndsAtYes}
use Rattle.lcm_core.proofs.Bounded.{count_push}
use Rattle.lcm_core.proofs.OneTurn.{has_split}
use Rattle.lcm_core.proofs.RepairedEntries.{IsLastOf, last_is, last_of, last_over, set_split}

-- ---- the resource of the next entry did not succeed before

pub yes_is : (e : Entry) → entry_is_yes e ≡ true → e ≡ Tested (place_of e) tests.Yes
yes_is (Tested place tests.Yes) passes = refl
yes_is (Tested place tests.No) passes = absurd (false≢true passes)
yes_is (Tested place (tests.Fault failure)) passes = absurd (false≢true passes)
yes_is (Tested place tests.Memory) passes = absurd (false≢true passes)
yes_is (Set place answer) passes = absurd (false≢true passes)

after_yes : (t : List Entry) (e : Entry) → EndsAtYes (t ++ e ∷ []) → (l : IsLastOf t (place_of e)) → entry_is_yes l.entry ≡ true → ⊥
after_yes t e ends l passes =
    let rest = l.rest ++ e ∷ [] in
    let is = ap (λ (u : List Entry). u ++ e ∷ []) (l.is ∙ ap (λ (x : Entry). l.front ++ x ∷ l.rest) (yes_is l.entry passes))
    ∙ append_assoc l.front (Tested (place_of l.entry) tests.Yes ∷ l.rest) (e ∷ []) in
    ends l.front (place_of l.entry) rest is (subst (HasEntry rest) (sym l.of) (has_split rest l.rest e [] refl))

not_yet : (t : List Entry) (e : Entry) → EndsAtYes (t ++ e ∷ []) → has_succeeded t (place_of e) ≡ false
not_yet t e ends = elim (last_of t (place_of e)) [
  | inl l ↦ elim (cases_Bool (entry_is_yes l.entry)) [
    | inl passes ↦ absurd (after_yes t e ends l passes)
    | inr other ↦ ap is_yes (last_is t (place_of e) l) ∙ other
  ]
  | inr none ↦ ap is_yes (last_over [] t (place_of e) none)
]

-- ---- counting

-- the yeses are the resources that succeeded
abbrev Counts : ℕ → List Entry → Type 0
Counts n t = count_by entry_is_yes t ≡ count_by (has_succeeded t) (places_below n)

count_none : (xs : List ℕ) → count_by (has_succeeded []) xs ≡ 0
count_none [] = refl
count_none (x ∷ xs) = omega (arith, sum_by-cons (λ (r : ℕ). cond (has_succeeded [] r) 1 0) x xs, count_none xs)

count_more : (n : ℕ) (t : List Entry) (e : Entry) → EndsAtYes (t ++ e ∷ []) → place_of e < n → Counts n t → Counts n (t ++ e ∷ [])
count_more n t e ends within so_far =
    let one = λ (b : Bool). cond b 1 0 in
    let marks = marks_by is_yes t n in
    let lt : place_of e < length marks = omega (arith, within, length-marks is_yes t n) in
    let old : get_or marks (place_of e) false ≡ false = get_or-marks is_yes t n (place_of e) false within ∙ not_yet t e ends in
    let before : count_by (has_succeeded t) (places_below n) ≡ count_by (λ (b : Bool). b) marks = sym (count_mapped (λ (b : Bool). b) (has_succeeded t) (places_below n)) in
    let written = sum_by-set one marks (place_of e) (entry_is_yes e) false lt in
    let gone : one (get_or marks (place_of e) false) ≡ 0 = ap {B = ℕ} one old in
    let total : count_by (λ (b : Bool). b) (set marks (place_of e) (entry_is_yes e)) ≡ count_by (λ (b : Bool). b) marks + one (entry_is_yes e) = omega (arith, written, gone) in
    let put = ap (count_by (λ (b : Bool). b)) (marks_push is_yes t e n within) in
    let after = count_mapped (λ (b : Bool). b) (has_succeeded (t ++ e ∷ [])) (places_below n) in
    count_push entry_is_yes t e ∙ ap (λ (k : ℕ). k + one (entry_is_yes e)) (so_far ∙ before) ∙ sym total ∙ put ∙ after

ends_front : (t u : List Entry) → EndsAtYes (t ++ u) → EndsAtYes t
ends_front t u ends front r rest is has =
    ends front r (rest ++ u) (ap (λ (l : List Entry). l ++ u) is ∙ append_assoc front (Tested r tests.Yes ∷ rest) u)
    (subst (λ (l : List ℕ). Contains l r) (sym (map-append place_of rest u)) (Contains-append_left (map place_of rest) (map place_of u) r has))

counted_from : (n : ℕ) (t u : List Entry) → EndsAtYes (t ++ u) → All (λ e. place_of e < n) u → Counts n t → Counts n (t ++ u)
counted_from n t [] ends known so_far = subst (Counts n) (sym (append-nil t)) so_far
counted_from n t (e ∷ u) ends known so_far =
    let joined = append_assoc t (e ∷ []) u in
    let all_ends = subst EndsAtYes (sym joined) ends in
    let within = All-head (λ (x : Entry). place_of x < n) e u known in
    let here = count_more n t e (ends_front (t ++ e ∷ []) u all_ends) within so_far in
    subst (Counts n) joined (counted_from n (t ++ e ∷ []) u all_ends (All-tail (λ (x : Entry). place_of x < n) e u known) here)

pub counted : (n : ℕ) (trace : List Entry) → EndsAtYes trace → All (λ e. place_of e < n) trace → Counts n trace
counted n trace ends known = counted_from n [] trace ends known (sym (count_none (places_below n)))

-- ---- legal traces

module _ (document : Document) (mode : RunMode) (order : List ℕ) (trace : List Entry) (legal : Legal document mode order trace) where
  -- no Set of a resource stands after its yes: the Test before a Set was the first
  no_set_after : (front : List Entry) (r p : ℕ) (between : List Entry) (answer : SetAnswer) (rest : List Entry) → r ≡ p
      → trace ≡ (front ++ Tested r tests.Yes ∷ between) ++ Set p answer ∷ rest → ⊥
  no_set_after front r p between answer rest same is =
      let before = set_split document mode order trace legal (front ++ Tested r tests.Yes ∷ between) p answer rest is in
      elim (split_push before.0 (Tested p tests.No) front (Tested r tests.Yes) between (sym before.1)) [
        | inl both ↦ absurd (no_yes both.1)
        | inr more ↦ before.2.once (subst (HasEntry before.0) same (has_split before.0 front (Tested r tests.Yes) more.0 more.1))
      ]
    where
      no_yes : Tested p tests.No ≡ Tested r tests.Yes → ⊥
      no_yes equal = absurd cc

  none_after : (front : List Entry) (r : ℕ) (between : List Entry) (e : Entry) (rest : List Entry) → place_of e ≡ r
      → trace ≡ (front ++ Tested r tests.Yes ∷ between) ++ e ∷ rest → ⊥
  none_after front r between (Set p answer) rest same is = no_set_after front r p between answer rest (sym same) is
  none_after front r between (Tested p answer) rest same is = elim (legal (front ++ Tested r tests.Yes ∷ between) (Tested p answer) rest is).in_turn [
    | inl first ↦
        let before = front ++ Tested r tests.Yes ∷ between in
        first.once (subst (HasEntry before) (sym same) (has_split before front (Tested r tests.Yes) between refl))
    | inr ends ↦ elim (split_push ends.0 (Set p sets.Done) front (Tested r tests.Yes) between (sym ends.1)) [
      | inl both ↦ absurd (no_test both.1)
      | inr more ↦
          no_set_after front r p more.0 sets.Done (Tested p answer ∷ rest) (sym same)
          (is ∙ ap (λ (l : List Entry). l ++ Tested p answer ∷ rest) (ends.1 ∙ ap (λ (l : List Entry). l ++ Set p sets.Done ∷ []) more.1)
          ∙ append_assoc (front ++ Tested r tests.Yes ∷ more.0) (Set p sets.Done ∷ []) (Tested p answer ∷ rest))
    ]
  ]
    where
      no_test : Set p sets.Done ≡ Tested r tests.Yes → ⊥
      no_test equal = absurd cc

  ends_at_yes : EndsAtYes trace
  ends_at_yes front r rest is has = elim (last_of rest r) [
    | inl l ↦
        none_after front r l.front l.entry l.rest l.of
        (is ∙ ap (λ (u : List Entry). front ++ Tested r tests.Yes ∷ u) l.is ∙ sym (append_assoc front (Tested r tests.Yes ∷ l.front) (l.entry ∷ l.rest)))
    | inr none ↦ none has
  ]

pub legal_ends : LegalEndsAtYes
legal_ends document mode order trace legal = ends_at_yes document mode order trace legal
