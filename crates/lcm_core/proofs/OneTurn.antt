-- How a trace grows by the turn of a resource.
use Rattle.std.proofs.Common.{◌≡◌, inl, inr, ℕ, false, List, [], ◌∷◌, ◌++◌, map, refl, sym, ◌∙◌, ap, subst, arith, length, length-append, append-nil, Err}
use Rattle.std.specs.Prelude.{Contains}
use Rattle.std.proofs.Math.Dec.{eqb}
use Rattle.std.proofs.lemmas.Bool.Decides.{eqb_tells}
use Rattle.std.proofs.lemmas.List.{append_assoc, map-append}
use Rattle.std.proofs.lemmas.Map.Made.{Contains-tail}
use Rattle.dsc_terms.proofs.Splits.{contains_front}
use Rattle.dsc_document.specs.declared.document.Document.{Document}
use Rattle.resource_kinds.specs.declared.entry.TestAnswer.{TestAnswer}
use Rattle.resource_kinds.specs.declared.entry.TestAnswer.TheVariants as tests
use Rattle.resource_kinds.specs.declared.entry.SetAnswer.{SetAnswer}
use Rattle.resource_kinds.specs.declared.entry.SetAnswer.TheVariants as sets
use Rattle.resource_kinds.specs.declared.entry.Entry.{Entry}
use Rattle.resource_kinds.specs.declared.entry.Entry.TheVariants.{Tested, Set}
use Rattle.resource_kinds.specs.Trace.{Chain, EndsWith, HasEntry, IsFinal, WantsMemory, entry_is_yes, has_succeeded, is_yes, place_of}
use Rattle.resource_kinds.proofs.Chains.{chain_append}
use Rattle.resource_kinds.proofs.Marks.{last_elsewhere, last_here}
use Rattle.lcm_core.specs.Legal.{GoesOn}
use Rattle.lcm_core.specs.declared.turns.Stop.{Stop}
use Rattle.lcm_core.specs.declared.turns.Stop.TheVariants as stops
use Rattle.lcm_core.specs.Turn.{IsStop, IsTurn, Shows}
use Rattle.lcm_core.specs.Whole.{BeginsWithSet, BeginsWithTest}
use Rattle.lcm_core.proofs.Traces.{ends_with_push}

-- ---- entries of one resource

abbrev pub AreOf : ℕ → List Entry → Type 0
AreOf r [] = Unit {0}
AreOf r (e ∷ es) = (place_of e ≡ r) × AreOf r es

pub are_of_turn : (r : ℕ) (turn : List Entry) → IsTurn r turn → AreOf r turn
are_of_turn r turn (inl tested) = subst (AreOf r) (sym tested.is) (refl, tt)
are_of_turn r turn (inr (inl set)) = subst (AreOf r) (sym set.is) (refl, (refl, tt))
are_of_turn r turn (inr (inr again)) = subst (AreOf r) (sym again.is) (refl, (refl, (refl, tt)))

-- an element of such a list is of the resource
pub of_split : (r : ℕ) (front : List Entry) (x : Entry) (after : List Entry) → AreOf r (front ++ x ∷ after) → place_of x ≡ r
of_split r [] x after are = are.0
of_split r (e ∷ front) x after are = of_split r front x after are.1

pub of_contained : (r q : ℕ) (es : List Entry) → AreOf r es → Contains (map place_of es) q → q ≡ r
of_contained r q [] are has = absurd (omega (arith, has.1))
of_contained r q (e ∷ es) are has = elim (eqb_tells (place_of e) q) [
  | inl same ↦ sym same.1 ∙ are.0
  | inr other ↦ of_contained r q es are.1 (Contains-tail (place_of e) (map place_of es) q other.1 has)
]

-- what other resources show stays
pub succeeded_elsewhere : (t : List Entry) (e : Entry) (q : ℕ) → eqb (place_of e) q ≡ false → has_succeeded (t ++ e ∷ []) q ≡ has_succeeded t q
succeeded_elsewhere t e q apart = ap is_yes (last_elsewhere t e q apart)

pub elsewhere : (t es : List Entry) (r q : ℕ) → AreOf r es → eqb r q ≡ false → has_succeeded (t ++ es) q ≡ has_succeeded t q
elsewhere t [] r q are other = ap (λ (l : List Entry). has_succeeded l q) (append-nil t)
elsewhere t (e ∷ es) r q are other =
    ap (λ (l : List Entry). has_succeeded l q) (sym (append_assoc t (e ∷ []) es))
    ∙ elsewhere (t ++ e ∷ []) es r q are.1 other
    ∙ succeeded_elsewhere t e q (ap (λ (p : ℕ). eqb p q) are.0 ∙ other)

-- the resource shows what its last entry does
pub shows_last : (t turn : List Entry) (r : ℕ) (last : Entry) → AreOf r turn → EndsWith turn last → has_succeeded (t ++ turn) r ≡ entry_is_yes last
shows_last t turn r last are ends =
    ap (λ (l : List Entry). has_succeeded (t ++ l) r) ends.1
    ∙ ap (λ (l : List Entry). has_succeeded l r) (sym (append_assoc t ends.0 (last ∷ [])))
    ∙ ap is_yes (last_here (t ++ ends.0) last r (of_split r ends.0 last [] (subst (AreOf r) ends.1 are)))

-- ---- splits

-- an entry of a trace is one of its resource
pub has_split : (t before : List Entry) (x : Entry) (rest : List Entry) → t ≡ before ++ x ∷ rest → HasEntry t (place_of x)
has_split t before x rest p =
    subst (λ (l : List ℕ). Contains l (place_of x)) (sym (ap (map place_of) p ∙ map-append place_of before (x ∷ rest)))
    (contains_front (place_of x) (map place_of before) (map place_of rest))

pub test_begins : (rest more : List Entry) (q : ℕ) → BeginsWithTest rest q → BeginsWithTest (rest ++ more) q
test_begins [] more q begins = absurd begins
test_begins (Tested place answer ∷ rest) more q begins = begins
test_begins (Set place answer ∷ rest) more q begins = absurd begins

pub set_begins : (rest more : List Entry) (q : ℕ) → BeginsWithSet rest q → BeginsWithSet (rest ++ more) q
set_begins [] more q begins = absurd begins
set_begins (Tested place answer ∷ rest) more q begins = absurd begins
set_begins (Set place answer ∷ rest) more q begins = begins

-- ---- within a turn

one_too_few : (front : List Entry) (x : Entry) (after : List Entry) → [] ≡ front ++ x ∷ after → ⊥
one_too_few front x after p = omega (arith, ap length p, length-append front (x ∷ after))

again_in_three : (r q : ℕ) (answer : TestAnswer) (front after : List Entry) → Tested r tests.No ∷ Set r sets.Done ∷ Tested r answer ∷ [] ≡ front ++ Set q sets.Done ∷ after → BeginsWithTest after q
again_in_three r q answer [] after p = absurd cc
again_in_three r q answer (e ∷ []) after p =
    let here : r ≡ q = cc in
    let tail : Tested r answer ∷ [] ≡ after = cc in
    subst (λ (l : List Entry). BeginsWithTest l q) tail here
again_in_three r q answer (e ∷ f ∷ []) after p = absurd cc
again_in_three r q answer (e ∷ f ∷ g ∷ front) after p =
    let rest : [] ≡ front ++ Set q sets.Done ∷ after = cc in
    absurd (one_too_few front _ after rest)

again_in_two : (r q : ℕ) (answer : SetAnswer) (front after : List Entry) → (answer ≡ sets.Done → ⊥) → Tested r tests.No ∷ Set r answer ∷ [] ≡ front ++ Set q sets.Done ∷ after → BeginsWithTest after q
again_in_two r q answer [] after other p = absurd cc
again_in_two r q answer (e ∷ []) after other p =
    let same : answer ≡ sets.Done = cc in
    absurd (other same)
again_in_two r q answer (e ∷ f ∷ front) after other p =
    let rest : [] ≡ front ++ Set q sets.Done ∷ after = cc in
    absurd (one_too_few front _ after rest)

again_in_one : (r q : ℕ) (answer : TestAnswer) (front after : List Entry) → Tested r answer ∷ [] ≡ front ++ Set q sets.Done ∷ after → BeginsWithTest after q
again_in_one r q answer [] after p = absurd cc
again_in_one r q answer (e ∷ front) after p =
    let rest : [] ≡ front ++ Set q sets.Done ∷ after = cc in
    absurd (one_too_few front _ after rest)

-- what was set in a turn is tested again
pub again_in_turn : (r q : ℕ) (turn front after : List Entry) → IsTurn r turn → turn ≡ front ++ Set q sets.Done ∷ after → BeginsWithTest after q
again_in_turn r q turn front after (inl tested) p = again_in_one r q tested.answer front after (sym tested.is ∙ p)
again_in_turn r q turn front after (inr (inl set)) p = again_in_two r q set.answer front after set.other (sym set.is ∙ p)
again_in_turn r q turn front after (inr (inr again)) p = again_in_three r q again.answer front after (sym again.is ∙ p)

repaired_in_one : (r q : ℕ) (answer : TestAnswer) (front after : List Entry) → (answer ≡ tests.No → ⊥) → Tested r answer ∷ [] ≡ front ++ Tested q tests.No ∷ after → BeginsWithSet after q
repaired_in_one r q answer [] after other p =
    let same : answer ≡ tests.No = cc in
    absurd (other same)
repaired_in_one r q answer (e ∷ front) after other p =
    let rest : [] ≡ front ++ Tested q tests.No ∷ after = cc in
    absurd (one_too_few front _ after rest)

repaired_in_two : (r q : ℕ) (answer : SetAnswer) (front after : List Entry) → Tested r tests.No ∷ Set r answer ∷ [] ≡ front ++ Tested q tests.No ∷ after → BeginsWithSet after q
repaired_in_two r q answer [] after p =
    let here : r ≡ q = cc in
    let tail : Set r answer ∷ [] ≡ after = cc in
    subst (λ (l : List Entry). BeginsWithSet l q) tail here
repaired_in_two r q answer (e ∷ []) after p = absurd cc
repaired_in_two r q answer (e ∷ f ∷ front) after p =
    let rest : [] ≡ front ++ Tested q tests.No ∷ after = cc in
    absurd (one_too_few front _ after rest)

repaired_in_three : (r q : ℕ) (answer : TestAnswer) (front after : List Entry) → (HasEntry front q → ⊥) → Tested r tests.No ∷ Set r sets.Done ∷ Tested r answer ∷ [] ≡ front ++ Tested q tests.No ∷ after → BeginsWithSet after q
repaired_in_three r q answer [] after first p =
    let here : r ≡ q = cc in
    let tail : Set r sets.Done ∷ Tested r answer ∷ [] ≡ after = cc in
    subst (λ (l : List Entry). BeginsWithSet l q) tail here
repaired_in_three r q answer (e ∷ []) after first p = absurd cc
repaired_in_three r q answer (e ∷ f ∷ []) after first p =
    let head : Tested r tests.No ≡ e = cc in
    let here : r ≡ q = cc in
    absurd (first (0, omega arith, sym (ap place_of head) ∙ here))
repaired_in_three r q answer (e ∷ f ∷ g ∷ front) after first p =
    let rest : [] ≡ front ++ Tested q tests.No ∷ after = cc in
    absurd (one_too_few front _ after rest)

-- what does not hold at first is set in its turn
pub repaired_in_turn : (r q : ℕ) (turn front after : List Entry) → IsTurn r turn → (HasEntry front q → ⊥) → turn ≡ front ++ Tested q tests.No ∷ after → BeginsWithSet after q
repaired_in_turn r q turn front after (inl tested) first p = repaired_in_one r q tested.answer front after tested.other (sym tested.is ∙ p)
repaired_in_turn r q turn front after (inr (inl set)) first p = repaired_in_two r q set.answer front after (sym set.is ∙ p)
repaired_in_turn r q turn front after (inr (inr again)) first p = repaired_in_three r q again.answer front after first (sym again.is ∙ p)

-- ---- chains and ends

pub chain_turn : {S : Type 0} (does : S → Document → Entry → S → Type 0) (still : S → S → Type 0) (document : Document) (a : S) (t : List Entry) (b : S) (r : ℕ) (turn : List Entry) (c : S)
    → ((x y z : S) (d : Document) (w : Entry) → still x y → does y d w z → does x d w z)
    → IsTurn r turn → Chain does still document a t b → Chain does still document b turn c → Chain does still document a (t ++ turn) c
chain_turn {S} does still document a t b r turn c joins is one other = begun is
  where
    at : (e : Entry) (es : List Entry) → turn ≡ e ∷ es → Chain does still document a (t ++ turn) c
    at e es same =
        subst (λ (l : List Entry). Chain does still document a (t ++ l) c) (sym same)
        (chain_append does still document a t b e es c joins one (subst (λ (l : List Entry). Chain does still document b l c) same other))

    begun : IsTurn r turn → Chain does still document a (t ++ turn) c
    begun (inl tested) = at (Tested r tested.answer) [] tested.is
    begun (inr (inl set)) = at (Tested r tests.No) (Set r set.answer ∷ []) set.is
    begun (inr (inr again)) = at (Tested r tests.No) (Set r sets.Done ∷ Tested r again.answer ∷ []) again.is

pub ends_after : (t turn : List Entry) (last : Entry) → EndsWith turn last → EndsWith (t ++ turn) last
ends_after t turn last ends = (t ++ ends.0, ap (λ (l : List Entry). t ++ l) ends.1 ∙ sym (append_assoc t ends.0 (last ∷ [])))

-- a trace that ends with an entry that is not final goes on
pub goes_on_after : (t turn : List Entry) (last : Entry) → EndsWith turn last → (IsFinal last → ⊥) → GoesOn (t ++ turn)
goes_on_after t turn last ends more e others final =
    let end = ends_after t turn last ends in
    more (subst IsFinal (sym (ends_with_push end.0 last e (others.0, sym end.1 ∙ others.1))) final)

wants_is_final : (e : Entry) → WantsMemory e → IsFinal e
wants_is_final (Tested place answer) wants = wants
wants_is_final (Set place answer) wants = subst (λ (a : SetAnswer). IsFinal (Set place a)) (sym wants) tt

pub stop_is_final : (stop : Stop) (last : Entry) (r : ℕ) → Shows last (Err stop) r → IsFinal last
stop_is_final (stops.RebootAsked place) last r shows = subst IsFinal (sym shows.1) tt
stop_is_final stops.Memory last r shows = wants_is_final last shows

pub stops_after : (t turn : List Entry) (last : Entry) (stop : Stop) (r : ℕ) → EndsWith turn last → Shows last (Err stop) r → IsStop (Err stop) (t ++ turn)
stops_after t turn last (stops.RebootAsked place) r ends shows =
    let same : last ≡ Set place sets.Reboot = shows.1 ∙ ap (λ (p : ℕ). Set p sets.Reboot) (sym shows.0) in
    subst (EndsWith (t ++ turn)) same (ends_after t turn last ends)
stops_after t turn last stops.Memory r ends shows = (last, ends_after t turn last ends, shows)
