-- Where each resource succeeded, no Set broke off, and all hold together.
use Rattle.std.proofs.Common.{◌≡◌, inl, inr, ℕ, zero, suc, ◌+◌, ◌-◌, ◌<◌, ◌≤◌, Bool, true, false, cond, List, [], ◌∷◌, ◌++◌, length, take, drop, get_or, slice_get, Option, Some, None, Result, Ok, Err, option_and_then, refl, sym, ◌∙◌, ap, subst, arith, All}
use Rattle.std.specs.Prelude.{count_by}
use Rattle.std.specs.Option.{IsSomeAnd}
use Rattle.std.specs.Result.{result_ok}
use Rattle.std.proofs.lemmas.Bool.{cases_Bool, false≢true}
use Rattle.std.proofs.lemmas.List.{append_assoc}
use Rattle.std.proofs.lemmas.List.Sums.{count_by-le-length, sum_by-append, sum_by-cons}
use Rattle.dsc_terms.specs.Lists.{places_below}
use Rattle.dsc_terms.proofs.Places.{length-places_below}
use Rattle.dsc_terms.proofs.Splits.{split_at, split_push}
use Rattle.dsc_outside.specs.Host.{HostState}
use Rattle.dsc_document.specs.declared.document.Document.{Document}
use Rattle.dsc_document.specs.declared.document.Resource.{Resource}
use Rattle.resource_kinds.specs.declared.entry.Failure.{Failure}
use Rattle.resource_kinds.specs.declared.entry.TestAnswer.TheVariants as tests
use Rattle.resource_kinds.specs.declared.entry.SetAnswer.{SetAnswer}
use Rattle.resource_kinds.specs.declared.entry.SetAnswer.TheVariants as sets
use Rattle.resource_kinds.specs.declared.entry.Entry.{Entry}
use Rattle.resource_kinds.specs.declared.entry.Entry.TheVariants.{Tested, Set}
use Rattle.resource_kinds.specs.declared.wanted.Wanted.{Wanted}
use Rattle.resource_kinds.specs.Apart.{wanted_at}
use Rattle.resource_kinds.specs.Holds.{Holds}
use Rattle.resource_kinds.specs.Laws.{IsWhole, KeepsWhole, MayBreakOff, SucceededHold}
use Rattle.resource_kinds.specs.Trace.{Compliant, HasEntry, Succeeded, has_succeeded, is_yes, place_of}
use Rattle.resource_kinds.specs.True.{AnswersTrue, True}
use Rattle.resource_kinds.specs.Wanted.{wanted_of}
use Rattle.resource_kinds.proofs.Marks.{get_or-places}
use Rattle.lcm_core.specs.declared.modes.RunMode.{RunMode}
use Rattle.lcm_core.specs.Legal.{Legal}
use Rattle.lcm_core.specs.RunLaws.{CompliantHold}
use Rattle.lcm_core.proofs.OneTurn.{has_split}
use Rattle.lcm_core.proofs.Repaired.{true_split}
use Rattle.lcm_core.proofs.RepairedEntries.{IsLastOf, last_is, last_of, last_over}
use Rattle.lcm_core.proofs.Successes.{yes_is}

-- ---- each resource succeeded

-- a test that counts all of a list holds of each of it
count_all : (p : ℕ → Bool) (xs : List ℕ) → length xs ≤ count_by p xs → (k d : ℕ) → k < length xs → p (get_or xs k d) ≡ true
count_all p [] all k d lt = absurd (omega (arith, lt))
count_all p (x ∷ xs) all zero d lt = elim (cases_Bool (p x)) [
  | inl passes ↦ passes
  | inr fails ↦ absurd (omega (arith, all, sum_by-cons (λ (y : ℕ). cond (p y) 1 0) x xs, ap {B = ℕ} (λ (b : Bool). cond b 1 0) fails, count_by-le-length p xs))
]
count_all p (x ∷ xs) all (suc k) d lt =
    let total = sum_by-cons (λ (y : ℕ). cond (p y) 1 0) x xs in
    let rest : length xs ≤ count_by p xs = elim (cases_Bool (p x)) [
      | inl passes ↦ omega (arith, all, total, ap {B = ℕ} (λ (b : Bool). cond b 1 0) passes)
      | inr fails ↦ omega (arith, all, total, ap {B = ℕ} (λ (b : Bool). cond b 1 0) fails)
    ] in
    count_all p xs rest k d (omega (arith, lt))

pub each_succeeded : (document : Document) (trace : List Entry) → Compliant document trace → (r : ℕ) → r < length document.resources → has_succeeded trace r ≡ true
each_succeeded document trace compliant r lt =
    let n = length document.resources in
    let none : n - count_by (has_succeeded trace) (places_below n) ≡ 0 = compliant in
    ap (has_succeeded trace) (sym (get_or-places n r 0 lt))
    ∙ count_all (has_succeeded trace) (places_below n) (omega (arith, none, length-places_below n)) r 0 (omega (arith, lt, length-places_below n))

abbrev one_if : Bool → ℕ
one_if b = cond b 1 0

abbrev one_if_succeeded : List Entry → ℕ → ℕ
one_if_succeeded trace r = one_if (has_succeeded trace r)

all_counted : (trace : List Entry) (n : ℕ) → ((r : ℕ) → r < n → Succeeded trace r) → count_by (has_succeeded trace) (places_below n) ≡ n
all_counted trace zero all = refl
all_counted trace (suc n) all =
    let here : has_succeeded trace n ≡ true = all n (omega arith) in
    let before = all_counted trace n (λ r lt. all r (omega (arith, lt))) in
    omega (arith, sum_by-append (one_if_succeeded trace) (places_below n) (n ∷ []), sum_by-cons (one_if_succeeded trace) n [], before, ap one_if here)

-- where each succeeded, none is missed
pub none_missed : (document : Document) (trace : List Entry) → ((r : ℕ) → r < length document.resources → Succeeded trace r) → Compliant document trace
none_missed document trace all = omega (arith, all_counted trace (length document.resources) all)

-- ---- no Set broke off

module _ (document : Document) (mode : RunMode) (order : List ℕ) (trace : List Entry) (legal : Legal document mode order trace) where
  -- nothing of its resource follows a Set that broke off
  none_after : (front : List Entry) (p : ℕ) (answer : SetAnswer) (between : List Entry) (e : Entry) (rest : List Entry) → MayBreakOff answer → place_of e ≡ p
      → trace ≡ (front ++ Set p answer ∷ between) ++ e ∷ rest → ⊥
  none_after front p answer between (Set q other) rest broke same is =
      (legal (front ++ Set p answer ∷ between) (Set q other) rest is).once front answer between (ap (λ (x : ℕ). front ++ Set x answer ∷ between) (sym same))
  none_after front p answer between (Tested q other) rest broke same is = elim (legal (front ++ Set p answer ∷ between) (Tested q other) rest is).in_turn [
    | inl first ↦
        let before = front ++ Set p answer ∷ between in
        first.once (subst (HasEntry before) (sym same) (has_split before front (Set p answer) between refl))
    | inr ends ↦ elim (split_push ends.0 (Set q sets.Done) front (Set p answer) between (sym ends.1)) [
      | inl both ↦ done_is_whole both.1
      | inr more ↦
          (legal ends.0 (Set q sets.Done) (Tested q other ∷ rest)
          (is ∙ ap (λ (l : List Entry). l ++ Tested q other ∷ rest) ends.1 ∙ append_assoc ends.0 (Set q sets.Done ∷ []) (Tested q other ∷ rest))).once
          front answer more.0 (more.1 ∙ ap (λ (x : ℕ). front ++ Set x answer ∷ more.0) (sym same))
    ]
  ]
    where
      done_is_whole : Set q sets.Done ≡ Set p answer → ⊥
      done_is_whole equal =
          let done : sets.Done ≡ answer = cc in
          subst MayBreakOff (sym done) broke

  broken_is_last : (front : List Entry) (p : ℕ) (answer : SetAnswer) (rest : List Entry) → MayBreakOff answer → trace ≡ front ++ Set p answer ∷ rest → HasEntry rest p → ⊥
  broken_is_last front p answer rest broke is has = elim (last_of rest p) [
    | inl l ↦
        none_after front p answer l.front l.entry l.rest broke l.of
        (is ∙ ap (λ (u : List Entry). front ++ Set p answer ∷ u) l.is ∙ sym (append_assoc front (Set p answer ∷ l.front) (l.entry ∷ l.rest)))
    | inr none ↦ none has
  ]

  module _ (compliant : Compliant document trace) where
    whole_at : (front : List Entry) (e : Entry) (rest : List Entry) → trace ≡ front ++ e ∷ rest → IsWhole document e
    whole_at front (Tested p answer) rest is = tt
    whole_at front (Set p answer) rest is = λ broke set asks folder.
        let last : IsLastOf trace p = record { front = front; entry = Set p answer; rest = rest; is = is; of = refl; last = broken_is_last front p answer rest broke is } in
        let failed : has_succeeded trace p ≡ false = ap is_yes (last_is trace p last) in
        false≢true (sym failed ∙ each_succeeded document trace compliant p (legal front (Set p answer) rest is).is_place)

    pub all_whole : All (IsWhole document) trace
    all_whole k d lt = whole_at (take k trace) (get_or trace k d) (drop (k + 1) trace) (split_at trace k d lt)

-- ---- all hold

-- a resource that is answered yes has no fault of its own
yes_asks : (a : HostState) (asks : Result Wanted Failure) → AnswersTrue a asks tests.Yes → (wanted : Wanted) × (result_ok asks ≡ Some wanted)
yes_asks a (Ok wanted) shown = (wanted, refl)
yes_asks a (Err failure) (inl fault) = absurd (cc (fault))
yes_asks a (Err failure) (inr (names, memory)) = absurd (cc (memory))

yes_known : (a : HostState) (resource : Option Resource) → IsSomeAnd resource (λ x. AnswersTrue a (wanted_of x) tests.Yes)
    → (wanted : Wanted) × (option_and_then (λ r. result_ok (wanted_of r)) resource ≡ Some wanted)
yes_known a None shown = absurd shown
yes_known a (Some resource) shown = yes_asks a (wanted_of resource) shown

module _ (document : Document) (before after : HostState) (trace : List Entry) (is_true : True document before trace after) where
  known_at : (front : List Entry) (p : ℕ) (rest : List Entry) → trace ≡ front ++ Tested p tests.Yes ∷ rest → (wanted : Wanted) × (wanted_at document p ≡ Some wanted)
  known_at front p rest is =
      let step = true_split document before after front (Tested p tests.Yes) rest (subst (λ (t : List Entry). True document before t after) is is_true) in
      yes_known step.0 (slice_get document.resources p) step.2.1

  pub known_if_succeeded : (r : ℕ) → has_succeeded trace r ≡ true → (wanted : Wanted) × (wanted_at document r ≡ Some wanted)
  known_if_succeeded r passes = elim (last_of trace r) [
    | inl l ↦
        let yes = sym (ap is_yes (last_is trace r l)) ∙ passes in
        let known = known_at l.front (place_of l.entry) l.rest (l.is ∙ ap (λ (e : Entry). l.front ++ e ∷ l.rest) (yes_is l.entry yes)) in
        (known.0, ap (wanted_at document) (sym l.of) ∙ known.1)
    | inr none ↦ absurd (false≢true (sym (ap is_yes (last_over [] trace r none)) ∙ passes))
  ]

pub compliant_hold : SucceededHold → CompliantHold
compliant_hold hold document mode order before after trace legal is_true apart compliant r lt =
    let passes = each_succeeded document trace compliant r lt in
    let known = known_if_succeeded document before after trace is_true r passes in
    let keeps : KeepsWhole document before trace after = record { apart = apart; is_true = is_true; whole = all_whole document mode order trace legal compliant } in
    subst (λ (asked : Option Wanted). IsSomeAnd asked (Holds after)) (sym known.1) (hold document before after trace r known.0 keeps known.1 passes)
