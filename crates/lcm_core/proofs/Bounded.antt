-- A legal trace has at most two Tests of a resource, and one Set.
use Rattle.std.proofs.Common.{◌≡◌, inl, inr, ℕ, zero, suc, ◌+◌, ◌<◌, ◌≤◌, Bool, false, cond, List, [], ◌∷◌, ◌++◌, length, map, take, drop, get_or, refl, sym, ◌∙◌, ap, subst, arith}
use Rattle.std.specs.Prelude.{count_by}
use Rattle.std.proofs.Math.Dec.{eqb}
use Rattle.std.proofs.lemmas.Bool.{eq-eqb}
use Rattle.std.proofs.lemmas.Bool.Decides.{eqb_tells}
use Rattle.std.proofs.lemmas.List.{take_all, take_more}
use Rattle.std.proofs.lemmas.List.Sums.{sum_by-append, sum_by-cons}
use Rattle.dsc_terms.proofs.Splits.{contains_cons, split_at}
use Rattle.dsc_document.specs.declared.document.Document.{Document}
use Rattle.resource_kinds.specs.declared.entry.SetAnswer.{SetAnswer}
use Rattle.resource_kinds.specs.declared.entry.SetAnswer.TheVariants as sets
use Rattle.resource_kinds.specs.declared.entry.TestAnswer.TheVariants as tests
use Rattle.resource_kinds.specs.declared.entry.Entry.{Entry}
use Rattle.resource_kinds.specs.declared.entry.Entry.TheVariants.{Tested, Set}
use Rattle.resource_kinds.specs.Trace.{EndsWith, HasEntry, place_of}
use Rattle.lcm_core.specs.declared.modes.RunMode.{RunMode}
use Rattle.lcm_core.specs.Bounds.{is_set_of, is_test_of, sets_of, tests_of}
use Rattle.lcm_core.specs.Legal.{Legal, MayFollow}
use Rattle.lcm_core.proofs.Traces.{ends_with_push}

-- ---- counting

pub count_push : (p : Entry → Bool) (t : List Entry) (e : Entry) → count_by p (t ++ e ∷ []) ≡ count_by p t + cond (p e) 1 0
count_push p t e = omega (arith, sum_by-append (λ x. cond (p x) 1 0) t (e ∷ []), sum_by-cons (λ x. cond (p x) 1 0) e [])

-- a resource without an entry is not counted
no_count : (p : Entry → Bool) (r : ℕ) → ((e : Entry) → eqb (place_of e) r ≡ false → p e ≡ false) → (t : List Entry) → (HasEntry t r → ⊥) → count_by p t ≡ 0
no_count p r other [] none = refl
no_count p r other (e ∷ t) none =
    let apart : eqb (place_of e) r ≡ false = elim (eqb_tells (place_of e) r) [
      | inl same ↦ absurd (none (0, omega arith, same.1))
      | inr not ↦ not.0
    ] in
    let rest = no_count p r other t (λ has. none (contains_cons (place_of e) (map place_of t) r has)) in
    omega (arith, sum_by-cons (λ x. cond (p x) 1 0) e t, ap {B = ℕ} (λ (b : Bool). cond b 1 0) (other e apart), rest)

no_test : (r : ℕ) (e : Entry) → eqb (place_of e) r ≡ false → is_test_of r e ≡ false
no_test r (Tested place answer) apart = apart
no_test r (Set place answer) apart = refl

no_set : (r : ℕ) (e : Entry) → eqb (place_of e) r ≡ false → is_set_of r e ≡ false
no_set r (Tested place answer) apart = refl
no_set r (Set place answer) apart = apart

-- one that was not set has no Set
never_set : (r : ℕ) (t : List Entry) → ((front : List Entry) (answer : SetAnswer) (rest : List Entry) → t ≡ front ++ Set r answer ∷ rest → ⊥) → sets_of t r ≡ 0
never_set r [] none = refl
never_set r (e ∷ t) none =
    let rest = never_set r t (λ front answer after p. none (e ∷ front) answer after (ap (λ (l : List Entry). e ∷ l) p)) in
    omega (arith, sum_by-cons (λ x. cond (is_set_of r x) 1 0) e t, ap {B = ℕ} (λ (b : Bool). cond b 1 0) (not_here e (λ answer is. none [] answer t (ap (λ (x : Entry). x ∷ t) is))), rest)
  where
    not_here : (e : Entry) → ((answer : SetAnswer) → e ≡ Set r answer → ⊥) → is_set_of r e ≡ false
    not_here (Tested place answer) none = refl
    not_here (Set place answer) none = elim (eqb_tells place r) [
      | inl same ↦ absurd (none answer (ap (λ (q : ℕ). Set q answer) same.1))
      | inr apart ↦ apart.0
    ]

-- ---- along a trace

record Counted (t : List Entry) (r : ℕ) : Type 0 where
  sets : sets_of t r ≤ 1
  tests : tests_of t r ≤ sets_of t r + 1
  follows : (answer : SetAnswer) → EndsWith t (Set r answer) → tests_of t r ≤ sets_of t r

module _ (document : Document) (mode : RunMode) (order : List ℕ) (t : List Entry) (r : ℕ) (so_far : Counted t r) where
  counted_push : (e : Entry) → MayFollow document mode order t e → Counted (t ++ e ∷ []) r
  counted_push (Tested place answer) may = elim (eqb_tells place r) [
    | inr apart ↦
        let tested = count_push (is_test_of r) t (Tested place answer) ∙ ap (λ (b : Bool). tests_of t r + cond b 1 0) apart.0 in
        let made = count_push (is_set_of r) t (Tested place answer) in
        record {
          sets = omega (arith, so_far.sets, made);
          tests = omega (arith, so_far.tests, tested, made);
          follows = λ other ends. absurd (is_no_set place answer other (ends_with_push t (Tested place answer) (Set r other) ends));
        }
    | inl same ↦
        let tested = count_push (is_test_of r) t (Tested place answer) ∙ ap (λ (b : Bool). tests_of t r + cond b 1 0) (eq-eqb place r same.1) in
        let made = count_push (is_set_of r) t (Tested place answer) in
        let capacity : tests_of t r ≤ sets_of t r = elim may.in_turn [
          | inl first ↦
              let none = subst (λ (q : ℕ). HasEntry t q → ⊥) same.1 first.once in
              omega (arith, no_count (is_test_of r) r (no_test r) t none)
          | inr again ↦ so_far.follows sets.Done (subst (λ (q : ℕ). EndsWith t (Set q sets.Done)) same.1 again)
        ] in
        record {
          sets = omega (arith, so_far.sets, made);
          tests = omega (arith, capacity, tested, made);
          follows = λ other ends. absurd (is_no_set place answer other (ends_with_push t (Tested place answer) (Set r other) ends));
        }
  ]
    where
      is_no_set : (place : ℕ) (answer : _) (other : SetAnswer) → Tested place answer ≡ Set r other → ⊥
      is_no_set place answer other p = absurd cc
  counted_push (Set place answer) may = elim (eqb_tells place r) [
    | inr apart ↦
        let tested = count_push (is_test_of r) t (Set place answer) in
        let made = count_push (is_set_of r) t (Set place answer) ∙ ap (λ (b : Bool). sets_of t r + cond b 1 0) apart.0 in
        record {
          sets = omega (arith, so_far.sets, made);
          tests = omega (arith, so_far.tests, tested, made);
          follows = λ other ends. absurd (apart.1 (ap place_of (ends_with_push t (Set place answer) (Set r other) ends)));
        }
    | inl same ↦
        let tested = count_push (is_test_of r) t (Set place answer) in
        let made = count_push (is_set_of r) t (Set place answer) ∙ ap (λ (b : Bool). sets_of t r + cond b 1 0) (eq-eqb place r same.1) in
        let none = never_set r t (subst (λ (q : ℕ). (front : List Entry) (answer : SetAnswer) (rest : List Entry) → t ≡ front ++ Set q answer ∷ rest → ⊥) same.1 may.once) in
        record {
          sets = omega (arith, made, none);
          tests = omega (arith, so_far.tests, tested, made, none);
          follows = λ other ends. omega (arith, so_far.tests, tested, made, none);
        }
  ]

counted_front : (document : Document) (mode : RunMode) (order : List ℕ) (t : List Entry) (r : ℕ) → Legal document mode order t → (d : Entry) (k : ℕ) → k ≤ length t → Counted (take k t) r
counted_front document mode order t r legal d zero within = record {
  sets = omega arith;
  tests = omega arith;
  follows = λ answer ends. absurd (nothing ends.0 (Set r answer) ends.1);
}
  where
    nothing : (front : List Entry) (e : Entry) → [] ≡ front ++ e ∷ [] → ⊥
    nothing [] e p = absurd cc
    nothing (x ∷ front) e p = absurd cc
counted_front document mode order t r legal d (suc k) within =
    let lt : k < length t = omega (arith, within) in
    let e = get_or t k d in
    let so_far = counted_front document mode order t r legal d k (omega (arith, within)) in
    let next : k + 1 ≡ suc k = omega arith in
    let may = legal (take k t) e (drop (k + 1) t) (split_at t k d lt) in
    subst (λ (l : List Entry). Counted l r) (sym (take_more t k d lt) ∙ ap (λ (n : ℕ). take n t) next) (counted_push document mode order (take k t) r so_far e may)

pub at_most : (document : Document) (mode : RunMode) (order : List ℕ) (t : List Entry) (r : ℕ) → Legal document mode order t → (tests_of t r ≤ 2) × (sets_of t r ≤ 1)
at_most document mode order t r legal =
    let all = subst (λ (l : List Entry). Counted l r) (take_all (length t) t (omega arith)) (counted_front document mode order t r legal (Tested r tests.No) (length t) (omega arith)) in
    (omega (arith, all.tests, all.sets), all.sets)
