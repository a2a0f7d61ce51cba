-- How a trace grows by one entry.
use Rattle.std.proofs.Common.{Option, Some, None, ◌≡◌, inl, inr, ℕ, ◌+◌, ◌<◌, List, [], ◌∷◌, ◌++◌, length, take, drop, get_or, map, refl, sym, ◌∙◌, ap, subst, arith, length-append, All}
use Rattle.std.specs.Prelude.{Contains}
use Rattle.std.proofs.lemmas.List.{take_more, map_push}
use Rattle.std.proofs.lemmas.List.Elements.{Contains-append_left}
use Rattle.std.proofs.lemmas.List.Sums.{sum_by-append}
use Rattle.dsc_terms.specs.Lists.{IsOnce}
use Rattle.dsc_document.specs.declared.document.Document.{Document}
use Rattle.lcm_core.specs.declared.modes.RunMode.{RunMode}
use Rattle.lcm_core.specs.declared.modes.RunMode.TheVariants.{Monitor}
use Rattle.resource_kinds.specs.declared.entry.Entry.{Entry}
use Rattle.resource_kinds.specs.declared.entry.Entry.TheVariants.{Tested, Set}
use Rattle.resource_kinds.specs.declared.entry.TestAnswer.{TestAnswer}
use Rattle.resource_kinds.specs.declared.entry.TestAnswer.TheVariants as tests
use Rattle.resource_kinds.specs.Trace.{place_of, entry_failures, host_failures, EndsWith}
use Rattle.lcm_core.specs.Legal.{Legal, MayTest, MayFollow, GoesOn}
use Rattle.dsc_outside.specs.Host.{HostState}
use Rattle.resource_kinds.specs.True.{True, TellsTrue}
use Rattle.lcm_core.specs.Whole.{Whole}
use Rattle.dsc_terms.proofs.Splits.{split_push, split_at, contains_front, precedes, precedes_front}

pub legal_push : (document : Document) (mode : RunMode) (order : List ℕ) (t : List Entry) (e : Entry) → Legal document mode order t → MayFollow document mode order t e
    → Legal document mode order (t ++ e ∷ [])
legal_push document mode order t e legal may before x after p =
    elim (split_push t e before x after p) [
      | inl same ↦ subst (λ y. MayFollow document mode order before y) same.1 (subst (λ b. MayFollow document mode order b e) same.0 may)
      | inr more ↦ legal before x more.0 more.1
    ]

-- the places of a legal trace are places of the document
pub legal_places : (document : Document) (mode : RunMode) (order : List ℕ) (t : List Entry) → Legal document mode order t → All (λ e. place_of e < length document.resources) t
legal_places document mode order t legal k d lt = at (get_or t k d) (legal (take k t) (get_or t k d) (drop (k + 1) t) (split_at t k d lt))
  where
    at : (e : Entry) → MayFollow document mode order (take k t) e → place_of e < length document.resources
    at (Tested r answer) may = may.is_place
    at (Set r answer) may = may.is_place

-- a legal trace of a run that only monitors has no Set
pub monitor_sets_nothing : (document : Document) (order : List ℕ) (t before : List Entry) (r : ℕ) (answer : _) (after : List Entry) → Legal document Monitor order t → t ≡ before ++ Set r answer ∷ after → ⊥
monitor_sets_nothing document order t before r answer after legal e =
    let may = legal before (Set r answer) after e in
    let same = may.repairs in
    cc

-- the last entry of a list is the one that was put there
pub ends_with_push : (t : List Entry) (e x : Entry) → EndsWith (t ++ e ∷ []) x → e ≡ x
ends_with_push t e x ends = elim (split_push t e ends.0 x [] ends.1) [
  | inl same ↦ same.1
  | inr more ↦ absurd (omega (arith, ap length ends.1, ap length more.1, length-append t (e ∷ []), length-append ends.0 (x ∷ []), length-append ends.0 (x ∷ more.0)))
]

pub host_failures_push : (t : List Entry) (e : Entry) → host_failures (t ++ e ∷ []) ≡ host_failures t + entry_failures e
host_failures_push t e = omega (arith, sum_by-append entry_failures t (e ∷ []))

module _ (document : Document) (order : List ℕ) (t : List Entry) (i : ℕ) (lt : i < length order) (places : map place_of t ≡ take i order) where
  -- the next place of the order may be tested
  pub may_test : get_or order i 0 < length document.resources → IsOnce order → GoesOn t → MayTest document Monitor order t (get_or order i 0)
  may_test below once goes_on = record {
    is_place = below;
    in_turn = inl (record {
      listed = subst (λ (l : List ℕ). Contains l (get_or order i 0)) (sym (split_at order i 0 lt)) (contains_front (get_or order i 0) (take i order) (drop (i + 1) order));
      once = λ has. once (take i order) (get_or order i 0) (drop (i + 1) order) (split_at order i 0 lt) (subst (λ (l : List ℕ). Contains l (get_or order i 0)) places has);
      in_order = λ q has. precedes order i q lt (subst (λ (l : List ℕ). Contains l q) places has);
    });
    ready = λ same q depends. absurd cc;
    goes_on = goes_on;
  }

  pub places_push : (answer : TestAnswer) → map place_of (t ++ Tested (get_or order i 0) answer ∷ []) ≡ take (i + 1) order
  places_push answer = map_push place_of t (Tested (get_or order i 0) answer) ∙ ap (λ (l : List ℕ). l ++ get_or order i 0 ∷ []) places ∙ sym (take_more order i 0 lt)

-- a legal trace that tested all of the order is whole
pub whole_at_end : (document : Document) (order : List ℕ) (t : List Entry) → Legal document Monitor order t → map place_of t ≡ order → Whole document Monitor order t
whole_at_end document order t legal places = record {
  tested = λ r has reached ready. subst (λ (l : List ℕ). Contains l r) (sym places) has;
  again = λ before r after reached e. absurd (monitor_sets_nothing document order t before r _ after legal e);
  repaired = λ before r after same reached e first. absurd cc;
}

-- so is one that memory ended
pub whole_at_memory : (document : Document) (order : List ℕ) (t : List Entry) (i : ℕ) → i < length order → IsOnce order
    → let r = get_or order i 0 in let all = t ++ Tested r tests.Memory ∷ [] in map place_of t ≡ take i order → Legal document Monitor order all → Whole document Monitor order all
whole_at_memory document order t i lt once places legal =
    let r = get_or order i 0 in
    let e = Tested r tests.Memory in
    let all = t ++ e ∷ [] in
    record {
      tested = λ q has reached ready.
          let before = precedes_front order i q lt once (reached e (t, refl) refl) in
          subst (λ (l : List ℕ). Contains l q) (sym (map_push place_of t e)) (Contains-append_left (map place_of t) (r ∷ []) q (subst (λ (l : List ℕ). Contains l q) (sym places) before));
      again = λ before q after reached e. absurd (monitor_sets_nothing document order all before q _ after legal e);
      repaired = λ before q after same reached e first. absurd cc;
    }

-- the trace has no Set
abbrev SetsNothing : List Entry → Type 0
SetsNothing t = (before : List Entry) (r : ℕ) (answer : _) (after : List Entry) → t ≡ before ++ Set r answer ∷ after → ⊥

-- true answers of tests leave the host as it was
true_keeps : (document : Document) (t : List Entry) (a b : HostState) → SetsNothing t → True document a t b → b ≡ a
true_keeps document [] a b none chain = sym chain
true_keeps document (Tested place answer ∷ t) a b none chain =
    let rest : SetsNothing t = λ before r given after e. none (Tested place answer ∷ before) r given after (ap (λ (l : List Entry). Tested place answer ∷ l) e) in
    true_keeps document t chain.0 b rest chain.2 ∙ chain.1.0
true_keeps document (Set place answer ∷ t) a b none chain = absurd (none [] place answer t refl)

tells_keeps : (document : Document) (t : List Entry) (a b : Option HostState) → SetsNothing t → TellsTrue document a t b → b ≡ a
tells_keeps document t None b none tells = tells.0
tells_keeps document t (Some s) b none tells = tells.1 ∙ ap (λ (x : HostState). Some x) (true_keeps document t s tells.0 none tells.2)

-- so a run that only monitors leaves it so
pub monitor_keeps : (document : Document) (order : List ℕ) (t : List Entry) (a b : Option HostState) → Legal document Monitor order t → TellsTrue document a t b → b ≡ a
monitor_keeps document order t a b legal = tells_keeps document t a b (λ before r answer after e. monitor_sets_nothing document order t before r answer after legal e)
