-- Why a resource that answers well, and whose dependencies do, ends with a Test that answered yes.
use Rattle.std.proofs.Common.{◌≡◌, ◌⊎◌, inl, inr, ℕ, zero, suc, ◌+◌, ◌<◌, true, List, [], ◌∷◌, ◌++◌, length, refl, sym, ◌∙◌, ap, subst, arith, length-append}
use Rattle.std.specs.Prelude.{Contains}
use Rattle.std.proofs.lemmas.List.{append_assoc}
use Rattle.dsc_terms.proofs.Splits.{contains_front, split_of}
use Rattle.dsc_document.specs.declared.document.Document.{Document}
use Rattle.dsc_document.specs.Dependencies.{IsDependency}
use Rattle.resource_kinds.specs.declared.entry.TestAnswer.TheVariants as tests
use Rattle.resource_kinds.specs.declared.entry.SetAnswer.TheVariants as sets
use Rattle.resource_kinds.specs.declared.entry.Entry.{Entry}
use Rattle.resource_kinds.specs.declared.entry.Entry.TheVariants.{Tested, Set}
use Rattle.resource_kinds.specs.Trace.{EndsWith, HasEntry, IsFinal, Succeeded, entry_is_yes, is_yes, place_of}
use Rattle.lcm_core.specs.declared.modes.RunMode.TheVariants.{Repair}
use Rattle.lcm_core.specs.LastingRuns.{AnswersWell, IsCompleteRepair, WellAnsweredSucceed}
use Rattle.lcm_core.specs.Legal.{IsFirstTest}
use Rattle.lcm_core.specs.RepairLaws.{ComesTo, itself, through}
use Rattle.lcm_core.specs.Whole.{IsReached}
use Rattle.lcm_core.proofs.RepairedEntries.{final_ends, last_is, last_of, set_has, test_has}

module _ (document : Document) (order : List ℕ) (trace : List Entry) (run : IsCompleteRepair document order trace) where
  reached : (r : ℕ) → IsReached order trace r
  reached r e ends final = absurd (run.finished e ends final)

  -- ---- one resource

  module _ (front rest : List Entry) where
    not_final : (e : Entry) → trace ≡ front ++ e ∷ rest → IsFinal e → ⊥
    not_final e is final = run.finished e (final_ends document Repair order trace front e rest run.legal is final) final

    no_again : (p : ℕ) → AnswersWell trace p → trace ≡ front ++ Tested p tests.No ∷ rest
        → (HasEntry rest p → ⊥) → IsFirstTest order front p ⊎ EndsWith front (Set p sets.Done) → ⊥
    no_again p well is last (inl first) =
        last (set_has rest p (run.whole.repaired front p rest refl (reached p) is first.once))
    no_again p well is last (inr ends) =
        well.lasts ends.0 rest
        (is ∙ ap (λ (l : List Entry). l ++ Tested p tests.No ∷ rest) ends.1 ∙ append_assoc ends.0 (Set p sets.Done ∷ []) (Tested p tests.No ∷ rest))

    -- its last entry
    answers_yes : (e : Entry) → AnswersWell trace (place_of e) → trace ≡ front ++ e ∷ rest → (HasEntry rest (place_of e) → ⊥) → entry_is_yes e ≡ true
    answers_yes (Tested p tests.Yes) well is last = refl
    answers_yes (Tested p tests.No) well is last =
        absurd (no_again p well is last (run.legal front (Tested p tests.No) rest is).in_turn)
    answers_yes (Tested p (tests.Fault failure)) well is last = absurd (well.faultless front (Tested p (tests.Fault failure)) rest is refl tt)
    answers_yes (Tested p tests.Memory) well is last = absurd (not_final (Tested p tests.Memory) is refl)
    answers_yes (Set p sets.Done) well is last =
        absurd (last (test_has rest p (run.whole.again front p rest (reached p) is)))
    answers_yes (Set p sets.Reboot) well is last = absurd (not_final (Set p sets.Reboot) is tt)
    answers_yes (Set p (sets.Fault failure)) well is last = absurd (well.faultless front (Set p (sets.Fault failure)) rest is refl tt)
    answers_yes (Set p sets.Memory) well is last = absurd (not_final (Set p sets.Memory) is tt)

  -- a resource whose dependencies succeeded
  one_succeeds : (r : ℕ) → Contains order r → AnswersWell trace r → ((q : ℕ) → IsDependency document r q → Succeeded trace q) → Succeeded trace r
  one_succeeds r listed well met =
      let has = run.whole.tested r listed (reached r) (λ same q depends. met q depends) in
      elim (last_of trace r) [
        | inl l ↦
            ap is_yes (last_is trace r l)
            ∙ answers_yes l.front l.rest l.entry (subst (AnswersWell trace) (sym l.of) well) l.is
            (λ later. l.last (subst (HasEntry l.rest) l.of later))
        | inr none ↦ absurd (none has)
      ]

  -- ---- along the order

  abbrev AllAnswerWell : ℕ → Type 0
  AllAnswerWell r = (q : ℕ) → ComesTo document r q → AnswersWell trace q

  below : (r q : ℕ) → IsDependency document r q → AllAnswerWell r → AllAnswerWell q
  below r q depends well s comes = well s (through r q s depends comes)

  -- what r depends on stands before it
  along : (n : ℕ) (front : List ℕ) (r : ℕ) (rest : List ℕ) → length front < n → order ≡ front ++ r ∷ rest → AllAnswerWell r → Succeeded trace r
  along zero front r rest lt is well = absurd (omega (arith, lt))
  along (suc n) front r rest lt is well =
      let listed = subst (λ (l : List ℕ). Contains l r) (sym is) (contains_front r front rest) in
      one_succeeds r listed (well r (itself r)) (λ s depends.
      let (lead, more, at) = split_of front s ((run.ordered.earliest front r rest is).ready.met s depends) in
      along n lead s (more ++ r ∷ rest) (omega (arith, lt, ap length at, length-append lead (s ∷ more)))
      (is ∙ ap (λ (l : List ℕ). l ++ r ∷ rest) at ∙ append_assoc lead (s ∷ more) (r ∷ rest)) (below r s depends well))

pub well_answered_succeed : WellAnsweredSucceed
well_answered_succeed document order trace r run well is_place =
    let (front, rest, is) = split_of order r (run.ordered.all r is_place) in
    along document order trace run (length front + 1) front r rest (omega arith) is well
