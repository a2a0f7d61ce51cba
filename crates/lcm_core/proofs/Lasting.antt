-- Where no entry is a fault and what Sets make lasts, repairs comply, and few of them end with a reboot.
use Rattle.std.proofs.Common.{◌≡◌, inl, inr, ℕ, suc, ◌<◌, ◌≤◌, List, [], ◌∷◌, ◌++◌, length, refl, sym, ◌∙◌, ap, subst, arith}
use Rattle.std.specs.Prelude.{Contains}
use Rattle.std.specs.List.{AllByRecursion}
use Rattle.std.proofs.lemmas.Bool.Decides.{eqb_tells}
use Rattle.std.proofs.lemmas.List.{append_assoc}
use Rattle.std.proofs.lemmas.List.Elements.{All-head, All-tail}
use Rattle.std.proofs.lemmas.Map.Made.{Contains-tail}
use Rattle.dsc_terms.specs.Lists.{IsOnce}
use Rattle.dsc_terms.proofs.Splits.{contains_front}
use Rattle.dsc_document.specs.declared.document.Document.{Document}
use Rattle.depend_order.proofs.Orders.{once_count}
use Rattle.resource_kinds.specs.declared.entry.TestAnswer.TheVariants as tests
use Rattle.resource_kinds.specs.declared.entry.SetAnswer.TheVariants as sets
use Rattle.resource_kinds.specs.declared.entry.Entry.{Entry}
use Rattle.resource_kinds.specs.declared.entry.Entry.TheVariants.{Tested, Set}
use Rattle.lcm_core.specs.LastingRuns.{AnswersWell, IsFault, IsFaultless, IsRepairToReboot, Lasts, LastingRepairsComply, NeverNo, RebootsAreFew}
use Rattle.lcm_core.proofs.Compliance.{none_missed}
use Rattle.lcm_core.proofs.Rebooted.{comes_to_a_place}
use Rattle.lcm_core.proofs.WellAnswered.{well_answered_succeed}

-- ---- a repair that came to its last resource

no_fault : (front : List Entry) (e : Entry) (rest : List Entry) → IsFaultless (front ++ e ∷ rest) → IsFault e → ⊥
no_fault [] e rest faultless = All-head (λ (x : Entry). IsFault x → ⊥) e rest faultless
no_fault (f ∷ front) e rest faultless = no_fault front e rest (All-tail (λ (x : Entry). IsFault x → ⊥) f (front ++ e ∷ rest) faultless)

answers_well : (trace : List Entry) (r : ℕ) → IsFaultless trace → Lasts r (trace ∷ []) → AnswersWell trace r
answers_well trace r faultless lasts = record {
  faultless = λ front e rest is of. no_fault front e rest (subst IsFaultless is faultless);
  lasts = λ front rest is. (lasts.0 front sets.Done (Tested r tests.No ∷ rest) is).0 [] rest refl;
}

pub lasting_comply : LastingRepairsComply
lasting_comply document order trace run faultless lasts =
    none_missed document trace (λ r is_place. well_answered_succeed document order trace r run
    (λ q comes. answers_well trace q faultless (lasts q (comes_to_a_place document r q is_place comes))) is_place)

-- ---- repairs that ended with a reboot

-- the Test before a Set answered no
no_before_reboot : (document : Document) (trace : List Entry) (run : IsRepairToReboot document trace) → NeverNo run.place trace → ⊥
no_before_reboot document trace run never =
    let r = run.place in
    let (front, is) = run.ends in
    let (v, tested) = (run.legal front (Set r sets.Reboot) [] is).after_no in
    never v (Set r sets.Reboot ∷ [])
    (is ∙ ap (λ (l : List Entry). l ++ Set r sets.Reboot ∷ []) tested ∙ append_assoc v (Tested r tests.No ∷ []) (Set r sets.Reboot ∷ []))

once_nil : IsOnce []
once_nil [] r b is has = absurd (cc (is))
once_nil (x ∷ a) r b is has = absurd (cc (is))

once_cons : (x : ℕ) (xs : List ℕ) → IsOnce xs → (Contains xs x → ⊥) → IsOnce (x ∷ xs)
once_cons x xs once absent [] r b is has = omega (arith, has.1)
once_cons x xs once absent (a ∷ rest) r b is has =
    let head : x ≡ a = cc (is) in
    let tail : xs ≡ rest ++ r ∷ b = cc (is) in
    elim (eqb_tells a r) [
      | inl same ↦ absent (subst (λ (l : List ℕ). Contains l x) (sym tail) (subst (λ (y : ℕ). Contains (rest ++ r ∷ b) y) (sym (head ∙ same.1)) (contains_front r rest b)))
      | inr apart ↦ once rest r b tail (Contains-tail a rest r apart.1 has)
    ]

module _ (document : Document) where
  is_place : (trace : List Entry) (run : IsRepairToReboot document trace) → run.place < length document.resources
  is_place trace run = (run.legal run.ends.0 (Set run.place sets.Reboot) [] run.ends.1).is_place

  -- the resources for which a reboot was asked, in order
  abbrev places : (runs : List (List Entry)) → AllByRecursion (IsRepairToReboot document) runs → List ℕ
  places [] all = []
  places (t ∷ runs) all = all.0.place ∷ places runs all.1

  length-places : (runs : List (List Entry)) (all : AllByRecursion (IsRepairToReboot document) runs) → length (places runs all) ≡ length runs
  length-places [] all = refl
  length-places (t ∷ runs) all = ap suc (length-places runs all.1)

  -- one whose Tests never answer no is not among them
  absent : (r : ℕ) (runs : List (List Entry)) (all : AllByRecursion (IsRepairToReboot document) runs) → AllByRecursion (NeverNo r) runs → Contains (places runs all) r → ⊥
  absent r [] all never has = omega (arith, has.1)
  absent r (t ∷ runs) all never has = elim (eqb_tells all.0.place r) [
    | inl same ↦ no_before_reboot document t all.0 (subst (λ (p : ℕ). NeverNo p t) (sym same.1) never.0)
    | inr apart ↦ absent r runs all.1 never.1 (Contains-tail all.0.place (places runs all.1) r apart.1 has)
  ]

  once : (runs : List (List Entry)) (all : AllByRecursion (IsRepairToReboot document) runs) → ((r : ℕ) → r < length document.resources → Lasts r runs) → IsOnce (places runs all)
  once [] all lasts = once_nil
  once (t ∷ runs) all lasts =
      let run = all.0 in
      let later = ((lasts run.place (is_place t run)).0 run.ends.0 sets.Reboot [] run.ends.1).1 in
      once_cons run.place (places runs all.1) (once runs all.1 (λ r below. (lasts r below).1)) (absent run.place runs all.1 later)

  within : (runs : List (List Entry)) (all : AllByRecursion (IsRepairToReboot document) runs) (q : ℕ) → Contains (places runs all) q → q < length document.resources
  within [] all q has = absurd (omega (arith, has.1))
  within (t ∷ runs) all q has = elim (eqb_tells all.0.place q) [
    | inl same ↦ subst (λ (p : ℕ). p < length document.resources) same.1 (is_place t all.0)
    | inr apart ↦ within runs all.1 q (Contains-tail all.0.place (places runs all.1) q apart.1 has)
  ]

pub reboots_few : RebootsAreFew
reboots_few document runs all lasts =
    subst (λ (n : ℕ). n ≤ length document.resources) (length-places document runs all)
    (once_count (length document.resources) (places document runs all) (once document runs all lasts) (within document runs all))
