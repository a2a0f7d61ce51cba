-- Repairs that nothing is in the way of: one that ends with a reboot makes a resource hold and keeps those that do, and one that comes to its
-- last resource leaves none out.
use Rattle.std.proofs.Common.{◌≡◌, ℕ, ◌+◌, ◌<◌, List, [], ◌∷◌, ◌++◌, length, take, drop, get_or, slice_get, Option, Some, None, refl, sym, ◌∙◌, ap, subst, arith, All}
use Rattle.std.specs.Prelude.{IsSomeAnd}
use Rattle.std.proofs.lemmas.List.{append_assoc, length-append}
use Rattle.std.proofs.lemmas.List.Sums.{sum_by-append, sum_by-cons}
use Rattle.std.proofs.lemmas.Option.{slice_get_within}
use Rattle.dsc_terms.proofs.Splits.{split_at}
use Rattle.dsc_outside.specs.Host.{HostState}
use Rattle.dsc_document.specs.declared.document.Document.{Document}
use Rattle.dsc_document.specs.declared.document.Resource.{Resource}
use Rattle.dsc_document.specs.Dependencies.{Means}
use Rattle.depend_order.specs.Documents.{IsOrderOfDocument}
use Rattle.resource_kinds.specs.declared.entry.Failure.{Failure}
use Rattle.resource_kinds.specs.declared.entry.Failure.TheVariants as faults
use Rattle.resource_kinds.specs.declared.entry.TestAnswer.TheVariants as tests
use Rattle.resource_kinds.specs.declared.entry.SetAnswer.{SetAnswer}
use Rattle.resource_kinds.specs.declared.entry.SetAnswer.TheVariants as sets
use Rattle.resource_kinds.specs.declared.entry.Entry.{Entry}
use Rattle.resource_kinds.specs.declared.entry.Entry.TheVariants.{Tested, Set}
use Rattle.resource_kinds.specs.declared.wanted.Wanted.{Wanted}
use Rattle.resource_kinds.specs.Apart.{wanted_at}
use Rattle.resource_kinds.specs.Documents.{Clear}
use Rattle.resource_kinds.specs.Holding.{UnheldFalls}
use Rattle.resource_kinds.specs.Holds.{Holds}
use Rattle.resource_kinds.specs.Laws.{ClearStays, IsSetIn, IsUnbroken, IsWhole, KeepsWhole, SetMakesHold, SettledHold, UnsetHold, settles}
use Rattle.resource_kinds.specs.Trace.{Compliant, EndsInMemory, EndsInReboot, IsFinal, WantsMemory, entry_failures, host_failures, last_entry}
use Rattle.resource_kinds.specs.True.{IsTrueEntry, True}
use Rattle.resource_kinds.proofs.Marks.{last_here}
use Rattle.lcm_core.specs.declared.modes.RunMode.TheVariants.{Repair}
use Rattle.lcm_core.specs.Legal.{GoesOn, IsFirstTest}
use Rattle.lcm_core.specs.RebootLaws.{ClearRepairsComply, ComesNearer, IsClearRepair, NothingIsInTheWay, RebootsComeNearer}
use Rattle.lcm_core.specs.RepairLaws.{BlamesNothing, ComesTo, EntryBlames, itself, through}
use Rattle.lcm_core.specs.Whole.{Whole}
use Rattle.lcm_core.proofs.Compliance.{none_missed}
use Rattle.lcm_core.proofs.OneTurn.{has_split}
use Rattle.lcm_core.proofs.Repaired.{answer_known, repair_succeeds, set_known}
use Rattle.lcm_core.proofs.RepairedEntries.{final_ends, may_goes_on, set_split}
use Rattle.lcm_core.proofs.Traces.{ends_with_push}

-- ---- the states along a trace

-- the states before and after an entry, with what leads to the first and from the second
pub true_parts : (document : Document) (a b : HostState) (front : List Entry) (e : Entry) (rest : List Entry) → True document a (front ++ e ∷ rest) b
    → (x y : HostState) × True document a front x × IsTrueEntry x document e y × True document y rest b
true_parts document a b [] e rest chain = (a, chain.0, refl, chain.1, chain.2)
true_parts document a b (f ∷ front) e rest chain =
    let (x, y, before, step, after) = true_parts document chain.0 b front e rest chain.2 in
    (x, y, (chain.0, chain.1, before), step, after)

-- ---- entries that blame nothing

pub failures_at : (front : List Entry) (e : Entry) (rest : List Entry) → host_failures (front ++ e ∷ rest) ≡ 0 → entry_failures e ≡ 0
failures_at front e rest none = omega (arith, none, sum_by-append entry_failures front (e ∷ rest), sum_by-cons entry_failures e rest)

pub is_one : (p : ℕ) (failure : Failure) → failure ≡ faults.HostFailed → entry_failures (Set p (sets.Fault failure)) ≡ 1
is_one p failure is = ap (λ (f : Failure). entry_failures (Set p (sets.Fault f))) is

pub tested_one : (p : ℕ) (failure : Failure) → failure ≡ faults.HostFailed → entry_failures (Tested p (tests.Fault failure)) ≡ 1
tested_one p failure is = ap (λ (f : Failure). entry_failures (Tested p (tests.Fault f))) is

-- a Set breaks off where the host failed, or memory ran out
pub unbroken_entry : (e : Entry) → entry_failures e ≡ 0 → (WantsMemory e → ⊥) → IsUnbroken e
unbroken_entry (Tested p answer) none fed = tt
unbroken_entry (Set p sets.Done) none fed = λ broke. broke
unbroken_entry (Set p sets.Reboot) none fed = λ broke. broke
unbroken_entry (Set p (sets.Fault failure)) none fed = λ broke. omega (arith, none, is_one p failure broke)
unbroken_entry (Set p sets.Memory) none fed = λ broke. fed refl

pub wants_final : (e : Entry) → WantsMemory e → IsFinal e
wants_final (Tested p answer) wants = wants
wants_final (Set p sets.Done) wants = absurd (cc (wants))
wants_final (Set p sets.Reboot) wants = tt
wants_final (Set p (sets.Fault failure)) wants = absurd (cc (wants))
wants_final (Set p sets.Memory) wants = tt

pub whole_entry : (document : Document) (e : Entry) → IsUnbroken e → IsWhole document e
whole_entry document (Tested p answer) unbroken = tt
whole_entry document (Set p answer) unbroken = λ broke. absurd (unbroken broke)

-- ---- dependencies

-- what is depended on is a resource of the document
meant : (P : Resource → Type 0) (resources : List Resource) (q : ℕ) (found : Option Resource) → slice_get resources q ≡ found → IsSomeAnd found P → q < length resources
meant P resources q None is means = absurd means
meant P resources q (Some resource) is means = slice_get_within resources q resource is

named : (resources : List Resource) (q : ℕ) (name : Option (List ℕ)) → IsSomeAnd name (λ n. Means resources n q) → q < length resources
named resources q None names = absurd names
named resources q (Some name) names = meant _ resources q (slice_get resources q) refl names

listed : (resources : List Resource) (k q : ℕ) (resource : Option Resource)
    → IsSomeAnd resource (λ x. IsSomeAnd (slice_get x.depends k) (λ n. Means resources n q)) → q < length resources
listed resources k q None names = absurd names
listed resources k q (Some resource) names = named resources q (slice_get resource.depends k) names

pub comes_to_a_place : (document : Document) (r s : ℕ) → r < length document.resources → ComesTo document r s → s < length document.resources
comes_to_a_place document r s lt (itself q) = lt
comes_to_a_place document r s lt (through p q t depends comes) =
    comes_to_a_place document q t (listed document.resources depends.0 q (slice_get document.resources p) depends.1) comes

-- ---- one repair

module _ (document : Document) (order : List ℕ) (before after : HostState) (trace : List Entry) (run : IsClearRepair document order before trace after) where
  unfailed_at : (front : List Entry) (e : Entry) (rest : List Entry) → trace ≡ front ++ e ∷ rest → entry_failures e ≡ 0
  unfailed_at front e rest is = failures_at front e rest (ap host_failures (sym is) ∙ run.unfailed)

  states_at : (front : List Entry) (e : Entry) (rest : List Entry) → trace ≡ front ++ e ∷ rest
      → (x y : HostState) × True document before front x × IsTrueEntry x document e y × True document y rest after
  states_at front e rest is = true_parts document before after front e rest (subst (λ (t : List Entry). True document before t after) is run.is_true)

  -- nothing follows a final entry
  not_last : (front : List Entry) (e : Entry) (more : List Entry) → trace ≡ front ++ e ∷ more → 0 < length more → IsFinal e → ⊥
  not_last front e [] is some final = absurd (omega (arith, some))
  not_last front e (x ∷ more) is some final =
      let may = run.legal (front ++ e ∷ []) x more (is ∙ sym (append_assoc front (e ∷ []) (x ∷ more))) in
      may_goes_on document Repair order (front ++ e ∷ []) x may e (front, refl) final

  unbroken_front : (front : List Entry) (e : Entry) (rest : List Entry) → trace ≡ front ++ e ∷ rest → All IsUnbroken front
  unbroken_front front e rest is k d lt =
      let f = get_or front k d in
      let more = drop (k + 1) front in
      let split : trace ≡ take k front ++ f ∷ (more ++ e ∷ rest) =
      is ∙ ap (λ (l : List Entry). l ++ e ∷ rest) (split_at front k d lt) ∙ append_assoc (take k front) (f ∷ more) (e ∷ rest) in
      let some : 0 < length (more ++ e ∷ rest) = omega (arith, length-append more (e ∷ rest)) in
      unbroken_entry f (unfailed_at (take k front) f (more ++ e ∷ rest) split) (λ wants. not_last (take k front) f (more ++ e ∷ rest) split some (wants_final f wants))

  -- the host is clear at each entry
  clear_at : (front : List Entry) (e : Entry) (rest : List Entry) → trace ≡ front ++ e ∷ rest → ClearStays → (x : HostState) → True document before front x → Clear x document
  clear_at front e rest is stays x leads = stays document before x front run.apart leads (unbroken_front front e rest is) run.clear

  -- ---- nothing is in the way

  blames : ClearStays → (front : List Entry) (e : Entry) (rest : List Entry) → trace ≡ front ++ e ∷ rest → EntryBlames e → ⊥
  blames stays front (Tested p tests.Yes) rest is blamed = blamed
  blames stays front (Tested p tests.No) rest is blamed = blamed
  blames stays front (Tested p (tests.Fault failure)) rest is blamed =
      let (x, y, leads, step, more) = states_at front (Tested p (tests.Fault failure)) rest is in
      let known = run.known p (run.legal front (Tested p (tests.Fault failure)) rest is).is_place in
      let failed = answer_known document x y p known.0 (tests.Fault failure) known.1 step in
      omega (arith, tested_one p failure failed, unfailed_at front (Tested p (tests.Fault failure)) rest is)
  blames stays front (Tested p tests.Memory) rest is blamed = blamed
  blames stays front (Set p sets.Done) rest is blamed = blamed
  blames stays front (Set p sets.Reboot) rest is blamed = blamed
  blames stays front (Set p (sets.Fault faults.NoSuchResource)) rest is blamed = blamed
  blames stays front (Set p (sets.Fault (faults.OutOfProfile name))) rest is blamed = blamed
  blames stays front (Set p (sets.Fault faults.BadPath)) rest is blamed = blamed
  blames stays front (Set p (sets.Fault faults.InTheWay)) rest is blamed =
      let e = Set p (sets.Fault faults.InTheWay) in
      let (x, y, leads, step, more) = states_at front e rest is in
      let known = run.known p (run.legal front e rest is).is_place in
      let found = set_known document x y p known.0 (sets.Fault faults.InTheWay) known.1 step in
      clear_at front e rest is stays x leads p known.0 known.1 found.1.0
  blames stays front (Set p (sets.Fault faults.HostFailed)) rest is blamed =
      omega (arith, is_one p faults.HostFailed refl, unfailed_at front (Set p (sets.Fault faults.HostFailed)) rest is)
  blames stays front (Set p sets.Memory) rest is blamed = blamed

  nothing_blamed : ClearStays → BlamesNothing trace
  nothing_blamed stays k d lt = blames stays (take k trace) (get_or trace k d) (drop (k + 1) trace) (split_at trace k d lt)

  -- ---- where memory did not run out

  module _ (fed : EndsInMemory trace → ⊥) where
    unbroken_at : (front : List Entry) (e : Entry) (rest : List Entry) → trace ≡ front ++ e ∷ rest → IsUnbroken e
    unbroken_at front e rest is = unbroken_entry e (unfailed_at front e rest is)
        (λ wants. fed (e, final_ends document Repair order trace front e rest run.legal is (wants_final e wants), wants))

    all_unbroken : All IsUnbroken trace
    all_unbroken k d lt = unbroken_at (take k trace) (get_or trace k d) (drop (k + 1) trace) (split_at trace k d lt)

    keeps : KeepsWhole document before trace after
    keeps = record { apart = run.apart; is_true = run.is_true; whole = λ k d lt. whole_entry document (get_or trace k d) (all_unbroken k d lt) }

  -- ---- what was set did not hold

  lacked : UnsetHold → (front : List Entry) (p : ℕ) (answer : SetAnswer) (rest : List Entry) → trace ≡ front ++ Set p answer ∷ rest
      → (wanted : Wanted) → wanted_at document p ≡ Some wanted → Holds before wanted → ⊥
  lacked unset front p answer rest is wanted asks holds =
      let (v, tested, first) = set_split document Repair order trace run.legal front p answer rest is in
      let at : trace ≡ v ++ Tested p tests.No ∷ Set p answer ∷ rest =
      is ∙ ap (λ (l : List Entry). l ++ Set p answer ∷ rest) tested ∙ append_assoc v (Tested p tests.No ∷ []) (Set p answer ∷ rest) in
      let (x, y, leads, step, more) = states_at v (Tested p tests.No) (Set p answer ∷ rest) at in
      let unbroken = unbroken_front v (Tested p tests.No) (Set p answer ∷ rest) at in
      let kept : KeepsWhole document before v x = record { apart = run.apart; is_true = leads; whole = λ k d lt. whole_entry document (get_or v k d) (unbroken k d lt) } in
      answer_known document x y p wanted tests.No asks step (unset document before x v p wanted kept asks (unset_in v first) holds)
    where
      unset_in : (v : List Entry) → IsFirstTest order v p → IsSetIn v p → ⊥
      unset_in v first (a, other, b, splits) = first.once (has_split v a (Set p other) b splits)

  -- ---- a reboot

  module _ (unset : UnsetHold) (settled : SettledHold) (stays : ClearStays) (falls : UnheldFalls) where
    set_last : (r : ℕ) (front : List Entry) → trace ≡ front ++ Set r sets.Reboot ∷ [] → EndsInMemory trace → ⊥
    set_last r front is (e, ends, wants) = is_fed e (ends_with_push front (Set r sets.Reboot) e (ends.0, sym is ∙ ends.1)) wants
      where
        is_fed : (e : Entry) → Set r sets.Reboot ≡ e → WantsMemory e → ⊥
        is_fed (Tested p answer) same wants = absurd (cc (same))
        is_fed (Set p answer) same wants = absurd (cc (same, wants))

    nearer : EndsInReboot trace → ComesNearer document before after
    nearer (r, ends) =
        let front = ends.0 in
        let place = (run.legal front (Set r sets.Reboot) [] ends.1).is_place in
        let known = run.known r place in
        let fed = set_last r front ends.1 in
        let kept = keeps fed in
        let last : last_entry trace r ≡ Some (Set r sets.Reboot) = ap (λ (t : List Entry). last_entry t r) ends.1 ∙ last_here front (Set r sets.Reboot) r refl in
        record {
          fewer = falls before after document r
              (λ q wanted asks holds. unset document before after trace q wanted kept asks
              (λ (a, answer, b, at). lacked unset a q answer b at wanted asks holds) holds)
              (record {
                place = place;
                wanted = known.0;
                asks = known.1;
                lacked = λ holds. lacked unset front r sets.Reboot [] ends.1 known.0 known.1 holds;
                holds = settled document before after trace r known.0 kept known.1 (ap settles last);
              });
          clear = stays document before after trace run.apart run.is_true (all_unbroken fed) run.clear;
        }

  -- ---- the last resource

  complies : SetMakesHold → ClearStays → IsOrderOfDocument document order → Whole document Repair order trace → GoesOn trace → Compliant document trace
  complies makes stays ordered whole finished = none_missed document trace (λ r lt. repair_succeeds makes document order before after trace r
      (record { ordered = ordered; legal = run.legal; whole = whole; finished = finished; is_true = run.is_true })
      (nothing_blamed stays) lt (λ q comes. run.known q (comes_to_a_place document r q lt comes)))

pub nothing_in_the_way : ClearStays → NothingIsInTheWay
nothing_in_the_way stays document order before after trace run = nothing_blamed document order before after trace run stays

pub reboots_come_nearer : UnsetHold → SettledHold → ClearStays → UnheldFalls → RebootsComeNearer
reboots_come_nearer unset settled stays falls document order before after trace run ends =
    nearer document order before after trace run unset settled stays falls ends

pub clear_repairs_comply : SetMakesHold → ClearStays → ClearRepairsComply
clear_repairs_comply makes stays document order before after trace run ordered whole finished =
    complies document order before after trace run makes stays ordered whole finished
