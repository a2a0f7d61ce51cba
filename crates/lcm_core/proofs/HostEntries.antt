-- Beside entries of others, what a host's entries say of a resource lasts.
use Rattle.std.proofs.Common.{◌≡◌, inl, inr, ℕ, ◌+◌, Bool, true, cond, List, [], ◌∷◌, ◌++◌, take, drop, get_or, Some, refl, sym, ◌∙◌, ap, subst, arith, append-nil, All}
use Rattle.std.specs.Prelude.{filter}
use Rattle.std.proofs.lemmas.Bool.{cases_Bool}
use Rattle.std.proofs.lemmas.List.{append_assoc}
use Rattle.std.proofs.lemmas.List.Elements.{All-cons, All-filter, All-head, All-nil, All-tail}
use Rattle.dsc_terms.proofs.Splits.{split_at}
use Rattle.dsc_outside.specs.Host.{HostState}
use Rattle.dsc_document.specs.declared.document.Document.{Document}
use Rattle.resource_kinds.specs.declared.entry.Failure.{Failure}
use Rattle.resource_kinds.specs.declared.entry.Failure.TheVariants as faults
use Rattle.resource_kinds.specs.declared.entry.TestAnswer.TheVariants as tests
use Rattle.resource_kinds.specs.declared.entry.SetAnswer.{SetAnswer}
use Rattle.resource_kinds.specs.declared.entry.SetAnswer.TheVariants as sets
use Rattle.resource_kinds.specs.declared.entry.Entry.{Entry}
use Rattle.resource_kinds.specs.declared.entry.Entry.TheVariants.{Tested, Set}
use Rattle.resource_kinds.specs.declared.wanted.Wanted.{Wanted}
use Rattle.resource_kinds.specs.Apart.{wanted_at}
use Rattle.resource_kinds.specs.Documents.{Clear}
use Rattle.resource_kinds.specs.Holds.{Holds}
use Rattle.resource_kinds.specs.Laws.{ClearStays, IsSetIn, IsUnbroken, KeepsWhole, SetMakesHold, UnsetHold}
use Rattle.resource_kinds.specs.Trace.{entry_failures, host_failures, place_of}
use Rattle.resource_kinds.specs.True.{IsTrueEntry, LeavesFaulty, True}
use Rattle.lcm_core.specs.declared.modes.RunMode.TheVariants.{Repair}
use Rattle.lcm_core.specs.HostEntries.{HostEntriesLast, IsClearBeside, StaysClearBeside}
use Rattle.lcm_core.specs.LastingRuns.{IsFault, NeverNo}
use Rattle.lcm_core.proofs.OneTurn.{has_split}
use Rattle.lcm_core.proofs.Rebooted.{failures_at, is_one, tested_one, true_parts, unbroken_entry, wants_final, whole_entry}
use Rattle.lcm_core.proofs.Repaired.{answer_known, kept_first, kept_split, set_known}
use Rattle.lcm_core.proofs.RepairedEntries.{final_ends, set_split}

-- what holds of each of a list holds of each of its front, and of the rest
all_parts : {A : Type 0} (P : A → Type 0) (front rest : List A) → All P (front ++ rest) → All P front × All P rest
all_parts P [] rest all = (All-nil P, all)
all_parts P (x ∷ front) rest all =
    let both = all_parts P front rest (All-tail P x (front ++ rest) all) in
    (All-cons P x front (All-head P x (front ++ rest) all) both.0, both.1)

-- a Set among some entries of a list is one of the list
set_among : (p : Entry → Bool) (r : ℕ) (t : List Entry) → IsSetIn (filter p t) r → IsSetIn t r
set_among p r [] (a, answer, b, is) = absurd (nothing a is)
  where
    nothing : (a : List Entry) → [] ≡ a ++ Set r answer ∷ b → ⊥
    nothing [] is = absurd (cc (is))
    nothing (x ∷ a) is = absurd (cc (is))
set_among p r (e ∷ t) found = elim (cases_Bool (p e)) [
  | inl kept ↦ here (set_among p r t) (subst (λ (l : List Entry). IsSetIn l r) (kept_first p e t kept) found)
  | inr left ↦ after (set_among p r t (subst (λ (b : Bool). IsSetIn (cond b (e ∷ filter p t) (filter p t)) r) left found))
]
  where
    after : IsSetIn t r → IsSetIn (e ∷ t) r
    after (a, answer, b, is) = (e ∷ a, answer, b, ap (λ (l : List Entry). e ∷ l) is)

    here : (IsSetIn (filter p t) r → IsSetIn t r) → IsSetIn (e ∷ filter p t) r → IsSetIn (e ∷ t) r
    here later ([], answer, b, is) = let same : e ≡ Set r answer = cc (is) in ([], answer, t, ap (λ (x : Entry). x ∷ t) same)
    here later (x ∷ a, answer, b, is) = let rest : filter p t ≡ a ++ Set r answer ∷ b = cc (is) in after (later (a, answer, b, rest))

module _ (makes : SetMakesHold) (unset : UnsetHold) (stays : ClearStays) (document : Document) (is_of_host : Entry → Bool) (order : List ℕ) (before after : HostState) (trace : List Entry)
    (run : IsClearBeside document is_of_host order before trace after) where
  unfailed_at : (front : List Entry) (e : Entry) (rest : List Entry) → trace ≡ front ++ e ∷ rest → entry_failures e ≡ 0
  unfailed_at front e rest is = failures_at front e rest (ap host_failures (sym is) ∙ run.unfailed)

  unbroken_at : (front : List Entry) (e : Entry) (rest : List Entry) → trace ≡ front ++ e ∷ rest → IsUnbroken e
  unbroken_at front e rest is = unbroken_entry e (unfailed_at front e rest is)
      (λ wants. run.fed (e, final_ends document Repair order trace front e rest run.legal is (wants_final e wants), wants))

  all_unbroken : All IsUnbroken trace
  all_unbroken k d lt = unbroken_at (take k trace) (get_or trace k d) (drop (k + 1) trace) (split_at trace k d lt)

  -- of the entries of the host in this part of the trace none broke off
  part_unbroken : (front part rest : List Entry) → trace ≡ front ++ (part ++ rest) → All IsUnbroken (filter is_of_host part)
  part_unbroken front part rest is =
      let back = (all_parts IsUnbroken front (part ++ rest) (subst (λ (t : List Entry). All IsUnbroken t) is all_unbroken)).1 in
      All-filter is_of_host IsUnbroken part (all_parts IsUnbroken part rest back).0

  part_whole : (front part rest : List Entry) (x y : HostState) → trace ≡ front ++ (part ++ rest) → True document x (filter is_of_host part) y
      → KeepsWhole document x (filter is_of_host part) y
  part_whole front part rest x y is leads = record {
    apart = run.apart;
    is_true = leads;
    whole = λ k d lt. whole_entry document (get_or (filter is_of_host part) k d) (part_unbroken front part rest is k d lt);
  }

  all_of_it : trace ≡ [] ++ (trace ++ [])
  all_of_it = sym (append-nil trace)

  clear_after : Clear after document
  clear_after = stays document before after (filter is_of_host trace) run.apart run.is_true (part_unbroken [] trace [] all_of_it) run.clear

  -- ---- one resource

  module _ (r : ℕ) (wanted : Wanted) (asks : wanted_at document r ≡ Some wanted) (its : (e : Entry) → place_of e ≡ r → is_of_host e ≡ true) where
    -- the states before and after one of its entries, with what leads to the first and from the second
    states_at : (front : List Entry) (e : Entry) (rest : List Entry) → trace ≡ front ++ e ∷ rest → place_of e ≡ r
        → (x y : HostState) × True document before (filter is_of_host front) x × IsTrueEntry x document e y × True document y (filter is_of_host rest) after
    states_at front e rest is of =
        true_parts document before after (filter is_of_host front) e (filter is_of_host rest)
        (subst (λ (t : List Entry). True document before t after) (ap (filter is_of_host) is ∙ kept_split is_of_host front e rest (its e of)) run.is_true)

    -- no Set of it leaves a fault
    no_set_fault : (p : ℕ) (failure : Failure) (front rest : List Entry) (x y : HostState) → trace ≡ front ++ Set p (sets.Fault failure) ∷ rest
        → True document before (filter is_of_host front) x → LeavesFaulty x wanted failure y → ⊥
    no_set_fault p faults.NoSuchResource front rest x y is leads left = left
    no_set_fault p (faults.OutOfProfile name) front rest x y is leads left = left
    no_set_fault p faults.BadPath front rest x y is leads left = left
    no_set_fault p faults.InTheWay front rest x y is leads left =
        stays document before x (filter is_of_host front) run.apart leads (part_unbroken [] front (Set p (sets.Fault faults.InTheWay) ∷ rest) is) run.clear r wanted asks left.0
    no_set_fault p faults.HostFailed front rest x y is leads left =
        omega (arith, is_one p faults.HostFailed refl, unfailed_at front (Set p (sets.Fault faults.HostFailed)) rest is)

    faultless : (front : List Entry) (e : Entry) (rest : List Entry) → trace ≡ front ++ e ∷ rest → place_of e ≡ r → IsFault e → ⊥
    faultless front (Tested p tests.Yes) rest is of fault = fault
    faultless front (Tested p tests.No) rest is of fault = fault
    faultless front (Tested p (tests.Fault failure)) rest is of fault =
        let (x, y, leads, step, more) = states_at front (Tested p (tests.Fault failure)) rest is of in
        let failed = answer_known document x y p wanted (tests.Fault failure) (ap (wanted_at document) of ∙ asks) step in
        omega (arith, tested_one p failure failed, unfailed_at front (Tested p (tests.Fault failure)) rest is)
    faultless front (Tested p tests.Memory) rest is of fault = fault
    faultless front (Set p sets.Done) rest is of fault = fault
    faultless front (Set p sets.Reboot) rest is of fault = fault
    faultless front (Set p (sets.Fault failure)) rest is of fault =
        let (x, y, leads, step, more) = states_at front (Set p (sets.Fault failure)) rest is of in
        no_set_fault p failure front rest x y is leads (set_known document x y p wanted (sets.Fault failure) (ap (wanted_at document) of ∙ asks) step).1
    faultless front (Set p sets.Memory) rest is of fault = fault

    -- ---- where it held before the run

    first_no : (front rest : List Entry) → trace ≡ front ++ Tested r tests.No ∷ rest → (IsSetIn front r → ⊥) → Holds before wanted → ⊥
    first_no front rest is never holds =
        let (x, y, leads, step, more) = states_at front (Tested r tests.No) rest is refl in
        answer_known document x y r wanted tests.No asks step
        (unset document before x (filter is_of_host front) r wanted (part_whole [] front (Tested r tests.No ∷ rest) before x is leads) asks
        (λ found. never (set_among is_of_host r front found)) holds)

    never_set : (front : List Entry) (answer : SetAnswer) (rest : List Entry) → trace ≡ front ++ Set r answer ∷ rest → Holds before wanted → ⊥
    never_set front answer rest is holds =
        let (v, tested, first) = set_split document Repair order trace run.legal front r answer rest is in
        first_no v (Set r answer ∷ rest)
        (is ∙ ap (λ (l : List Entry). l ++ Set r answer ∷ rest) tested ∙ append_assoc v (Tested r tests.No ∷ []) (Set r answer ∷ rest))
        (λ (a, other, b, at). first.once (has_split v a (Set r other) b at)) holds

    held_never_no : Holds before wanted → NeverNo r trace
    held_never_no holds front rest is = first_no front rest is
        (λ (a, answer, b, at). never_set a answer (b ++ Tested r tests.No ∷ rest)
        (is ∙ ap (λ (l : List Entry). l ++ Tested r tests.No ∷ rest) at ∙ append_assoc a (Set r answer ∷ b) (Tested r tests.No ∷ rest)) holds) holds

    held_after : Holds before wanted → Holds after wanted
    held_after holds =
        unset document before after (filter is_of_host trace) r wanted (part_whole [] trace [] before after all_of_it run.is_true) asks
        (λ found. let (a, answer, b, at) = set_among is_of_host r trace found in never_set a answer b at holds) holds

    -- ---- after a Set

    made : (front : List Entry) (answer : SetAnswer) (rest : List Entry) (x y : HostState) → trace ≡ front ++ Set r answer ∷ rest → IsTrueEntry x document (Set r answer) y → Holds y wanted
    made front sets.Done rest x y is step =
        subst (λ (h : HostState). Holds h wanted) (sym (set_known document x y r wanted sets.Done asks step).1.0.applied) (makes x wanted)
    made front sets.Reboot rest x y is step =
        subst (λ (h : HostState). Holds h wanted) (sym (set_known document x y r wanted sets.Reboot asks step).1.0.applied) (makes x wanted)
    made front (sets.Fault failure) rest x y is step = absurd (faultless front (Set r (sets.Fault failure)) rest is refl tt)
    made front sets.Memory rest x y is step = absurd (unbroken_at front (Set r sets.Memory) rest is tt)

    -- it is not set again
    set_once : (front : List Entry) (answer : SetAnswer) (part rest : List Entry) → trace ≡ front ++ Set r answer ∷ (part ++ rest) → IsSetIn part r → ⊥
    set_once front answer part rest is (a, other, b, at) =
        (run.legal (front ++ Set r answer ∷ a) (Set r other) (b ++ rest)
        (is ∙ ap (λ (l : List Entry). front ++ Set r answer ∷ (l ++ rest)) at ∙ ap (λ (l : List Entry). front ++ Set r answer ∷ l) (append_assoc a (Set r other ∷ b) rest)
        ∙ sym (append_assoc front (Set r answer ∷ a) (Set r other ∷ (b ++ rest))))).once front answer a refl

    -- the entries of the host in this part, which follows the Set, keep it
    kept_over : (front : List Entry) (answer : SetAnswer) (part rest : List Entry) (y z : HostState) → trace ≡ front ++ Set r answer ∷ (part ++ rest)
        → True document y (filter is_of_host part) z → Holds y wanted → Holds z wanted
    kept_over front answer part rest y z is leads holds =
        unset document y z (filter is_of_host part) r wanted
        (part_whole (front ++ Set r answer ∷ []) part rest y z (is ∙ sym (append_assoc front (Set r answer ∷ []) (part ++ rest))) leads) asks
        (λ found. set_once front answer part rest is (set_among is_of_host r part found)) holds

    after_set : (front : List Entry) (answer : SetAnswer) (rest : List Entry) → trace ≡ front ++ Set r answer ∷ rest → NeverNo r rest × Holds after wanted
    after_set front answer rest is =
        let (x, y, leads, step, more) = states_at front (Set r answer) rest is refl in
        let holds = made front answer rest x y is step in (
          λ part later at.
              let there : trace ≡ front ++ Set r answer ∷ (part ++ Tested r tests.No ∷ later) = is ∙ ap (λ (l : List Entry). front ++ Set r answer ∷ l) at in
              let (u, v, first, tested, others) = true_parts document y after (filter is_of_host part) (Tested r tests.No) (filter is_of_host later)
              (subst (λ (t : List Entry). True document y t after) (ap (filter is_of_host) at ∙ kept_split is_of_host part (Tested r tests.No) later (its (Tested r tests.No) refl)) more) in
              answer_known document u v r wanted tests.No asks tested (kept_over front answer part (Tested r tests.No ∷ later) y u there first holds),
          kept_over front answer rest [] y after (is ∙ ap (λ (l : List Entry). front ++ Set r answer ∷ l) (sym (append-nil rest))) more holds,
        )

pub stays_clear : SetMakesHold → UnsetHold → ClearStays → StaysClearBeside
stays_clear makes unset stays document is_of_host order before after trace run = clear_after makes unset stays document is_of_host order before after trace run

pub host_entries_last : SetMakesHold → UnsetHold → ClearStays → HostEntriesLast
host_entries_last makes unset stays document is_of_host order before after trace r wanted run asks its = record {
  faultless = faultless makes unset stays document is_of_host order before after trace run r wanted asks its;
  held = λ holds. (
    held_never_no makes unset stays document is_of_host order before after trace run r wanted asks its holds,
    held_after makes unset stays document is_of_host order before after trace run r wanted asks its holds,
  );
  set = after_set makes unset stays document is_of_host order before after trace run r wanted asks its;
}
