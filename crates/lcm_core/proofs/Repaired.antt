-- Why a resource without faults ends with a Test that answered yes: its entries, which are true of a host, answer well.
use Rattle.std.proofs.Common.{◌≡◌, ℕ, Bool, true, cond, List, [], ◌∷◌, ◌++◌, slice_get, Option, Some, None, Result, Ok, Err, option_and_then, refl, sym, ◌∙◌, ap, subst}
use Rattle.std.specs.Prelude.{filter}
use Rattle.std.specs.Option.{IsSomeAnd}
use Rattle.std.specs.Result.{result_ok}
use Rattle.std.proofs.lemmas.List.Elements.{All-head, All-tail, filter-append}
use Rattle.std.proofs.lemmas.Option.{none-some, same_Some}
use Rattle.dsc_outside.specs.Host.{HostState}
use Rattle.dsc_document.specs.declared.document.Document.{Document}
use Rattle.dsc_document.specs.declared.document.Resource.{Resource}
use Rattle.resource_kinds.specs.declared.entry.Failure.{Failure}
use Rattle.resource_kinds.specs.declared.entry.Failure.TheVariants as faults
use Rattle.resource_kinds.specs.declared.entry.TestAnswer.{TestAnswer}
use Rattle.resource_kinds.specs.declared.entry.TestAnswer.TheVariants as tests
use Rattle.resource_kinds.specs.declared.entry.SetAnswer.{SetAnswer}
use Rattle.resource_kinds.specs.declared.entry.SetAnswer.TheVariants as sets
use Rattle.resource_kinds.specs.declared.entry.Entry.{Entry}
use Rattle.resource_kinds.specs.declared.entry.Entry.TheVariants.{Tested, Set}
use Rattle.resource_kinds.specs.declared.wanted.Wanted.{Wanted}
use Rattle.resource_kinds.specs.Apart.{wanted_at}
use Rattle.resource_kinds.specs.Holds.{Holds}
use Rattle.resource_kinds.specs.Laws.{SetMakesHold}
use Rattle.resource_kinds.specs.Trace.{place_of}
use Rattle.resource_kinds.specs.True.{AnswersKnown, AnswersTrue, IsTrueEntry, LeavesFaulty, SetsKnown, SetsTrue, True}
use Rattle.resource_kinds.specs.Wanted.{wanted_of}
use Rattle.lcm_core.specs.LastingRuns.{IsFault, KnownEntriesAnswerWell}
use Rattle.lcm_core.specs.RepairLaws.{EntryBlames, FaultsAreContained, IsOfMachine, IsSpared, RepairSucceeds}
use Rattle.lcm_core.proofs.WellAnswered.{well_answered_succeed}

-- ---- what its entries say of a resource without a fault of its own

result_is : (asks : Result Wanted Failure) (wanted : Wanted) → result_ok asks ≡ Some wanted → asks ≡ Ok wanted
result_is (Ok known) wanted is = ap (λ (w : Wanted). Ok w) (same_Some known wanted is)
result_is (Err failure) wanted is = absurd (none-some wanted is)

told_answer : (a : HostState) (resource : Option Resource) (wanted : Wanted) (answer : TestAnswer)
    → option_and_then (λ r. result_ok (wanted_of r)) resource ≡ Some wanted
    → IsSomeAnd resource (λ x. AnswersTrue a (wanted_of x) answer) → AnswersKnown a wanted answer
told_answer a None wanted answer is shown = absurd (none-some wanted is)
told_answer a (Some resource) wanted answer is shown =
    subst (λ (asks : Result Wanted Failure). AnswersTrue a asks answer) (result_is (wanted_of resource) wanted is) shown

told_set : (a b : HostState) (resource : Option Resource) (wanted : Wanted) (answer : SetAnswer)
    → option_and_then (λ r. result_ok (wanted_of r)) resource ≡ Some wanted
    → IsSomeAnd resource (λ x. SetsTrue a x.id (wanted_of x) answer b) → (id : List ℕ) × SetsKnown a id wanted answer b
told_set a b None wanted answer is shown = absurd (none-some wanted is)
told_set a b (Some resource) wanted answer is shown =
    (resource.id, subst (λ (asks : Result Wanted Failure). SetsTrue a resource.id asks answer b) (result_is (wanted_of resource) wanted is) shown)

pub answer_known : (document : Document) (a b : HostState) (p : ℕ) (wanted : Wanted) (answer : TestAnswer) → wanted_at document p ≡ Some wanted
    → IsTrueEntry a document (Tested p answer) b → AnswersKnown a wanted answer
answer_known document a b p wanted answer asks shown = told_answer a (slice_get document.resources p) wanted answer asks shown.1

pub set_known : (document : Document) (a b : HostState) (p : ℕ) (wanted : Wanted) (answer : SetAnswer) → wanted_at document p ≡ Some wanted
    → IsTrueEntry a document (Set p answer) b → (id : List ℕ) × SetsKnown a id wanted answer b
set_known document a b p wanted answer asks shown = told_set a b (slice_get document.resources p) wanted answer asks shown

-- the faults of such a resource are the machine's
test_blames : (failure : Failure) → failure ≡ faults.HostFailed → IsOfMachine failure
test_blames failure is = subst IsOfMachine (sym is) tt

set_blames : (a b : HostState) (wanted : Wanted) (failure : Failure) → LeavesFaulty a wanted failure b → IsOfMachine failure
set_blames a b wanted faults.NoSuchResource leaves = absurd leaves
set_blames a b wanted (faults.OutOfProfile name) leaves = absurd leaves
set_blames a b wanted faults.BadPath leaves = absurd leaves
set_blames a b wanted faults.InTheWay leaves = tt
set_blames a b wanted faults.HostFailed leaves = tt

-- ---- along the trace

-- the states before and after an entry
pub true_split : (document : Document) (a b : HostState) (front : List Entry) (e : Entry) (rest : List Entry) → True document a (front ++ e ∷ rest) b
    → (x y : HostState) × IsTrueEntry x document e y × True document y rest b
true_split document a b [] e rest chain = (a, chain.0, chain.1, chain.2)
true_split document a b (f ∷ front) e rest chain = true_split document chain.0 b front e rest chain.2

blameless : (r : ℕ) (front : List Entry) (e : Entry) (rest : List Entry) → IsSpared (front ++ e ∷ rest) r → place_of e ≡ r → EntryBlames e → ⊥
blameless r [] e rest spared of = All-head (λ (x : Entry). place_of x ≡ r → EntryBlames x → ⊥) e rest spared of
blameless r (f ∷ front) e rest spared of =
    blameless r front e rest (All-tail (λ (x : Entry). place_of x ≡ r → EntryBlames x → ⊥) f (front ++ e ∷ rest) spared) of

-- ---- beside entries of others

module _ (is_of_host : Entry → Bool) where
  pub kept_first : (e : Entry) (rest : List Entry) → is_of_host e ≡ true → filter is_of_host (e ∷ rest) ≡ e ∷ filter is_of_host rest
  kept_first e rest is = ap (λ (b : Bool). cond b (e ∷ filter is_of_host rest) (filter is_of_host rest)) is

  pub kept_split : (front : List Entry) (e : Entry) (rest : List Entry) → is_of_host e ≡ true
      → filter is_of_host (front ++ e ∷ rest) ≡ filter is_of_host front ++ e ∷ filter is_of_host rest
  kept_split front e rest is =
      filter-append is_of_host front (e ∷ rest) ∙ ap (λ (t : List Entry). filter is_of_host front ++ t) (kept_first e rest is)

  module _ (makes : SetMakesHold) (document : Document) (before after : HostState) (trace : List Entry) (r : ℕ) (is_true : True document before (filter is_of_host trace) after)
      (wanted : Wanted) (asks : wanted_at document r ≡ Some wanted) (its : (e : Entry) → place_of e ≡ r → is_of_host e ≡ true) where
    step_at : (front : List Entry) (e : Entry) (rest : List Entry) → trace ≡ front ++ e ∷ rest → place_of e ≡ r
        → (x y : HostState) × IsTrueEntry x document e y × True document y (filter is_of_host rest) after
    step_at front e rest is of =
        true_split document before after (filter is_of_host front) e (filter is_of_host rest)
        (subst (λ (t : List Entry). True document before t after) (ap (filter is_of_host) is ∙ kept_split front e rest (its e of)) is_true)

    -- a fault of it is the machine's
    fault_blames : (front : List Entry) (e : Entry) (rest : List Entry) → trace ≡ front ++ e ∷ rest → place_of e ≡ r → IsFault e → EntryBlames e
    fault_blames front (Tested p tests.Yes) rest is of fault = absurd fault
    fault_blames front (Tested p tests.No) rest is of fault = absurd fault
    fault_blames front (Tested p (tests.Fault failure)) rest is of fault =
        let (x, y, step, more) = step_at front (Tested p (tests.Fault failure)) rest is of in
        test_blames failure (answer_known document x y p wanted (tests.Fault failure) (ap (wanted_at document) of ∙ asks) step)
    fault_blames front (Tested p tests.Memory) rest is of fault = absurd fault
    fault_blames front (Set p sets.Done) rest is of fault = absurd fault
    fault_blames front (Set p sets.Reboot) rest is of fault = absurd fault
    fault_blames front (Set p (sets.Fault failure)) rest is of fault =
        let (x, y, step, more) = step_at front (Set p (sets.Fault failure)) rest is of in
        set_blames x y wanted failure (set_known document x y p wanted (sets.Fault failure) (ap (wanted_at document) of ∙ asks) step).1
    fault_blames front (Set p sets.Memory) rest is of fault = absurd fault

    -- after a Set that was done the resource holds, so its Test does not answer no
    never_no : (front rest : List Entry) → trace ≡ front ++ Set r sets.Done ∷ Tested r tests.No ∷ rest → ⊥
    never_no front rest is =
        let (x, y, step, later) = step_at front (Set r sets.Done) (Tested r tests.No ∷ rest) is refl in
        let after_set = subst (λ (t : List Entry). True document y t after) (kept_first (Tested r tests.No) rest (its (Tested r tests.No) refl)) later in
        let set = set_known document x y r wanted sets.Done asks step in
        let holds = subst (λ (h : HostState). Holds h wanted) (sym set.1.0.applied) (makes x wanted) in
        answer_known document y after_set.0 r wanted tests.No asks after_set.1 holds

pub known_entries : SetMakesHold → KnownEntriesAnswerWell
known_entries makes document is_of_host before after trace r is_true known its spared = record {
  faultless = λ front e rest is of fault.
      blameless r front e rest (subst (λ (t : List Entry). IsSpared t r) is spared) of
      (fault_blames is_of_host makes document before after trace r is_true known.0 known.1 its front e rest is of fault);
  lasts = λ front rest is. never_no is_of_host makes document before after trace r is_true known.0 known.1 its front rest is;
}

-- ---- where all entries are true of a host

abbrev any_entry : Entry → Bool
any_entry e = true

all_kept : (trace : List Entry) → filter any_entry trace ≡ trace
all_kept [] = refl
all_kept (e ∷ trace) = kept_first any_entry e trace refl ∙ ap (λ (t : List Entry). e ∷ t) (all_kept trace)

pub faults_contained : SetMakesHold → FaultsAreContained
faults_contained makes document order before after trace r run spared is_place sound =
    well_answered_succeed document order trace r
    (record { ordered = run.ordered; legal = run.legal; whole = run.whole; finished = run.finished })
    (λ q comes.
    known_entries makes document any_entry before after trace q (subst (λ (t : List Entry). True document before t after) (sym (all_kept trace)) run.is_true)
    (sound q comes) (λ e of. refl) (spared q comes))
    is_place

pub repair_succeeds : SetMakesHold → RepairSucceeds
repair_succeeds makes document order before after trace r run blames_nothing is_place sound =
    faults_contained makes document order before after trace r run (λ q comes k d lt same. blames_nothing k d lt) is_place sound
