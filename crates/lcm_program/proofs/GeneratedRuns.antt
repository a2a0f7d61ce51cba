-- A repair in which each resource asks for a variable, on a machine that wants no reboot and does not fail: each succeeds.
use Rattle.std.proofs.Common.{◌≡◌, ◌⊎◌, inl, inr, ℕ, ◌+◌, ◌<◌, List, [], ◌∷◌, ◌++◌, length, slice_get, Option, Some, None, Result, refl, sym, ◌∙◌, ap, subst, arith}
use Rattle.std.specs.List.{AllByRecursion}
use Rattle.std.specs.Option.{IsSomeAnd}
use Rattle.std.proofs.lemmas.Bool.{false≢true}
use Rattle.std.proofs.lemmas.List.Elements.{All-from_recursion}
use Rattle.std.proofs.lemmas.List.Sums.{sum_by-cons}
use Rattle.std.proofs.lemmas.Option.{same_Some}
use Rattle.dsc_outside.specs.Host.{HostState, wants_reboot}
use Rattle.dsc_document.specs.declared.document.Document.{Document}
use Rattle.dsc_document.specs.declared.document.Resource.{Resource}
use Rattle.resource_kinds.specs.declared.entry.Failure.{Failure}
use Rattle.resource_kinds.specs.declared.entry.Failure.TheVariants as faults
use Rattle.resource_kinds.specs.declared.entry.TestAnswer.{TestAnswer}
use Rattle.resource_kinds.specs.declared.entry.TestAnswer.TheVariants as tests
use Rattle.resource_kinds.specs.declared.entry.SetAnswer.{SetAnswer}
use Rattle.resource_kinds.specs.declared.entry.SetAnswer.TheVariants as sets
use Rattle.resource_kinds.specs.declared.entry.Entry.{Entry}
use Rattle.resource_kinds.specs.declared.entry.Entry.TheVariants.{Tested, Set}
use Rattle.resource_kinds.specs.declared.wanted.Wanted.{Wanted}
use Rattle.resource_kinds.specs.declared.wanted.Wanted.TheVariants.{Variable}
use Rattle.resource_kinds.specs.Trace.{EndsWith, Succeeded, entry_failures, host_failure, host_failures, missed_count, set_failures, test_failures}
use Rattle.resource_kinds.specs.True.{AnswersKnown, AnswersTrue, IsTrueEntry, SetsKnown, SetsTrue, True}
use Rattle.resource_kinds.specs.Wanted.{folded_utf8, wanted_of}
use Rattle.lcm_core.specs.declared.modes.RunEnd.{RunEnd}
use Rattle.lcm_core.specs.declared.modes.RunEnd.TheVariants as ends
use Rattle.lcm_core.specs.declared.modes.RunMode.TheVariants.{Repair}
use Rattle.lcm_core.specs.RepairLaws.{EntryBlames, RepairSucceeds, SetBlames, TestBlames}
use Rattle.lcm_core.proofs.Compliance.{none_missed as all_counted}
use Rattle.dsc_node.specs.Ran.{RanOnHost}
use Rattle.lcm_program.proofs.GeneratedVariables.{AskVariables, AsksVariable, each_sound, some_within}

-- ---- one entry

told_answer : (a : HostState) (resource : Option Resource) (answer : TestAnswer) → IsSomeAnd resource AsksVariable
    → IsSomeAnd resource (λ x. AnswersTrue a (wanted_of x) answer) → (name : List ℕ) × (value : List ℕ) × AnswersKnown a (Variable name value) answer
told_answer a None answer asks shown = absurd asks
told_answer a (Some resource) answer asks shown =
    (asks.0, asks.1, subst (λ (w : Result Wanted Failure). AnswersTrue a w answer) asks.2 shown)

-- a Set of a variable, of a resource of that id
abbrev SetsVariable : HostState → SetAnswer → HostState → Type 0
SetsVariable a answer b = (id : List ℕ) × (name : List ℕ) × (value : List ℕ) × SetsKnown a id (Variable name value) answer b

told_set : (a b : HostState) (resource : Option Resource) (answer : SetAnswer) → IsSomeAnd resource AsksVariable
    → IsSomeAnd resource (λ x. SetsTrue a x.id (wanted_of x) answer b) → SetsVariable a answer b
told_set a b None answer asks shown = absurd asks
told_set a b (Some resource) answer asks shown =
    (resource.id, asks.0, asks.1, subst (λ (w : Result Wanted Failure). SetsTrue a resource.id w answer b) asks.2 shown)

-- who wants a reboot stays
set_keeps : (a b : HostState) (id name value : List ℕ) (answer : SetAnswer) → SetsKnown a id (Variable name value) answer b → b.wanting ≡ a.wanting
set_keeps a b id name value sets.Done set = ap (λ (h : HostState). h.wanting) set.0.applied
set_keeps a b id name value sets.Reboot set = ap (λ (h : HostState). h.wanting) set.0.applied
set_keeps a b id name value (sets.Fault faults.NoSuchResource) set = absurd set
set_keeps a b id name value (sets.Fault (faults.OutOfProfile property)) set = absurd set
set_keeps a b id name value (sets.Fault faults.BadPath) set = absurd set
set_keeps a b id name value (sets.Fault faults.InTheWay) set = absurd set.0
set_keeps a b id name value (sets.Fault faults.HostFailed) set = ap (λ (h : HostState). h.wanting) set.part.nothing_else
set_keeps a b id name value sets.Memory set = ap (λ (h : HostState). h.wanting) set.part.nothing_else

test_innocent : (a : HostState) (name value : List ℕ) (answer : TestAnswer) → AnswersKnown a (Variable name value) answer → test_failures answer ≡ 0 → TestBlames answer → ⊥
test_innocent a name value tests.Yes known none blames = blames
test_innocent a name value tests.No known none blames = blames
test_innocent a name value (tests.Fault failure) known none blames = absurd (omega (arith, none, ap host_failure known))
test_innocent a name value tests.Memory known none blames = blames

set_innocent : (a b : HostState) (id name value : List ℕ) (answer : SetAnswer) → SetsKnown a id (Variable name value) answer b → set_failures answer ≡ 0 → SetBlames answer → ⊥
set_innocent a b id name value sets.Done set none blames = blames
set_innocent a b id name value sets.Reboot set none blames = blames
set_innocent a b id name value (sets.Fault faults.NoSuchResource) set none blames = blames
set_innocent a b id name value (sets.Fault (faults.OutOfProfile property)) set none blames = blames
set_innocent a b id name value (sets.Fault faults.BadPath) set none blames = blames
set_innocent a b id name value (sets.Fault faults.InTheWay) set none blames = set.0
set_innocent a b id name value (sets.Fault faults.HostFailed) set none blames = absurd (omega (arith, none))
set_innocent a b id name value sets.Memory set none blames = blames

module _ (document : Document) (ask : AskVariables document) where
  set_told : (a b : HostState) (p : ℕ) (answer : SetAnswer) → IsTrueEntry a document (Set p answer) b → SetsVariable a answer b
  set_told a b p answer shown =
      told_set a b (slice_get document.resources p) answer
      (ask p (some_within (λ x. SetsTrue a x.id (wanted_of x) answer b) document.resources p shown)) shown

  entry_keeps : (a b : HostState) (e : Entry) → IsTrueEntry a document e b → b.wanting ≡ a.wanting
  entry_keeps a b (Tested p answer) shown = ap (λ (h : HostState). h.wanting) shown.0
  entry_keeps a b (Set p answer) shown =
      let set = set_told a b p answer shown in
      set_keeps a b set.0 set.1 set.2 answer set.3

  entry_innocent : (a b : HostState) (e : Entry) → IsTrueEntry a document e b → entry_failures e ≡ 0 → EntryBlames e → ⊥
  entry_innocent a b (Tested p answer) shown none blames =
      let asks = ask p (some_within (λ x. AnswersTrue a (wanted_of x) answer) document.resources p shown.1) in
      let known = told_answer a (slice_get document.resources p) answer asks shown.1 in
      test_innocent a known.0 known.1 answer known.2 none blames
  entry_innocent a b (Set p answer) shown none blames =
      let set = set_told a b p answer shown in
      set_innocent a b set.0 set.1 set.2 answer set.3 none blames

  -- nobody wants a reboot
  no_reboot : (a b : HostState) (e : Entry) → IsTrueEntry a document e b → a.wanting ≡ [] → (r : ℕ) → e ≡ Set r sets.Reboot → ⊥
  no_reboot a b e shown nobody r is =
      let step = subst (λ (x : Entry). IsTrueEntry a document x b) is shown in
      let set = set_told a b r sets.Reboot step in
      let still = set_keeps a b set.0 set.1 set.2 sets.Reboot set.3 ∙ nobody in
      false≢true (ap (λ (w : List (List ℕ)). wants_reboot w (folded_utf8 set.0)) (sym still) ∙ set.3.1)

  -- ---- along the trace

  abbrev IsPlain : Entry → Type 0
  IsPlain e = (EntryBlames e → ⊥) × ((r : ℕ) → e ≡ Set r sets.Reboot → ⊥)

  all_plain : (a b : HostState) (trace : List Entry) → True document a trace b → a.wanting ≡ [] → host_failures trace ≡ 0 → AllByRecursion IsPlain trace
  all_plain a b [] chain nobody none = tt
  all_plain a b (e ∷ es) chain nobody none =
      let (mid, step, more) = chain in
      let both : entry_failures e + host_failures es ≡ 0 = sym (sum_by-cons entry_failures e es) ∙ none in (
        (entry_innocent a mid e step (omega (arith, both)), no_reboot a mid e step nobody),
        all_plain mid b es more (entry_keeps a mid e step ∙ nobody) (omega (arith, both)),
      )

  blames_nothing : (trace : List Entry) → AllByRecursion IsPlain trace → AllByRecursion (λ e. EntryBlames e → ⊥) trace
  blames_nothing [] plain = tt
  blames_nothing (e ∷ es) plain = (plain.0.0, blames_nothing es plain.1)

  last_plain : (front : List Entry) (e : Entry) → AllByRecursion IsPlain (front ++ e ∷ []) → IsPlain e
  last_plain [] e plain = plain.0
  last_plain (f ∷ front) e plain = last_plain front e plain.1

  ends_plain : (trace : List Entry) → AllByRecursion IsPlain trace → (r : ℕ) → EndsWith trace (Set r sets.Reboot) → ⊥
  ends_plain trace plain r (front, is) = (last_plain front (Set r sets.Reboot) (subst (λ (t : List Entry). AllByRecursion IsPlain t) is plain)).1 r refl

-- ---- the run

module _ (succeeds : RepairSucceeds) (document : Document) (order : List ℕ) (trace : List Entry) (before after : HostState)
    (ask : AskVariables document) (nobody : before.wanting ≡ []) (none : host_failures trace ≡ 0) where
  told_true : (end : RunEnd) → RanOnHost document Repair order end trace (Some before) (Some after) 0 0 → True document before trace after
  told_true end run = let (state, is, shown) = run.is_true in subst (λ (h : HostState). True document before trace h) (sym (same_Some after state is)) shown

  -- it comes to its last resource
  pub finishes : (end : RunEnd) → (end ≡ ends.Finished) ⊎ ((r : ℕ) × (end ≡ ends.RebootAsked r)) → RanOnHost document Repair order end trace (Some before) (Some after) 0 0
      → RanOnHost document Repair order ends.Finished trace (Some before) (Some after) 0 0
  finishes end (inl is) run = subst (λ (e : RunEnd). RanOnHost document Repair order e trace (Some before) (Some after) 0 0) is run
  finishes end (inr (r, is)) run =
      let asked = subst (λ (e : RunEnd). RanOnHost document Repair order e trace (Some before) (Some after) 0 0) is run in
      absurd (ends_plain document ask trace (all_plain document ask before after trace (told_true end run) nobody none) r asked.ended)

  module _ (run : RanOnHost document Repair order ends.Finished trace (Some before) (Some after) 0 0) where
    pub each_succeeds : (r : ℕ) → r < length document.resources → Succeeded trace r
    each_succeeds r lt =
        let chain = told_true ends.Finished run in
        let plain = all_plain document ask before after trace chain nobody none in
        succeeds document order before after trace r
        (record { ordered = run.is_order; legal = run.legal; whole = run.whole; finished = run.ended; is_true = chain })
        (All-from_recursion (λ e. EntryBlames e → ⊥) trace (blames_nothing document ask trace plain)) lt (each_sound document r ask lt)

    pub none_missed : missed_count document trace ≡ 0
    none_missed = all_counted document trace each_succeeds
