-- Where the resources are apart and no Set of a folder broke off, what the last entry of a resource settles holds to the end.
use Rattle.std.proofs.Common.{◌≡◌, ◌⊎◌, inl, inr, ℕ, Bool, true, false, cond, ◌==◌, List, [], ◌∷◌, reverse, find, slice_get, Option, Some, None, Result, Ok, Err, option_and_then, refl, sym, ◌∙◌, ap, subst, All}
use Rattle.std.proofs.lemmas.Bool.{cases_eq, cases_order, eqb-true, eqb-false, false≢true}
use Rattle.std.proofs.lemmas.List.{reverse-append}
use Rattle.std.proofs.lemmas.List.Elements.{All-head, All-tail}
use Rattle.std.proofs.lemmas.List.Folds.{find-append}
use Rattle.std.proofs.lemmas.Option.{none-some, same_Some}
use Rattle.std.specs.Option.{IsSomeAnd, option_or}
use Rattle.std.specs.Result.{result_ok}
use Rattle.dsc_outside.specs.Host.{HostState}
use Rattle.dsc_document.specs.declared.document.Document.{Document}
use Rattle.dsc_document.specs.declared.document.Resource.{Resource}
use Rattle.resource_kinds.specs.declared.entry.Failure.{Failure}
use Rattle.resource_kinds.specs.declared.entry.Failure.TheVariants as faults
use Rattle.resource_kinds.specs.declared.entry.TestAnswer.TheVariants as tests
use Rattle.resource_kinds.specs.declared.entry.SetAnswer.{SetAnswer}
use Rattle.resource_kinds.specs.declared.entry.SetAnswer.TheVariants as sets
use Rattle.resource_kinds.specs.declared.entry.Entry.{Entry}
use Rattle.resource_kinds.specs.declared.entry.Entry.TheVariants.{Tested, Set}
use Rattle.resource_kinds.specs.declared.wanted.Wanted.{Wanted}
use Rattle.resource_kinds.specs.Apart.{Apart, AreApart, Meet, wanted_at}
use Rattle.resource_kinds.specs.Holds.{Holds, applied}
use Rattle.resource_kinds.specs.Laws.{AsksFolder, IsSetIn, IsSettled, IsWhole, MayBreakOff, SetMakesHold, SettledHold, SucceededHold, UnsetHold, entry_settles, set_is_done, settles}
use Rattle.resource_kinds.specs.Trace.{is_yes, last_entry, place_of}
use Rattle.resource_kinds.specs.True.{AnswersTrue, IsTrueEntry, SetsKnown, SetsTrue, True}
use Rattle.resource_kinds.specs.Wanted.{wanted_of}
use Rattle.resource_kinds.proofs.SetLaws.{failure_keeps, keeps_apart}

-- ---- which resources are apart

meet_back : (a b : Wanted) → Meet a b → Meet b a
meet_back a b (inl same) = inl (sym same)
meet_back a b (inr (inl around)) = inr (inr around)
meet_back a b (inr (inr inside)) = inr (inl inside)

-- in whichever order they stand
pub apart_at : (document : Document) (first second : ℕ) (a b : Wanted) → Apart document → (first ≡ second → ⊥)
    → wanted_at document first ≡ Some a → wanted_at document second ≡ Some b → AreApart a b
apart_at document first second a b apart differ asks_a asks_b = elim (cases_order first second) [
  | inl same ↦ absurd (differ same)
  | inr (inl before) ↦ apart first second a b before asks_a asks_b
  | inr (inr after) ↦ λ meet. apart second first b a after asks_b asks_a (meet_back a b meet)
]

-- ---- one entry

-- the host is as it was, or what the Set made of it, or its target alone was changed
known_keeps : (before after : HostState) (id : List ℕ) (set other : Wanted) (answer : SetAnswer) → AreApart set other
    → (MayBreakOff answer → AsksFolder set → ⊥) → SetsKnown before id set answer after → Holds before other → Holds after other
known_keeps before after id set other sets.Done apart whole shown holds =
    subst (λ h. Holds h other) (sym shown.0.applied) (keeps_apart before set other apart holds)
known_keeps before after id set other sets.Reboot apart whole shown holds =
    subst (λ h. Holds h other) (sym shown.0.applied) (keeps_apart before set other apart holds)
known_keeps before after id set other (sets.Fault faults.NoSuchResource) apart whole shown holds = absurd shown
known_keeps before after id set other (sets.Fault (faults.OutOfProfile name)) apart whole shown holds = absurd shown
known_keeps before after id set other (sets.Fault faults.BadPath) apart whole shown holds = absurd shown
known_keeps before after id set other (sets.Fault faults.InTheWay) apart whole shown holds = subst (λ h. Holds h other) (sym shown.1) holds
known_keeps before after id set other (sets.Fault faults.HostFailed) apart whole shown holds =
    failure_keeps before after set other apart (whole refl) shown.part holds
known_keeps before after id set other sets.Memory apart whole shown holds = failure_keeps before after set other apart (whole tt) shown.part holds

told_keeps : (before after : HostState) (id : List ℕ) (wanted : Result Wanted Failure) (other : Wanted) (answer : SetAnswer)
    → ((set : Wanted) → wanted ≡ Ok set → AreApart set other) → ((set : Wanted) → wanted ≡ Ok set → MayBreakOff answer → AsksFolder set → ⊥)
    → SetsTrue before id wanted answer after → Holds before other → Holds after other
told_keeps before after id (Ok set) other answer apart whole shown holds =
    known_keeps before after id set other answer (apart set refl) (whole set refl) shown holds
told_keeps before after id (Err failure) other answer apart whole shown holds = subst (λ h. Holds h other) (sym shown.1) holds

abbrev asked : Option Resource → Option Wanted
asked resource = option_and_then (λ r. result_ok (wanted_of r)) resource

-- what the resource at a place asks for, once both are known
pub asked_at : (document : Document) (place : ℕ) (resource : Resource) (set : Wanted) → slice_get document.resources place ≡ Some resource
    → wanted_of resource ≡ Ok set → wanted_at document place ≡ Some set
asked_at document place resource set at is = ap asked at ∙ ap result_ok is

set_keeps : (document : Document) (before after : HostState) (place r : ℕ) (answer : SetAnswer) (other : Wanted) (resource : Option Resource)
    → slice_get document.resources place ≡ resource → Apart document → wanted_at document r ≡ Some other → (place ≡ r → ⊥)
    → IsWhole document (Set place answer) → IsSomeAnd resource (λ x. SetsTrue before x.id (wanted_of x) answer after) → Holds before other → Holds after other
set_keeps document before after place r answer other None at apart asks differ whole shown holds = absurd shown
set_keeps document before after place r answer other (Some resource) at apart asks differ whole shown holds =
    told_keeps before after resource.id (wanted_of resource) other answer
    (λ set is. apart_at document place r set other apart differ (asked_at document place resource set at is) asks)
    (λ set is broke. whole broke set (asked_at document place resource set at is)) shown holds

-- an entry of another resource keeps what holds of this one
entry_keeps : (document : Document) (before after : HostState) (e : Entry) (r : ℕ) (other : Wanted) → Apart document → wanted_at document r ≡ Some other
    → (place_of e ≡ r → ⊥) → IsWhole document e → IsTrueEntry before document e after → Holds before other → Holds after other
entry_keeps document before after (Tested place answer) r other apart asks differ whole shown holds = subst (λ h. Holds h other) (sym shown.0) holds
entry_keeps document before after (Set place answer) r other apart asks differ whole shown holds =
    set_keeps document before after place r answer other (slice_get document.resources place) refl apart asks differ whole shown holds

-- ---- an entry that settles its resource

known_yes : (before : HostState) (asks : Result Wanted Failure) (wanted : Wanted) → result_ok asks ≡ Some wanted → AnswersTrue before asks tests.Yes → Holds before wanted
known_yes before (Ok known) wanted is shown = subst (λ w. Holds before w) (same_Some known wanted is) shown
known_yes before (Err failure) wanted is shown = absurd (none-some wanted is)

told_yes : (before : HostState) (resource : Option Resource) (wanted : Wanted) → asked resource ≡ Some wanted
    → IsSomeAnd resource (λ x. AnswersTrue before (wanted_of x) tests.Yes) → Holds before wanted
told_yes before None wanted is shown = absurd (none-some wanted is)
told_yes before (Some resource) wanted is shown = known_yes before (wanted_of resource) wanted is shown

applied_holds : (before after : HostState) (wanted : Wanted) → SetMakesHold → after ≡ applied wanted before → Holds after wanted
applied_holds before after wanted makes is = subst (λ h. Holds h wanted) (sym is) (makes before wanted)

done_applied : (before after : HostState) (id : List ℕ) (set : Wanted) (answer : SetAnswer) → set_is_done answer ≡ true
    → SetsKnown before id set answer after → after ≡ applied set before
done_applied before after id set sets.Done done shown = shown.0.applied
done_applied before after id set sets.Reboot done shown = shown.0.applied
done_applied before after id set (sets.Fault failure) done shown = absurd (false≢true done)
done_applied before after id set sets.Memory done shown = absurd (false≢true done)

known_done : (before after : HostState) (id : List ℕ) (asks : Result Wanted Failure) (wanted : Wanted) (answer : SetAnswer) → SetMakesHold
    → result_ok asks ≡ Some wanted → set_is_done answer ≡ true → SetsTrue before id asks answer after → Holds after wanted
known_done before after id (Ok known) wanted answer makes is done shown =
    subst (λ w. Holds after w) (same_Some known wanted is) (applied_holds before after known makes (done_applied before after id known answer done shown))
known_done before after id (Err failure) wanted answer makes is done shown = absurd (none-some wanted is)

told_done : (before after : HostState) (resource : Option Resource) (wanted : Wanted) (answer : SetAnswer) → SetMakesHold → asked resource ≡ Some wanted
    → set_is_done answer ≡ true → IsSomeAnd resource (λ x. SetsTrue before x.id (wanted_of x) answer after) → Holds after wanted
told_done before after None wanted answer makes is done shown = absurd (none-some wanted is)
told_done before after (Some resource) wanted answer makes is done shown = known_done before after resource.id (wanted_of resource) wanted answer makes is done shown

entry_holds : (document : Document) (before after : HostState) (e : Entry) (r : ℕ) (wanted : Wanted) → SetMakesHold → wanted_at document r ≡ Some wanted
    → place_of e ≡ r → entry_settles e ≡ true → IsTrueEntry before document e after → Holds after wanted
entry_holds document before after (Tested place tests.Yes) r wanted makes asks same settled shown =
    subst (λ h. Holds h wanted) (sym shown.0) (told_yes before (slice_get document.resources place) wanted (ap (wanted_at document) same ∙ asks) shown.1)
entry_holds document before after (Tested place tests.No) r wanted makes asks same settled shown = absurd (false≢true settled)
entry_holds document before after (Tested place (tests.Fault failure)) r wanted makes asks same settled shown = absurd (false≢true settled)
entry_holds document before after (Tested place tests.Memory) r wanted makes asks same settled shown = absurd (false≢true settled)
entry_holds document before after (Set place answer) r wanted makes asks same settled shown =
    told_done before after (slice_get document.resources place) wanted answer makes (ap (wanted_at document) same ∙ asks) settled shown

-- ---- the last entry

-- this entry where it is the resource's
abbrev pub own_entry : Entry → ℕ → Option Entry
own_entry e r = cond (place_of e == r) (Some e) None

last_after : (e : Entry) (es : List Entry) (r : ℕ) → last_entry (e ∷ es) r ≡ option_or (last_entry es r) (own_entry e r)
last_after e es r = ap (find (λ x. place_of x == r)) (reverse-append (e ∷ []) es) ∙ find-append (λ x. place_of x == r) (reverse es) (e ∷ [])

or_none : {X : Type 0} (a b : Option X) → option_or a b ≡ None → (a ≡ None) × (b ≡ None)
or_none None b none = (refl, none)
or_none (Some x) b none = absurd (none-some x (sym none))

cond_none : {X : Type 0} (b : Bool) (x : X) → cond b (Some x) None ≡ None → b ≡ false
cond_none true x none = absurd (none-some x (sym none))
cond_none false x none = refl

own_settles : (b : Bool) (e : Entry) → settles (cond b (Some e) None) ≡ true → (b ≡ true) × (entry_settles e ≡ true)
own_settles true e settled = (refl, settled)
own_settles false e settled = absurd (false≢true settled)

-- ---- the trace

-- entries of other resources keep what holds of this one
pub rest_keeps : (document : Document) (before after : HostState) (trace : List Entry) (r : ℕ) (other : Wanted) → Apart document → wanted_at document r ≡ Some other
    → last_entry trace r ≡ None → True document before trace after → All (IsWhole document) trace → Holds before other → Holds after other
rest_keeps document before after [] r other apart asks none shown whole holds = subst (λ h. Holds h other) shown holds
rest_keeps document before after (e ∷ es) r other apart asks none shown whole holds =
    let parts = or_none (last_entry es r) (own_entry e r) (sym (last_after e es r) ∙ none) in
    let differ = eqb-false (place_of e) r (cond_none (place_of e == r) e parts.1) in
    let kept = entry_keeps document before shown.0 e r other apart asks differ
    (All-head (IsWhole document) e es whole) shown.1 holds in
    rest_keeps document shown.0 after es r other apart asks parts.0 shown.2 (All-tail (IsWhole document) e es whole) kept

-- the last entry of the resource is after this one, or it is this one
last_settles : (e : Entry) (es : List Entry) (r : ℕ) (last : Option Entry) → last_entry es r ≡ last → settles (option_or last (own_entry e r)) ≡ true
    → IsSettled es r ⊎ ((last_entry es r ≡ None) × (place_of e ≡ r) × (entry_settles e ≡ true))
last_settles e es r None is settled = let own = own_settles (place_of e == r) e settled in inr (is, eqb-true (place_of e) r own.0, own.1)
last_settles e es r (Some last) is settled = inl (ap settles is ∙ settled)

settled_hold : (document : Document) (before after : HostState) (trace : List Entry) (r : ℕ) (wanted : Wanted) → SetMakesHold → Apart document
    → True document before trace after → All (IsWhole document) trace
    → wanted_at document r ≡ Some wanted → IsSettled trace r → Holds after wanted
settled_hold document before after [] r wanted makes apart shown whole asks settled = absurd (false≢true settled)
settled_hold document before after (e ∷ es) r wanted makes apart shown whole asks settled =
    let es_whole = All-tail (IsWhole document) e es whole in
    elim (last_settles e es r (last_entry es r) refl (ap settles (sym (last_after e es r)) ∙ settled)) [
      | inl later ↦ settled_hold document shown.0 after es r wanted makes apart shown.2 es_whole asks later
      | inr here ↦ rest_keeps document shown.0 after es r wanted apart asks here.0 shown.2 es_whole
          (entry_holds document before shown.0 e r wanted makes asks here.1 here.2 shown.1)
    ]

pub together : SetMakesHold → SettledHold
together makes document before after trace r wanted keeps asks settled =
    settled_hold document before after trace r wanted makes keeps.apart keeps.is_true keeps.whole asks settled

yes_settles : (last : Option Entry) → is_yes last ≡ true → settles last ≡ true
yes_settles None passes = passes
yes_settles (Some (Tested place answer)) passes = passes
yes_settles (Some (Set place answer)) passes = absurd (false≢true passes)

pub succeeded : SetMakesHold → SucceededHold
succeeded makes document before after trace r wanted keeps asks passes =
    together makes document before after trace r wanted keeps asks (yes_settles (last_entry trace r) passes)

-- ---- resources that were not set

own_kept : (document : Document) (before after : HostState) (e : Entry) (es : List Entry) (r : ℕ) (other : Wanted) → place_of e ≡ r → (IsSetIn (e ∷ es) r → ⊥)
    → IsTrueEntry before document e after → Holds before other → Holds after other
own_kept document before after (Tested place answer) es r other same unset shown holds = subst (λ h. Holds h other) (sym shown.0) holds
own_kept document before after (Set place answer) es r other same unset shown holds = absurd (unset ([], answer, es, ap (λ (p : ℕ). Set p answer ∷ es) same))

stays_held : (document : Document) (before after : HostState) (trace : List Entry) (r : ℕ) (other : Wanted) → Apart document → True document before trace after
    → All (IsWhole document) trace → wanted_at document r ≡ Some other → (IsSetIn trace r → ⊥) → Holds before other → Holds after other
stays_held document before after [] r other apart shown whole asks unset holds = subst (λ h. Holds h other) shown holds
stays_held document before after (e ∷ es) r other apart shown whole asks unset holds =
    let kept : Holds shown.0 other = elim (cases_eq (place_of e) r) [
      | inl same ↦ own_kept document before shown.0 e es r other same unset shown.1 holds
      | inr differ ↦ entry_keeps document before shown.0 e r other apart asks differ (All-head (IsWhole document) e es whole) shown.1 holds
    ] in
    stays_held document shown.0 after es r other apart shown.2 (All-tail (IsWhole document) e es whole) asks
    (λ (front, answer, rest, is). unset (e ∷ front, answer, rest, ap (λ (l : List Entry). e ∷ l) is)) kept

pub unset_hold : UnsetHold
unset_hold document before after trace r wanted keeps asks unset holds =
    stays_held document before after trace r wanted keeps.apart keeps.is_true keeps.whole asks unset holds
