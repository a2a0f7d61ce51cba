-- Resources that meet one before them.
use Rattle.std.proofs.Common.{◌≡◌, inl, inr, ◌↔◌, ℕ, ◌+◌, ◌<◌, ◌≤◌, List, length, get_or, option_and_then, Bool, false, IsTrue, Option, Some, None, refl, sym, ap, subst, ◌∙◌, arith}
use Rattle.std.specs.Option.{option_map}
use Rattle.std.specs.Result.{result_ok}
use Rattle.std.proofs.lemmas.Bool.{both_ways, cases_eq, cases_lt}
use Rattle.std.proofs.lemmas.Option.{none-some, same_Some, slice_get_past, slice_get_read}
use Rattle.dsc_document.specs.declared.document.Document.{Document}
use Rattle.dsc_document.specs.declared.document.Resource.{Resource}
use Rattle.resource_kinds.specs.declared.wanted.Wanted.{Wanted}
use Rattle.resource_kinds.specs.Apart.{Apart, Matter, MattersMeet, MeetsEarlier, matter_of, wanted_at}
use Rattle.resource_kinds.specs.Subjects.{AsksMeeting}
use Rattle.resource_kinds.specs.Wanted.{wanted_of}

abbrev asks : Resource → Option Wanted
asks resource = result_ok (wanted_of resource)

meeting : (asked : Option Wanted) (matter : Matter) → AsksMeeting asked matter → (a : Wanted) × (asked ≡ Some a) × MattersMeet (matter_of a) matter
meeting None matter meets = absurd meets
meeting (Some a) matter meets = (a, refl, meets)

matter_asked : (asked : Option Wanted) (known : Option Matter) (matter : Matter) → known ≡ Some matter → known ≡ option_map matter_of asked → (b : Wanted) × (asked ≡ Some b) × (matter ≡ matter_of b)
matter_asked None known matter is shown = absurd (none-some matter (sym shown ∙ is))
matter_asked (Some b) known matter is shown = (b, refl, same_Some matter (matter_of b) (sym is ∙ shown))

module _ (document : Document) (resources : List Resource) (are : resources ≡ document.resources) where
  asked_here : (k : ℕ) (x : Resource) → k < length document.resources → x ≡ get_or resources k x → wanted_at document k ≡ asks x
  asked_here k x within is =
      ap (option_and_then asks) (slice_get_read document.resources (length document.resources) k x refl within (is ∙ ap (λ xs. get_or xs k x) are))

  asked_within : (k : ℕ) (wanted : Wanted) → wanted_at document k ≡ Some wanted → k < length document.resources
  asked_within k wanted is = elim (cases_lt k (length document.resources)) [
    | inl within ↦ within
    | inr past ↦ absurd (none-some wanted (sym (ap (option_and_then asks) (slice_get_past document.resources k past)) ∙ is))
  ]

  -- one more resource before it does not meet it
  pub none_more : (first second : ℕ) (x : Resource) (matter : Matter) (met : Bool) → first < second → second < length document.resources → x ≡ get_or resources first x
      → IsTrue met ↔ AsksMeeting (asks x) matter → met ≡ false → ((k : ℕ) → k < first → AsksMeeting (wanted_at document k) matter → ⊥)
      → (k : ℕ) → k < first + 1 → AsksMeeting (wanted_at document k) matter → ⊥
  none_more first second x matter met before within is answers unmet so_far k below meets = elim (cases_eq k first) [
    | inl same ↦ both_ways met unmet (answers.1 (subst (λ asked. AsksMeeting asked matter) (ap (wanted_at document) same ∙ asked_here first x (omega (arith, before, within)) is) meets))
    | inr other ↦ so_far k (omega (arith, below, other)) meets
  ]

  module _ (second : ℕ) (y : Resource) (within : second < length document.resources) (at : y ≡ get_or resources second y)
      (known : Option Matter) (matter : Matter) (is : known ≡ Some matter) (shown : known ≡ option_map matter_of (asks y)) where
    own : (b : Wanted) × (asks y ≡ Some b) × (matter ≡ matter_of b)
    own = matter_asked (asks y) known matter is shown

    pub meets_here : (first : ℕ) (x : Resource) → first < second → x ≡ get_or resources first x → AsksMeeting (asks x) matter → MeetsEarlier document second
    meets_here first x before here meets =
        let other = meeting (asks x) matter meets in
        record {
          first = first;
          before = before;
          a = other.0;
          b = own.0;
          asks_first = asked_here first x (omega (arith, before, within)) here ∙ other.1;
          asks_second = asked_here second y within at ∙ own.1;
          meet = subst (λ m. MattersMeet (matter_of other.0) m) own.2 other.2;
        }

    pub meets_none : (far : ℕ) → second ≤ far → ((k : ℕ) → k < far → AsksMeeting (wanted_at document k) matter → ⊥) → MeetsEarlier document second → ⊥
    meets_none far all none earlier =
        let same : own.0 ≡ earlier.b = same_Some own.0 earlier.b (sym own.1 ∙ sym (asked_here second y within at) ∙ earlier.asks_second) in
        none earlier.first (omega (arith, earlier.before, all))
        (subst (λ asked. AsksMeeting asked matter) (sym earlier.asks_first)
        (subst (λ m. MattersMeet (matter_of earlier.a) m) (sym (own.2 ∙ ap matter_of same)) earlier.meet))

  pub all_apart : (far : ℕ) → length document.resources ≤ far → ((k : ℕ) → k < far → MeetsEarlier document k → ⊥) → Apart document
  all_apart far all none first second a b before asks_first asks_second meet =
      let within = asked_within second b asks_second in
      none second (omega (arith, within, all))
      (record { first = first; before = before; a = a; b = b; asks_first = asks_first; asks_second = asks_second; meet = meet })
