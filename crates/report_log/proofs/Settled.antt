-- Marks of a trace in which no last entry leaves its resource unsettled.
use Rattle.std.proofs.Common.{◌≡◌, ◌==◌, ◌<◌, ◌-◌, ℕ, Bool, true, false, List, [], ◌∷◌, Option, Some, None, All, cond, length, refl, sym, ◌∙◌, subst, arith}
use Rattle.std.specs.Prelude.{count_by, find, reverse}
use Rattle.std.specs.List.{AllByRecursion}
use Rattle.std.proofs.lemmas.List.{get_or-reverse, length-reverse}
use Rattle.std.proofs.lemmas.List.Elements.{recursion_from_All}
use Rattle.dsc_terms.specs.Lists.{places_below}
use Rattle.dsc_document.specs.declared.document.Document.{Document}
use Rattle.resource_kinds.specs.declared.entry.TestAnswer.TheVariants as tests
use Rattle.resource_kinds.specs.declared.entry.SetAnswer.TheVariants as sets
use Rattle.resource_kinds.specs.declared.entry.Entry.{Entry}
use Rattle.resource_kinds.specs.declared.entry.Entry.TheVariants.{Tested, Set}
use Rattle.resource_kinds.specs.Trace.{WantsMemory, has_succeeded, is_yes, last_entry, missed_count, place_of}
use Rattle.resource_kinds.proofs.Marks.{count_mapped, get_or-marks, length-marks}
use Rattle.report_log.specs.declared.marks.Mark.TheVariants as marks
use Rattle.report_log.specs.Marks.{is_success, mark_of, marks_of}
use Rattle.report_log.specs.Report.{HasNoUntestedSet}

-- ---- what holds of each entry holds of a last one

found_here : {A : Type 0} (P : A → Type 0) (b : Bool) (y x : A) (rest : Option A) → P y → (rest ≡ Some x → P x) → cond b (Some y) rest ≡ Some x → P x
found_here {A} P true y x rest holds later is =
    let same : y ≡ x = cc in
    subst P same holds
found_here P false y x rest holds later is = later is

found_holds : {A : Type 0} (P : A → Type 0) (p : A → Bool) (xs : List A) (x : A) → AllByRecursion P xs → find p xs ≡ Some x → P x
found_holds P p [] x all e = absurd cc
found_holds P p (y ∷ ys) x all e = found_here P (p y) y x (find p ys) all.0 (found_holds P p ys x all.1) e

all_reversed : {A : Type 0} (P : A → Type 0) (xs : List A) → All P xs → All P (reverse xs)
all_reversed P xs all k d lt =
    let within : k < length xs = omega (arith, lt, length-reverse xs) in
    subst P (sym (get_or-reverse xs k d within)) (all (length xs - 1 - k) d (omega (arith, within)))

last_holds : (P : Entry → Type 0) (t : List Entry) (r : ℕ) (e : Entry) → All P t → last_entry t r ≡ Some e → P e
last_holds P t r e all is = found_holds P (λ x. place_of x == r) (reverse t) e (recursion_from_All P (reverse t) (all_reversed P t all)) is

-- ---- marks

module _ (document : Document) (t : List Entry) (memory : All (λ e. WantsMemory e → ⊥) t) (done : HasNoUntestedSet document t) where
  settled_entry : (r : ℕ) → r < length document.resources → (o : Option Entry) → last_entry t r ≡ o → mark_of o ≡ marks.Unsettled → ⊥
  settled_entry r below None is mark = cc
  settled_entry r below (Some (Tested place tests.Yes)) is mark = cc
  settled_entry r below (Some (Tested place tests.No)) is mark = cc
  settled_entry r below (Some (Tested place (tests.Fault failure))) is mark = cc
  settled_entry r below (Some (Tested place tests.Memory)) is mark = last_holds (λ e. WantsMemory e → ⊥) t r (Tested place tests.Memory) memory is refl
  settled_entry r below (Some (Set place sets.Done)) is mark = done r place below is
  settled_entry r below (Some (Set place sets.Reboot)) is mark = cc
  settled_entry r below (Some (Set place (sets.Fault failure))) is mark = cc
  settled_entry r below (Some (Set place sets.Memory)) is mark = last_holds (λ e. WantsMemory e → ⊥) t r (Set place sets.Memory) memory is refl

  pub settled : (r : ℕ) → r < length document.resources → mark_of (last_entry t r) ≡ marks.Unsettled → ⊥
  settled r below = settled_entry r below (last_entry t r) refl

  pub all_settled : All (λ mark. mark ≡ marks.Unsettled → ⊥) (marks_of t (length document.resources))
  all_settled k d lt is =
      let below : k < length document.resources = omega (arith, lt, length-marks mark_of t (length document.resources)) in
      settled k below (sym (get_or-marks mark_of t (length document.resources) k d below) ∙ is)

-- ---- counting

success_is_yes : (o : Option Entry) → is_success (mark_of o) ≡ is_yes o
success_is_yes None = refl
success_is_yes (Some (Tested place tests.Yes)) = refl
success_is_yes (Some (Tested place tests.No)) = refl
success_is_yes (Some (Tested place (tests.Fault failure))) = refl
success_is_yes (Some (Tested place tests.Memory)) = refl
success_is_yes (Some (Set place sets.Done)) = refl
success_is_yes (Some (Set place sets.Reboot)) = refl
success_is_yes (Some (Set place (sets.Fault failure))) = refl
success_is_yes (Some (Set place sets.Memory)) = refl

pub missed_by_marks : (document : Document) (t : List Entry)
    → let marked = marks_of t (length document.resources) in length marked - count_by is_success marked ≡ missed_count document t
missed_by_marks document t =
    let n = length document.resources in
    let good : count_by is_success (marks_of t n) ≡ count_by (has_succeeded t) (places_below n) =
    count_mapped is_success (λ (r : ℕ). mark_of (last_entry t r)) (places_below n)
    ∙ (λ i. count_by (λ (r : ℕ). success_is_yes (last_entry t r) i) (places_below n)) in
    omega (arith, good, length-marks mark_of t n)
