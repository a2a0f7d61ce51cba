-- What a report lists, by the marks of its trace.
use Rattle.std.proofs.Common.{◌≡◌, ◌⊎◌, inl, inr, ◌<◌, ◌≤◌, ◌+◌, ◌↔◌, ℕ, zero, suc, Bool, true, false, not, List, [], ◌∷◌, ◌++◌, Option, Some, None, IsTrue, IsSomeAnd, filter, filter_map, length, map, get_or, option_map, slice_get, take, refl, sym, ◌∙◌, ap, subst, arith}
use Rattle.std.specs.List.{AllZip}
use Rattle.std.proofs.lemmas.List.{get_or-map}
use Rattle.std.proofs.lemmas.Option.{slice_get_cases}
use Rattle.std.proofs.lemmas.Slice.Zip.{all_zipped_more}
use Rattle.dsc_terms.specs.Lists.{places_below}
use Rattle.dsc_document.specs.declared.document.Document.{Document}
use Rattle.dsc_document.specs.declared.document.Resource.{Resource}
use Rattle.resource_kinds.specs.declared.entry.TestAnswer.TheVariants as tests
use Rattle.resource_kinds.specs.declared.entry.SetAnswer.TheVariants as sets
use Rattle.resource_kinds.specs.declared.entry.Entry.{Entry}
use Rattle.resource_kinds.specs.declared.entry.Entry.TheVariants.{Tested, Set}
use Rattle.resource_kinds.specs.Trace.{EndsInReboot, has_succeeded, is_yes, last_entry}
use Rattle.resource_kinds.proofs.Marks.{get_or-marks, length-marks}
use Rattle.report_log.proofs.Grown.{filter_none, filter_one, made_none, made_one}
use Rattle.report_log.specs.declared.marks.Mark.TheVariants as marks
use Rattle.report_log.specs.declared.report.Missed.{Missed}
use Rattle.report_log.specs.declared.report.Reason.{Reason}
use Rattle.report_log.specs.Marks.{listed_at, listed_of, mark_of, marks_of, reason_of}
use Rattle.report_log.specs.Report.{IsMissed, IsReason, missed_places}
use Rattle.report_log.specs.declared.limits.TheConstants.{LISTED_LIMIT}

-- ---- lists

all_zipped_take : {A B : Type 0} (R : A → B → Type 0) (n : ℕ) (xs : List A) (ys : List B) → AllZip R xs ys → AllZip R (take n xs) (take n ys)
all_zipped_take R zero xs ys all = tt
all_zipped_take R (suc n) [] [] all = tt
all_zipped_take R (suc n) [] (y ∷ ys) all = absurd all
all_zipped_take R (suc n) (x ∷ xs) [] all = absurd all
all_zipped_take R (suc n) (x ∷ xs) (y ∷ ys) all = (all.0, all_zipped_take R n xs ys all.1)

-- ---- reasons

-- a resource succeeded and has no reason, or did not and has its reason
abbrev Told : List Entry → Bool → Option Entry → Type 0
Told t rebooting o =
    ((is_yes o ≡ true) × (reason_of rebooting (mark_of o) ≡ None))
    ⊎ ((is_yes o ≡ false) × ((reason : Reason) × (reason_of rebooting (mark_of o) ≡ Some reason) × IsReason t o reason))

told : (t : List Entry) (rebooting : Bool) → (IsTrue rebooting ↔ EndsInReboot t) → (o : Option Entry) → (mark_of o ≡ marks.Unsettled → ⊥) → Told t rebooting o
told t true says None settled = inr (refl, (_, refl, inl (says.0 refl, refl)))
told t false says None settled =
    inr (
      refl,
      (
        _,
        refl,
        inr (
          λ ends.
              let no = says.1 ends in
              absurd cc,
          refl,
        ),
      ),
    )
told t rebooting says (Some (Tested place tests.Yes)) settled = inl (refl, refl)
told t rebooting says (Some (Tested place tests.No)) settled = inr (refl, (_, refl, refl))
told t rebooting says (Some (Tested place (tests.Fault failure))) settled = inr (refl, (_, refl, refl))
told t rebooting says (Some (Tested place tests.Memory)) settled = absurd (settled refl)
told t rebooting says (Some (Set place sets.Done)) settled = absurd (settled refl)
told t rebooting says (Some (Set place sets.Reboot)) settled = inr (refl, (_, refl, refl))
told t rebooting says (Some (Set place (sets.Fault failure))) settled = inr (refl, (_, refl, refl))
told t rebooting says (Some (Set place sets.Memory)) settled = absurd (settled refl)

-- ---- the list

abbrev pub ids_of : Document → List (List ℕ)
ids_of document = map (λ (resource : Resource). resource.id) document.resources

module _ (document : Document) (t : List Entry) (rebooting : Bool) (says : IsTrue rebooting ↔ EndsInReboot t)
    (settled : (r : ℕ) → r < length document.resources → mark_of (last_entry t r) ≡ marks.Unsettled → ⊥) where
  abbrev count : ℕ
  count = length document.resources

  abbrev lists : ℕ → Option Missed
  lists = listed_at rebooting (ids_of document) (marks_of t count)

  abbrev is_missed : ℕ → Bool
  is_missed r = not (has_succeeded t r)

  id_here : (r : ℕ) → r < count → IsSomeAnd (slice_get document.resources r) (λ resource. get_or (ids_of document) r [] ≡ resource.id)
  id_here r below = elim (slice_get_cases document.resources r).1 [
    | inl here ↦
        subst (λ o. IsSomeAnd o (λ (resource : Resource). get_or (ids_of document) r [] ≡ resource.id)) (sym here.2)
        (get_or-map (λ (resource : Resource). resource.id) document.resources r here.0 [] below ∙ ap (λ (resource : Resource). resource.id) here.3)
    | inr past ↦ absurd (omega (arith, below, past.0))
  ]

  reason_here : (r : ℕ) → r < count → reason_of rebooting (get_or (marks_of t count) r marks.NotCalled) ≡ reason_of rebooting (mark_of (last_entry t r))
  reason_here r below = ap (reason_of rebooting) (get_or-marks mark_of t count r marks.NotCalled below)

  abbrev Listed : ℕ → Type 0
  Listed k = AllZip (IsMissed document t) (filter is_missed (places_below k)) (filter_map lists (places_below k))

  abbrev missed_at : ℕ → Reason → Missed
  missed_at r reason = record { id = get_or (ids_of document) r []; reason = reason }

  one_more : (k : ℕ) → k < count → Listed k → Listed (suc k)
  one_more k below before = elim (told t rebooting says (last_entry t k) (settled k below)) [
    | inl good ↦
        subst (λ (l : List ℕ). AllZip (IsMissed document t) l (filter_map lists (places_below (suc k)))) (sym (filter_none is_missed (places_below k) k (ap not good.0)))
        (subst (λ (l : List Missed). AllZip (IsMissed document t) (filter is_missed (places_below k)) l)
        (sym (made_none lists (places_below k) k (ap (option_map (missed_at k)) (reason_here k below ∙ good.1)))) before)
    | inr bad ↦
        let missed = missed_at k bad.1.0 in
        subst (λ (l : List ℕ). AllZip (IsMissed document t) l (filter_map lists (places_below (suc k)))) (sym (filter_one is_missed (places_below k) k (ap not bad.0)))
        (subst (λ (l : List Missed). AllZip (IsMissed document t) (filter is_missed (places_below k) ++ k ∷ []) l)
        (sym (made_one lists (places_below k) k missed (ap (option_map (missed_at k)) (reason_here k below ∙ bad.1.1))))
        (all_zipped_more (IsMissed document t) (filter is_missed (places_below k)) (filter_map lists (places_below k)) k missed before (record {
          id = id_here k below;
          reason = bad.1.2;
        })))
  ]

  listed_below : (k : ℕ) → k ≤ count → Listed k
  listed_below zero le = tt
  listed_below (suc k) le = one_more k (omega (arith, le)) (listed_below k (omega (arith, le)))

  pub listed_first : AllZip (IsMissed document t) (take LISTED_LIMIT (missed_places document t)) (listed_of rebooting (ids_of document) (marks_of t count))
  listed_first =
      rw (length-marks mark_of t count) (all_zipped_take (IsMissed document t) LISTED_LIMIT (filter is_missed (places_below count)) (filter_map lists (places_below count)) (listed_below count (omega arith)))
