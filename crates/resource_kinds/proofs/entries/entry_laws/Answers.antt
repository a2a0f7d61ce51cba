use Rattle.std.proofs.Common.{◌≡◌, ◌⊎◌, inl, inr, ℕ, true, not, List, [], ◌∷◌, ◌++◌, ◌<◌, length, get_or, Option, Some, None, unwrap_or, refl, sym, ◌∙◌, ap, subst, arith, All, Contains}
use Rattle.std.proofs.lemmas.Bool.{cases_Bool, false≢true, not_from_true, not_from_false}
use Rattle.std.proofs.lemmas.List.{append-nil}
use Rattle.std.proofs.lemmas.List.Elements.{All-contains, All-filter, filter_passes, Contains-get_or, Contains-append_left, Contains-append_right}
use Rattle.resource_kinds.specs.Entries.{entries, entries_of, joined, is_filled, wanted_entries, HasEntries, LacksEntries, is_among, each_once, missing_entries, appended, with_entries, kept_entries, variable_with, without_entries}
use Rattle.resource_kinds.proofs.EntryLists.{IsPiece, entries-append, entries-pieces, entries-joined, cons_cases, Contains-filter, filter-none, among-Contains, Contains-among, Contains-each_once, All-each_once}
use Rattle.resource_kinds.proofs.entries.entry_laws.Goals as goal

-- ---- Present

missing-pieces : (old : Option (List ℕ)) (value : List ℕ) → All IsPiece (missing_entries old value)
missing-pieces old value =
    All-each_once IsPiece _ (All-filter (λ e. not (is_among (entries_of old) e)) IsPiece (wanted_entries value) (All-filter is_filled IsPiece (entries value) (entries-pieces value)))

-- a wanted entry is among the variable's, or missing
there_or_missing : (old : Option (List ℕ)) (value entry : List ℕ) → Contains (wanted_entries value) entry
    → Contains (entries_of old) entry ⊎ Contains (missing_entries old value) entry
there_or_missing old value entry wanted = elim (cases_Bool (is_among (entries_of old) entry)) [
  | inl there ↦ inl (among-Contains (entries_of old) entry there)
  | inr other ↦ inr (Contains-each_once _ entry (Contains-filter (λ e. not (is_among (entries_of old) e)) (wanted_entries value) entry wanted (not_from_false _ other)))
]

-- what is appended to a value that is not empty stands after its own entries
entries-appended : (b : ℕ) (bs : List ℕ) (more : List (List ℕ)) → All IsPiece more → entries (appended (b ∷ bs) more) ≡ entries (b ∷ bs) ++ more
entries-appended b bs [] pieces = sym (append-nil (entries (b ∷ bs)))
entries-appended b bs (m ∷ ms) pieces =
    entries-append (b ∷ bs) (joined (m ∷ ms)) ∙ ap (λ (l : List (List ℕ)). entries (b ∷ bs) ++ l) (entries-joined m ms pieces)

-- a filled entry of a value or of what is appended is one of both together
appended-Contains : (value : List ℕ) (more : List (List ℕ)) (entry : List ℕ) → All IsPiece more → is_filled entry ≡ true
    → Contains (entries value) entry ⊎ Contains more entry → Contains (entries (appended value more)) entry
appended-Contains [] more entry pieces filled (inl here) = elim (cons_cases [] [] entry here) [
  | inl same ↦ absurd (false≢true (ap is_filled same ∙ filled))
  | inr none ↦ absurd (omega (arith, none.1))
]
appended-Contains [] [] entry pieces filled (inr there) = absurd (omega (arith, there.1))
appended-Contains [] (m ∷ ms) entry pieces filled (inr there) =
    subst (λ (l : List (List ℕ)). Contains l entry) (sym (entries-joined m ms pieces)) there
appended-Contains (b ∷ bs) more entry pieces filled where_it_is =
    subst (λ (l : List (List ℕ)). Contains l entry) (sym (entries-appended b bs more pieces)) (elim where_it_is [
      | inl here ↦ Contains-append_left (entries (b ∷ bs)) more entry here
      | inr there ↦ Contains-append_right (entries (b ∷ bs)) more entry there
    ])

added : (old value : List ℕ) → 0 < length old → entries_of (with_entries (Some old) value) ≡ entries old ++ missing_entries (Some old) value
added [] value some = absurd (omega arith)
added (b ∷ bs) value some = entries-appended b bs (missing_entries (Some (b ∷ bs)) value) (missing-pieces (Some (b ∷ bs)) value)

of_value : (old : Option (List ℕ)) (more : List (List ℕ)) (entry : List ℕ) → Contains (entries_of old) entry ⊎ Contains more entry
    → Contains (entries (unwrap_or old [])) entry ⊎ Contains more entry
of_value None more entry (inl here) = absurd (omega (arith, here.1))
of_value None more entry (inr there) = inr there
of_value (Some value) more entry either = either

present : (old : Option (List ℕ)) (value : List ℕ) → HasEntries (with_entries old value) value
present old value = λ k d lt.
    let entry = get_or (wanted_entries value) k d in
    let wanted = Contains-get_or (wanted_entries value) k d lt in
    let filled = All-contains (λ e. is_filled e ≡ true) (wanted_entries value) entry (filter_passes is_filled (entries value)) wanted in
    appended-Contains (unwrap_or old []) (missing_entries old value) entry (missing-pieces old value) filled
    (of_value old (missing_entries old value) entry (there_or_missing old value entry wanted))

appended-none : (value : List ℕ) → appended value [] ≡ value
appended-none [] = refl
appended-none (b ∷ bs) = refl

entries_unchanged : (old value : List ℕ) → HasEntries (Some old) value → with_entries (Some old) value ≡ Some old
entries_unchanged old value has =
    let none = filter-none (λ e. not (is_among (entries old) e)) (wanted_entries value) (λ k d lt. not_from_true _ (Contains-among (entries old) _ (has k d lt))) in
    ap (λ (l : List (List ℕ)). Some (appended old (each_once l))) none ∙ ap Some (appended-none old)

-- ---- Absent

entries_of_variable : (pieces : List (List ℕ)) → All IsPiece pieces → entries_of (variable_with pieces) ≡ pieces
entries_of_variable [] all = refl
entries_of_variable (piece ∷ pieces) all = entries-joined piece pieces all

kept : (old value : List ℕ) → entries_of (without_entries (Some old) value) ≡ kept_entries old value
kept old value = entries_of_variable (kept_entries old value) (All-filter (λ e. not (is_among (wanted_entries value) e)) IsPiece (entries old) (entries-pieces old))

absent : (old : Option (List ℕ)) (value : List ℕ) → LacksEntries (without_entries old value) value
absent None value = λ k d lt has. absurd (omega (arith, has.1))
absent (Some old) value = λ k d lt has.
    let entry = get_or (wanted_entries value) k d in
    let wanted = Contains-among (wanted_entries value) entry (Contains-get_or (wanted_entries value) k d lt) in
    let stays = subst (λ (l : List (List ℕ)). Contains l entry) (kept old value) has in
    let passes = All-contains (λ e. not (is_among (wanted_entries value) e) ≡ true) (kept_entries old value) entry (filter_passes (λ e. not (is_among (wanted_entries value) e)) (entries old)) stays in
    false≢true (sym (not_from_true _ wanted) ∙ passes)

pub returns : goal.returns
returns c = record {
  present = present;
  absent = absent;
  added = added;
  stays = entries_unchanged;
  kept = kept;
}
