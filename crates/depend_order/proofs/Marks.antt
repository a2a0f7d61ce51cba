-- Marks that are set exactly for the places of a list.
use Rattle.std.proofs.Common.{◌≡◌, ◌⊎◌, inl, inr, ℕ, ◌<◌, Bool, true, false, not, cond, List, [], ◌∷◌, ◌++◌, length, get_or, set, replicate, sym, ◌∙◌, subst, arith, length-set, get_or-set_same, get_or-set_other}
use Rattle.std.proofs.lemmas.Bool.{cases_eq, cases_lt, false_from_ne_true, false≢true}
use Rattle.std.proofs.lemmas.List.{get_or_past, length-replicate, get_or-replicate}
use Rattle.std.proofs.lemmas.List.Elements.{Contains-append_left, Contains-push_cases, Contains-push}
use Rattle.std.proofs.lemmas.List.Sums.{sum_by-set}
use Rattle.std.specs.List.{count_by}
use Rattle.std.specs.Prelude.{Contains, slice_index_or}

-- the mark of q is set
abbrev pub IsMarked : List Bool → ℕ → Type 0
IsMarked marks q = slice_index_or marks q false ≡ true

pub record IsMarking (count : ℕ) (list : List ℕ) (marks : List Bool) : Type 0 where
  pub size : length marks ≡ count
  pub marked : (q : ℕ) → Contains list q → IsMarked marks q
  pub listed : (q : ℕ) → IsMarked marks q → Contains list q

pub marked_within : (marks : List Bool) (q : ℕ) → IsMarked marks q → q < length marks
marked_within marks q marked = elim (cases_lt q (length marks)) [
  | inl lt ↦ lt
  | inr past ↦ absurd (false≢true (sym (get_or_past marks q false past) ∙ marked))
]

pub unmarked_replicate : (n q : ℕ) → IsMarked (replicate n false) q → ⊥
unmarked_replicate n q marked =
    let lt : q < n = omega (arith, marked_within (replicate n false) q marked, length-replicate n false) in
    false≢true (sym (get_or-replicate n q false false lt) ∙ marked)

pub marking_none : (count : ℕ) → IsMarking count [] (replicate count false)
marking_none count = record {
  size = length-replicate count false;
  marked = λ q has. absurd (omega (arith, has.1));
  listed = λ q marked. absurd (unmarked_replicate count q marked);
}

module _ (marks : List Bool) (r : ℕ) (lt : r < length marks) where
  pub marked_same : IsMarked (set marks r true) r
  marked_same = get_or-set_same marks r true false lt

  pub marked_kept : (q : ℕ) → IsMarked marks q → IsMarked (set marks r true) q
  marked_kept q marked = elim (cases_eq q r) [
    | inl same ↦ subst (λ (t : ℕ). IsMarked (set marks r true) t) (sym same) marked_same
    | inr other ↦ get_or-set_other marks r q true false other ∙ marked
  ]

  pub marked_before : (q : ℕ) → IsMarked (set marks r true) q → IsMarked marks q ⊎ (r ≡ q)
  marked_before q marked = elim (cases_eq q r) [
    | inl same ↦ inr (sym same)
    | inr other ↦ inl (sym (get_or-set_other marks r q true false other) ∙ marked)
  ]

  -- one place fewer is without a mark
  pub fewer_unmarked : (IsMarked marks r → ⊥) → count_by not (set marks r true) < count_by not marks
  fewer_unmarked unmarked =
      let off : get_or marks r false ≡ false = false_from_ne_true (get_or marks r false) unmarked in
      let sums = sum_by-set (λ b. cond (not b) 1 0) marks r true false lt in
      omega (arith, rw off at sums)

pub marking_push : (count : ℕ) (list : List ℕ) (marks : List Bool) (r : ℕ) → r < count → IsMarking count list marks → IsMarking count (list ++ r ∷ []) (set marks r true)
marking_push count list marks r lt marking =
    let within : r < length marks = omega (arith, marking.size) in
    record {
      size = length-set marks r true ∙ marking.size;
      marked = λ q has. elim (Contains-push_cases list r q has) [
        | inl there ↦ marked_kept marks r within q (marking.marked q there)
        | inr here ↦ subst (λ (t : ℕ). IsMarked (set marks r true) t) here (marked_same marks r within)
      ];
      listed = λ q marked. elim (marked_before marks r within q marked) [
        | inl before ↦ Contains-append_left list (r ∷ []) q (marking.listed q before)
        | inr same ↦ subst (λ (t : ℕ). Contains (list ++ r ∷ []) t) same (Contains-push list r)
      ];
    }
