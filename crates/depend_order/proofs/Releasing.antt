-- Counts that are lowered one by one, and the places that get ready by it.
use Rattle.std.proofs.Common.{◌≡◌, ◌≢◌, inl, inr, ℕ, ◌+◌, ◌<◌, ◌≤◌, List, length, get_or, set, take, sym, ◌∙◌, ap, subst, arith, get_or-set_same, get_or-set_other}
use Rattle.std.proofs.lemmas.Bool.{cases_eq}
use Rattle.std.proofs.lemmas.List.Sums.{sum_by-take-le}
use Rattle.std.specs.Prelude.{slice_index}
use Rattle.depend_order.specs.Counts.{none_left, times}
use Rattle.depend_order.proofs.Adding.{times_more}
use Rattle.depend_order.proofs.Times.{none_is, none_not, one_if, one_other, one_same}

-- q is the dependent at i
module _ (dependents start waiting : List ℕ) (i q : ℕ) (lt : i < length dependents) (read : q ≡ get_or dependents i 0)
    (lowered : (r : ℕ) → slice_index waiting r + times r (take i dependents) ≡ slice_index start r)
    (enough : (r : ℕ) → times r dependents ≤ slice_index start r) where
  more : (r : ℕ) → times r (take (i + 1) dependents) ≡ times r (take i dependents) + one_if q r
  more r = times_more r dependents i 0 lt ∙ ap (λ (x : ℕ). times r (take i dependents) + one_if x r) (sym read)

  pub waits_here : 1 ≤ slice_index waiting q
  waits_here = omega (arith, lowered q, enough q, more q, one_same q, sum_by-take-le (λ x. one_if x q) dependents (i + 1))

  module _ (left : ℕ) (below : q < length waiting) (one_less : left + 1 ≡ slice_index waiting q) where
    here : slice_index (set waiting q left) q ≡ left
    here = get_or-set_same waiting q left 0 below

    elsewhere : (r : ℕ) → r ≢ q → slice_index (set waiting q left) r ≡ slice_index waiting r
    elsewhere r ne = get_or-set_other waiting q r left 0 ne

    pub lowered_more : (r : ℕ) → slice_index (set waiting q left) r + times r (take (i + 1) dependents) ≡ slice_index start r
    lowered_more r = elim (cases_eq r q) [
      | inl is ↦ subst (λ t. slice_index (set waiting q left) t + times t (take (i + 1) dependents) ≡ slice_index start t) (sym is)
          (omega (arith, here, one_less, lowered q, more q, one_same q))
      | inr ne ↦ omega (arith, elsewhere r ne, lowered r, more r, one_other q r (λ e. ne (sym e)))
    ]

    module _ (first ready : List ℕ) (so_far : (r : ℕ) → times r ready + none_left (slice_index start r) ≡ times r first + none_left (slice_index waiting r)) where
      -- the place is ready now
      pub readied : (now : List ℕ) → left ≡ 0 → ((r : ℕ) → times r now ≡ one_if q r + times r ready)
          → (r : ℕ) → times r now + none_left (slice_index start r) ≡ times r first + none_left (slice_index (set waiting q left) r)
      readied now none pushed r = elim (cases_eq r q) [
        | inl is ↦ subst (λ t. times t now + none_left (slice_index start t) ≡ times t first + none_left (slice_index (set waiting q left) t)) (sym is)
            (omega (arith, pushed q, one_same q, so_far q, none_not (slice_index waiting q) waits_here, none_is (slice_index (set waiting q left) q) (here ∙ none)))
        | inr ne ↦ omega (arith, pushed r, one_other q r (λ e. ne (sym e)), so_far r, ap none_left (elsewhere r ne))
      ]

      -- the place still waits
      pub not_readied : 1 ≤ left → (r : ℕ) → times r ready + none_left (slice_index start r) ≡ times r first + none_left (slice_index (set waiting q left) r)
      not_readied some r = elim (cases_eq r q) [
        | inl is ↦ subst (λ t. times t ready + none_left (slice_index start t) ≡ times t first + none_left (slice_index (set waiting q left) t)) (sym is)
            (omega (arith, so_far q, none_not (slice_index waiting q) waits_here, none_not (slice_index (set waiting q left) q) (omega (arith, here, some))))
        | inr ne ↦ omega (arith, so_far r, ap none_left (elsewhere r ne))
      ]

-- the places that wait for none, one after another
module _ (waiting ready : List ℕ) (i : ℕ) (passed : (r : ℕ) → r < i → times r ready ≡ none_left (slice_index waiting r)) (after : (r : ℕ) → i ≤ r → times r ready ≡ 0) where
  pub passed_ready : (now : List ℕ) → slice_index waiting i ≡ 0 → ((r : ℕ) → times r now ≡ one_if i r + times r ready) → (r : ℕ) → r < i + 1 → times r now ≡ none_left (slice_index waiting r)
  passed_ready now none pushed r lt = elim (cases_eq r i) [
    | inl is ↦ subst (λ t. times t now ≡ none_left (slice_index waiting t)) (sym is)
        (omega (arith, pushed i, one_same i, after i (omega arith), none_is (slice_index waiting i) none))
    | inr ne ↦ omega (arith, pushed r, one_other i r (λ e. ne (sym e)), passed r (omega (arith, lt, ne)))
  ]

  pub after_ready : (now : List ℕ) → ((r : ℕ) → times r now ≡ one_if i r + times r ready) → (r : ℕ) → i + 1 ≤ r → times r now ≡ 0
  after_ready now pushed r past = omega (arith, pushed r, one_other i r (λ e. omega (arith, e, past)), after r (omega (arith, past)))

  pub passed_waiting : 1 ≤ slice_index waiting i → (r : ℕ) → r < i + 1 → times r ready ≡ none_left (slice_index waiting r)
  passed_waiting some r lt = elim (cases_eq r i) [
    | inl is ↦ subst (λ t. times t ready ≡ none_left (slice_index waiting t)) (sym is)
        (omega (arith, after i (omega arith), none_not (slice_index waiting i) some))
    | inr ne ↦ passed r (omega (arith, lt, ne))
  ]
