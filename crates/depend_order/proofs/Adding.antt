-- Lists of the places that depend on each place, as a place is added to some of them.
use Rattle.std.proofs.Common.{◌≡◌, ◌≢◌, inl, inr, ℕ, ◌+◌, ◌<◌, ◌≤◌, List, [], ◌∷◌, ◌++◌, Some, length, get_or, set, take, sym, ◌∙◌, ap, subst, arith, length-set, length-take, get_or-set_same, get_or-set_other}
use Rattle.std.proofs.lemmas.Bool.{cases_eq, cases_lt}
use Rattle.std.proofs.lemmas.List.{get_or-take}
use Rattle.std.proofs.lemmas.List.Sums.{sum_by_more}
use Rattle.std.proofs.lemmas.Option.{slice_get-get_or, slice_get_past}
use Rattle.std.specs.Global.{Vec}
use Rattle.std.specs.Option.{option_map_or}
use Rattle.std.specs.Prelude.{slice_get}
use Rattle.depend_order.specs.Counts.{times}
use Rattle.depend_order.specs.Numbers.{numbers_of}
use Rattle.depend_order.proofs.NumberLemmas.{numbers_at, numbers_of_read}
use Rattle.depend_order.proofs.Placing.{numbers_past}
use Rattle.depend_order.proofs.Times.{one_if, one_other, one_same, times_push}

-- numbers of lists that have the same one at a place
numbers_same : (lists others : List (Vec ℕ)) (q : ℕ) → slice_get lists q ≡ slice_get others q → numbers_of lists q ≡ numbers_of others q
numbers_same lists others q same = ap (λ o. option_map_or (λ v. v.items) o []) same

pub times_more : (q : ℕ) (numbers : List ℕ) (i d : ℕ) → i < length numbers → times q (take (i + 1) numbers) ≡ times q (take i numbers) + one_if (get_or numbers i d) q
times_more q numbers i d lt = sum_by_more (λ x. one_if x q) numbers i d lt

-- the place is added to the list at n
module _ (lists : List (Vec ℕ)) (n place : ℕ) (new : Vec ℕ) (lt : n < length lists) (pushed : new.items ≡ numbers_of lists n ++ place ∷ []) where
  at_n : numbers_of (set lists n new) n ≡ numbers_of lists n ++ place ∷ []
  at_n =
      numbers_at (set lists n new) n new
      (slice_get-get_or (set lists n new) n new (omega (arith, lt, length-set lists n new)) ∙ ap Some (get_or-set_same lists n new new lt)) ∙ pushed

  elsewhere : (q : ℕ) → q ≢ n → numbers_of (set lists n new) q ≡ numbers_of lists q
  elsewhere q ne = numbers_same (set lists n new) lists q (elim (cases_lt q (length lists)) [
    | inl within ↦
        slice_get-get_or (set lists n new) q new (omega (arith, within, length-set lists n new))
        ∙ ap Some (get_or-set_other lists n q new new ne) ∙ sym (slice_get-get_or lists q new within)
    | inr past ↦ slice_get_past (set lists n new) q (omega (arith, past, length-set lists n new)) ∙ sym (slice_get_past lists q past)
  ])

  pub adds : (q : ℕ) → times place (numbers_of (set lists n new) q) ≡ times place (numbers_of lists q) + one_if n q
  adds q = elim (cases_eq q n) [
    | inl is ↦ subst (λ t. times place (numbers_of (set lists n new) t) ≡ times place (numbers_of lists t) + one_if n t) (sym is)
        (omega (arith, ap (times place) at_n, times_push place place (numbers_of lists n), one_same place, one_same n))
    | inr ne ↦ omega (arith, ap (times place) (elsewhere q ne), one_other n q (λ e. ne (sym e)))
  ]

  pub keeps : (q r : ℕ) → r ≢ place → times r (numbers_of (set lists n new) q) ≡ times r (numbers_of lists q)
  keeps q r other = elim (cases_eq q n) [
    | inl is ↦ subst (λ t. times r (numbers_of (set lists n new) t) ≡ times r (numbers_of lists t)) (sym is)
        (omega (arith, ap (times r) at_n, times_push r place (numbers_of lists n), one_other place r (λ e. other (sym e))))
    | inr ne ↦ ap (times r) (elsewhere q ne)
  ]

-- ---- the lists of the first places

module _ (depends : List (Vec ℕ)) (i : ℕ) (numbers : Vec ℕ) where
  numbers_before : (r : ℕ) → r < i → r < length depends → numbers_of (take i depends) r ≡ numbers_of depends r
  numbers_before r lt within = numbers_same (take i depends) depends r
      (slice_get-get_or (take i depends) r numbers (omega (arith, lt, within, length-take i depends))
      ∙ ap Some (get_or-take i depends r numbers lt) ∙ sym (slice_get-get_or depends r numbers within))

  numbers_after : (r : ℕ) → i ≤ r → numbers_of (take i depends) r ≡ []
  numbers_after r past = numbers_past (take i depends) r (omega (arith, past, length-take i depends))

module _ (depends : List (Vec ℕ)) (i : ℕ) (numbers : Vec ℕ) (lt : i < length depends) (read : numbers ≡ get_or depends i numbers) where
  here_now : numbers_of (take (i + 1) depends) i ≡ numbers.items
  here_now = numbers_of_read (take (i + 1) depends) i numbers (omega (arith, lt, length-take (i + 1) depends))
      (read ∙ sym (get_or-take (i + 1) depends i numbers (omega arith)))

  same_now : (r : ℕ) → r ≢ i → numbers_of (take (i + 1) depends) r ≡ numbers_of (take i depends) r
  same_now r other = elim (cases_lt r i) [
    | inl before ↦
        numbers_before depends (i + 1) numbers r (omega (arith, before)) (omega (arith, before, lt))
        ∙ sym (numbers_before depends i numbers r before (omega (arith, before, lt)))
    | inr past ↦ numbers_after depends (i + 1) numbers r (omega (arith, past, other)) ∙ sym (numbers_after depends i numbers r past)
  ]

  -- the place at i is added to the lists of those that it depends on
  pub listed_more : (before after : List (Vec ℕ)) → ((q r : ℕ) → times r (numbers_of before q) ≡ times q (numbers_of (take i depends) r))
      → ((q : ℕ) → times i (numbers_of after q) ≡ times i (numbers_of before q) + times q numbers.items)
      → ((q r : ℕ) → r ≢ i → times r (numbers_of after q) ≡ times r (numbers_of before q))
      → (q r : ℕ) → times r (numbers_of after q) ≡ times q (numbers_of (take (i + 1) depends) r)
  listed_more before after so_far here others q r = elim (cases_eq r i) [
    | inl is ↦ subst (λ t. times t (numbers_of after q) ≡ times q (numbers_of (take (i + 1) depends) t)) (sym is)
        (omega (arith, here q, so_far q i, ap (times q) (numbers_after depends i numbers i (omega arith)), ap (times q) here_now))
    | inr ne ↦ omega (arith, others q r ne, so_far q r, ap (times q) (same_now r ne))
  ]
