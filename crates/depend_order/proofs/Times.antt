-- How often a place stands in a list, and how many of some numbers stand nowhere in it.
use Rattle.std.proofs.Common.{◌≡◌, inl, inr, ℕ, zero, suc, ◌+◌, ◌<◌, ◌≤◌, cond, List, [], ◌∷◌, ◌++◌, Some, length, get_or, refl, sym, ap, subst, arith}
use Rattle.std.proofs.lemmas.Bool.{cases_eq, eq-eqb, ne_eqb, cond-true, cond-false}
use Rattle.std.proofs.lemmas.List.Elements.{Contains-append_right}
use Rattle.std.proofs.lemmas.List.Sums.{sum_by-cons, sum_by_push, get_or-le-sum_by}
use Rattle.std.proofs.lemmas.Option.{none-some, same_Some}
use Rattle.std.specs.Prelude.{Contains, nat_eq, slice_get}
use Rattle.depend_order.specs.Counts.{times, waits_for, none_left}

-- 1 where the numbers are equal
abbrev pub one_if : ℕ → ℕ → ℕ
one_if q r = cond (nat_eq q r) 1 0

pub one_same : (r : ℕ) → one_if r r ≡ 1
one_same r = cond-true (nat_eq r r) 1 0 (eq-eqb r r refl)

pub one_other : (q r : ℕ) → (q ≡ r → ⊥) → one_if q r ≡ 0
one_other q r ne = cond-false (nat_eq q r) 1 0 (ne_eqb q r ne)

pub times-cons : (r q : ℕ) (list : List ℕ) → times r (q ∷ list) ≡ one_if q r + times r list
times-cons r q list = sum_by-cons (λ x. one_if x r) q list

pub times_push : (r q : ℕ) (list : List ℕ) → times r (list ++ q ∷ []) ≡ times r list + one_if q r
times_push r q list = sum_by_push (λ x. one_if x r) list q

pub times_has : (r : ℕ) (list : List ℕ) → Contains list r → 1 ≤ times r list
times_has r list has =
    let h : one_if (get_or list has.0 r) r ≤ times r list = get_or-le-sum_by (λ x. one_if x r) list has.0 r has.1 in
    let here : one_if r r ≤ times r list = subst (λ x. one_if x r ≤ times r list) has.2 h in
    omega (arith, here, one_same r)

pub has_times : (r : ℕ) (list : List ℕ) → 1 ≤ times r list → Contains list r
has_times r [] some = absurd (omega (arith, some))
has_times r (q ∷ list) some = elim (cases_eq q r) [
  | inl same ↦ (0, omega arith, same)
  | inr ne ↦ Contains-append_right (q ∷ []) list r (has_times r list (omega (arith, some, times-cons r q list, one_other q r ne)))
]

-- ---- what waits

pub none_is : (count : ℕ) → count ≡ 0 → none_left count ≡ 1
none_is count is = cond-true (nat_eq count 0) 1 0 (eq-eqb count 0 is)

pub none_not : (count : ℕ) → 1 ≤ count → none_left count ≡ 0
none_not count some = cond-false (nat_eq count 0) 1 0 (ne_eqb count 0 (λ is. omega (arith, some, is)))

pub none_at_most : (count : ℕ) → none_left count ≤ 1
none_at_most count = elim (cases_eq count 0) [
  | inl is ↦ omega (arith, none_is count is)
  | inr ne ↦ omega (arith, none_not count (omega (arith, ne)))
]

pub none_means : (count : ℕ) → 1 ≤ none_left count → count ≡ 0
none_means count some = elim (cases_eq count 0) [
  | inl is ↦ is
  | inr ne ↦ absurd (omega (arith, some, none_not count (omega (arith, ne))))
]

pub waits-cons : (order : List ℕ) (q : ℕ) (numbers : List ℕ) → waits_for order (q ∷ numbers) ≡ none_left (times q order) + waits_for order numbers
waits-cons order q numbers = sum_by-cons (λ x. none_left (times x order)) q numbers

pub waits_all : (numbers : List ℕ) → waits_for [] numbers ≡ length numbers
waits_all [] = refl
waits_all (q ∷ numbers) = omega (arith, waits-cons [] q numbers, none_is (times q []) refl, waits_all numbers)

-- a place that waits for none has each of its dependencies in the order
pub none_waits : (order numbers : List ℕ) → waits_for order numbers ≡ 0 → (k q : ℕ) → slice_get numbers k ≡ Some q → Contains order q
none_waits order [] none k q at = absurd (none-some q at)
none_waits order (n ∷ numbers) none zero q at = subst (λ x. Contains order x) (same_Some n q at) (elim (cases_eq (times n order) 0) [
  | inl is ↦ absurd (omega (arith, waits-cons order n numbers, none_is (times n order) is, none))
  | inr ne ↦ has_times n order (omega (arith, ne))
])
none_waits order (n ∷ numbers) none (suc k) q at = none_waits order numbers (omega (arith, waits-cons order n numbers, none)) k q at

pub all_stand : (order numbers : List ℕ) → ((k q : ℕ) → slice_get numbers k ≡ Some q → Contains order q) → waits_for order numbers ≡ 0
all_stand order [] stand = refl
all_stand order (n ∷ numbers) stand =
    omega (arith, waits-cons order n numbers, none_not (times n order) (times_has n order (stand 0 n refl)), all_stand order numbers (λ k q at. stand (suc k) q at))

-- a place that waits has a first dependency that stands nowhere in the order
pub first_waits : (order numbers : List ℕ) → 1 ≤ waits_for order numbers
    → (k : ℕ) × (q : ℕ) × (slice_get numbers k ≡ Some q) × (times q order ≡ 0) × ((j p : ℕ) → j < k → slice_get numbers j ≡ Some p → Contains order p)
first_waits order [] some = absurd (omega (arith, some))
first_waits order (n ∷ numbers) some = elim (cases_eq (times n order) 0) [
  | inl is ↦ (0, n, refl, is, λ j p lt. absurd (omega (arith, lt)))
  | inr ne ↦
      let more = first_waits order numbers (omega (arith, some, waits-cons order n numbers, none_not (times n order) (omega (arith, ne)))) in
      (suc more.0, more.1, more.2, more.3, later more.0 (has_times n order (omega (arith, ne))) more.4)
]
  where
    later : (k : ℕ) → Contains order n → ((j p : ℕ) → j < k → slice_get numbers j ≡ Some p → Contains order p)
        → (j p : ℕ) → j < suc k → slice_get (n ∷ numbers) j ≡ Some p → Contains order p
    later k here rest zero p lt at = subst (λ (x : ℕ). Contains order x) (same_Some n p at) here
    later k here rest (suc j) p lt at = rest j p (omega (arith, lt)) at

-- a place that is put is waited for no more
pub waits_push : (order : List ℕ) (r : ℕ) (numbers : List ℕ) → times r order ≡ 0 → waits_for (order ++ r ∷ []) numbers + times r numbers ≡ waits_for order numbers
waits_push order r [] free = refl
waits_push order r (n ∷ numbers) free =
    omega (arith, waits-cons (order ++ r ∷ []) n numbers, waits-cons order n numbers, times-cons r n numbers, here, waits_push order r numbers free)
  where
    here : none_left (times n (order ++ r ∷ [])) + one_if n r ≡ none_left (times n order)
    here = elim (cases_eq n r) [
      | inl same ↦
          let now = none_not (times n (order ++ r ∷ [])) (omega (arith, times_push n r order, subst (λ x. one_if r x ≡ 1) (sym same) (one_same r))) in
          let before = none_is (times n order) (subst (λ x. times x order ≡ 0) (sym same) free) in
          omega (arith, now, before, subst (λ x. one_if x r ≡ 1) (sym same) (one_same r))
      | inr ne ↦
          let kept : times n (order ++ r ∷ []) ≡ times n order = omega (arith, times_push n r order, one_other r n (λ e. ne (sym e))) in
          omega (arith, ap none_left kept, one_other n r ne)
    ]
