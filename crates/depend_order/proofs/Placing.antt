-- What the counts and the ready places say of the order so far, and of the places that are left.
use Rattle.std.proofs.Common.{◌≡◌, inl, inr, ℕ, zero, suc, ◌+◌, ◌<◌, ◌≤◌, List, [], ◌∷◌, ◌++◌, All, length, get_or, map, refl, sym, ◌∙◌, ap, arith, length-append}
use Rattle.std.proofs.lemmas.Bool.{cases_eq, cases_lt}
use Rattle.std.proofs.lemmas.List.{get_or_default, get_or_past, length-map}
use Rattle.std.proofs.lemmas.Option.{slice_get_past}
use Rattle.std.specs.Global.{Vec}
use Rattle.std.specs.Option.{option_map_or}
use Rattle.std.specs.Prelude.{slice_index, vec_len}
use Rattle.depend_order.specs.Cycle.{DependsOn, IsLeft, IsLeastLeft}
use Rattle.depend_order.specs.Numbers.{numbers_of, Lists, AreBelow}
use Rattle.depend_order.specs.Order.{IsReady, IsNext, IsEarliestReady, IsOrder}
use Rattle.depend_order.specs.Counts.{AreCounted, AreDependents, IsReadied, IsStuck, times, none_left}
use Rattle.depend_order.proofs.NumberLemmas.{number_below}
use Rattle.depend_order.proofs.Orders.{earliest_count, earliest_push, once_earliest, stopped}
use Rattle.depend_order.proofs.Times.{one_if, times_push, times_has, has_times, none_is, none_not, none_at_most, none_means, none_waits, all_stand, first_waits, waits_push, waits_all}

-- an empty list has no place
pub times_none : (r : ℕ) (list : List ℕ) → length list ≡ 0 → times r list ≡ 0
times_none r [] none = refl
times_none r (q ∷ list) none = absurd (omega (arith, none))

-- a place past the end depends on nothing
pub numbers_past : (depends : List (Vec ℕ)) (r : ℕ) → length depends ≤ r → numbers_of depends r ≡ []
numbers_past depends r past = ap (λ o. option_map_or (λ v. v.items) o []) (slice_get_past depends r past)

-- those that depend on a place are places
pub dependents_below : (depends dependents : List (Vec ℕ)) (q : ℕ) → AreDependents depends dependents → All (λ r. r < length depends) (numbers_of dependents q)
dependents_below depends dependents q are k d within =
    let r = get_or (numbers_of dependents q) k d in
    let some : 1 ≤ times r (numbers_of dependents q) = times_has r (numbers_of dependents q) (k, within, get_or_own (numbers_of dependents q) k d r within) in
    elim (cases_lt r (length depends)) [
      | inl lt ↦ lt
      | inr past ↦ absurd (omega (arith, some, are.listed q r, ap (times q) (numbers_past depends r past)))
    ]
  where
    get_or_own : (xs : List ℕ) (i a b : ℕ) → i < length xs → get_or xs i b ≡ get_or xs i a
    get_or_own xs i a b lt = get_or_default xs i b a lt

module _ (depends : List (Vec ℕ)) (order waiting ready : List ℕ) (counted : AreCounted depends order waiting) (readied : IsReadied waiting order ready) where
  -- a ready place stands once among those that wait for none
  pub ready_once : (r : ℕ) → IsReady (length depends) (DependsOn (Lists depends)) order r → times r ready ≡ 1
  ready_once r is =
      let none : slice_index waiting r ≡ 0 = counted.counts r ∙ all_stand order (numbers_of depends r) (λ k q at. is.met q (k, at)) in
      let absent : times r order ≡ 0 = elim (cases_eq (times r order) 0) [
        | inl none ↦ none
        | inr some ↦ absurd (is.absent (has_times r order (omega (arith, some))))
      ] in
      omega (arith, readied.each r (omega (arith, is.is_place, counted.size)), none_is (slice_index waiting r) none, absent)

  module _ (r : ℕ) (some : 1 ≤ times r ready) where
    pub ready_place : r < length waiting
    ready_place = elim (cases_lt r (length waiting)) [
      | inl lt ↦ lt
      | inr past ↦ absurd (omega (arith, some, readied.no_others r past))
    ]

    pub ready_free : times r order ≡ 0
    ready_free = omega (arith, some, readied.each r ready_place, none_at_most (slice_index waiting r))

    ready_none : slice_index waiting r ≡ 0
    ready_none = none_means (slice_index waiting r) (omega (arith, some, readied.each r ready_place))

    -- the least of them is next
    pub ready_next : ((s : ℕ) → 1 ≤ times s ready → r ≤ s) → IsNext (length depends) (DependsOn (Lists depends)) order r
    ready_next least = record {
      ready = record {
        is_place = omega (arith, ready_place, counted.size);
        absent = λ has. omega (arith, times_has r order has, ready_free);
        met = λ q named. none_waits order (numbers_of depends r) (sym (counted.counts r) ∙ ready_none) named.0 q named.1;
      };
      least = λ s is. least s (omega (arith, ready_once s is));
    }

    -- there is a place left for it in the order
    pub place_left : ((s : ℕ) → 1 ≤ times s ready → r ≤ s) → IsEarliestReady (length depends) (DependsOn (Lists depends)) order → length order + 1 ≤ length depends
    place_left least earliest =
        let more = earliest_push (length depends) (DependsOn (Lists depends)) order r earliest (ready_next least) in
        omega (arith, earliest_count (length depends) (DependsOn (Lists depends)) (order ++ r ∷ []) more, length-append order (r ∷ []))

    -- the place goes to the end of the order, and those that depend on it wait for one less
    module _ (dependents : List (Vec ℕ)) (are : AreDependents depends dependents) (lowered left now : List ℕ) (size : length lowered ≡ length waiting)
        (lowers : (s : ℕ) → slice_index lowered s + times s (numbers_of dependents r) ≡ slice_index waiting s)
        (taken : (s : ℕ) → times s left + one_if r s ≡ times s ready)
        (readies : (s : ℕ) → times s now + none_left (slice_index waiting s) ≡ times s left + none_left (slice_index lowered s)) where
      pub counted_push : AreCounted depends (order ++ r ∷ []) lowered
      counted_push = record {
        size = size ∙ counted.size;
        counts = λ s. omega (arith, lowers s, are.listed r s, counted.counts s, waits_push order r (numbers_of depends s) ready_free);
      }

      pub readied_push : IsReadied lowered (order ++ r ∷ []) now
      readied_push = record {
        each = λ s lt. omega (arith, readies s, taken s, times_push s r order, readied.each s (omega (arith, lt, size)));
        no_others = λ s past.
            let old : slice_index waiting s ≡ 0 = get_or_past waiting s 0 (omega (arith, past, size)) in
            let new : slice_index lowered s ≡ 0 = get_or_past lowered s 0 past in
            omega (arith, readies s, none_is (slice_index waiting s) old, none_is (slice_index lowered s) new, taken s, times_push s r order, readied.no_others s (omega (arith, past, size)));
      }

    -- no place waits for more than it lists
    pub enough : (dependents : List (Vec ℕ)) → AreDependents depends dependents → (s : ℕ) → times s (numbers_of dependents r) ≤ slice_index waiting s
    enough dependents are s = omega (arith, are.listed r s, counted.counts s, waits_push order r (numbers_of depends s) ready_free)

  -- ---- at the end

  module _ (earliest : IsEarliestReady (length depends) (DependsOn (Lists depends)) order) (none : (r : ℕ) → times r ready ≡ 0) where
    pub all_placed : ((r : ℕ) → r < length waiting → slice_index waiting r ≡ 0) → IsOrder (length depends) (DependsOn (Lists depends)) order
    all_placed no_more = record {
      all = λ r lt.
          let place : r < length waiting = omega (arith, lt, counted.size) in
          has_times r order (omega (arith, readied.each r place, none r, none_is (slice_index waiting r) (no_more r place)));
      once = once_earliest (length depends) (DependsOn (Lists depends)) order earliest;
      earliest = earliest;
    }

    waits_left : (r : ℕ) → r < length depends → 0 < slice_index waiting r → IsLeft (length depends) (Lists depends) r
    waits_left r place waits = record {
      is_place = place;
      unplaced = λ other also has.
          let there = stopped (length depends) (DependsOn (Lists depends)) order earliest (λ s is. omega (arith, ready_once s is, none s)) other also r has in
          omega (arith, times_has r order there, readied.each r (omega (arith, place, counted.size)), none_not (slice_index waiting r) waits);
    }

    left_waits : (r : ℕ) → IsLeft (length depends) (Lists depends) r → 0 < slice_index waiting r
    left_waits r left = elim (cases_eq (slice_index waiting r) 0) [
      | inl is ↦ absurd (left.unplaced order earliest
          (has_times r order (omega (arith, readied.each r (omega (arith, left.is_place, counted.size)), none r, none_is (slice_index waiting r) is))))
      | inr ne ↦ omega (arith, ne)
    ]

    waits_on : AreBelow (length depends) depends → (r : ℕ) → IsLeft (length depends) (Lists depends) r
        → (k : ℕ) × (s : ℕ) × Lists depends r k s × (0 < slice_index waiting s)
    waits_on below r left =
        let one = first_waits order (numbers_of depends r) (omega (arith, left_waits r left, counted.counts r)) in
        let place = number_below (length depends) depends r one.0 one.1 below one.2 in
        let waits : 0 < slice_index waiting one.1 = elim (cases_eq (slice_index waiting one.1) 0) [
          | inl is ↦ absurd (omega (arith, readied.each one.1 (omega (arith, place, counted.size)), none one.1, one.3, none_is (slice_index waiting one.1) is))
          | inr ne ↦ omega (arith, ne)
        ] in
        (one.0, one.1, one.2, waits)

    pub stuck : AreBelow (length depends) depends → IsStuck depends waiting
    stuck below = record { size = counted.size; left = waits_left; waits = left_waits; goes_on = waits_on below }

    pub least_left : (r : ℕ) → r < length waiting → 0 < slice_index waiting r → ((s : ℕ) → s < r → slice_index waiting s ≡ 0) → IsLeastLeft (length depends) (Lists depends) r
    least_left r place waits before = record {
      left = waits_left r (omega (arith, place, counted.size)) waits;
      least = λ s left. elim (cases_lt s r) [
        | inl lt ↦ absurd (omega (arith, before s lt, left_waits s left))
        | inr past ↦ past
      ];
    }

-- ---- at the beginning

count_at : (depends : List (Vec ℕ)) (r : ℕ) → slice_index (map (λ (v : Vec ℕ). vec_len v) depends) r ≡ length (numbers_of depends r)
count_at [] r = get_or_past (map (λ (v : Vec ℕ). vec_len v) []) r 0 (omega arith) ∙ sym (ap length (numbers_past [] r (omega arith)))
count_at (numbers ∷ depends) zero = omega (arith, numbers.ok)
count_at (numbers ∷ depends) (suc r) = count_at depends r

-- before the first place each waits for all that it lists
pub counted_first : (depends : List (Vec ℕ)) (waiting : List ℕ) → waiting ≡ map (λ (v : Vec ℕ). vec_len v) depends → AreCounted depends [] waiting
counted_first depends waiting is = record {
  size = ap length is ∙ length-map depends (λ (v : Vec ℕ). vec_len v);
  counts = λ r. ap (λ (xs : List ℕ). slice_index xs r) is ∙ count_at depends r ∙ sym (waits_all (numbers_of depends r));
}
