-- Places whose dependencies are listed have an order or a cycle.
use Rattle.std.proofs.Common.{◌≡◌, ◌⊎◌, inl, inr, ℕ, zero, suc, ◌+◌, ◌<◌, ◌≤◌, List, [], ◌∷◌, ◌++◌, Some, length, refl, sym, ap, subst, arith, length-append}
use Rattle.std.proofs.lemmas.Bool.{cases_eq, cases_lt}
use Rattle.std.proofs.lemmas.List.Elements.{Contains-push_cases}
use Rattle.std.specs.Prelude.{Contains, slice_get}
use Rattle.dsc_terms.specs.Lists.{IsOnce}
use Rattle.depend_order.specs.Counts.{times, waits_for}
use Rattle.depend_order.specs.Cycle.{DependsOn, IsCycle, IsFirstLeft, IsLeastLeft, IsLeft, IsWalk}
use Rattle.depend_order.specs.Order.{IsEarliestReady, IsNext, IsOrder, IsReady}
use Rattle.depend_order.proofs.Orders.{earliest_count, earliest_none, earliest_push, once_count, once_earliest, stopped}
use Rattle.depend_order.proofs.Splits.{split_at}
use Rattle.depend_order.proofs.Times.{all_stand, first_waits, has_times, none_waits, times_has}
use Rattle.depend_order.proofs.Walks.{once_push, walk_push, walk_start}

-- r's k-th number is q
abbrev pub NumbersName : (ℕ → List ℕ) → ℕ → ℕ → ℕ → Type 0
NumbersName numbers r k q = slice_get (numbers r) k ≡ Some q

-- a walk that comes to one of its places again closes a cycle
closes : (count : ℕ) (names : ℕ → ℕ → ℕ → Type 0) (walk : List ℕ) (r : ℕ) (lead rest : List ℕ) → walk ≡ lead ++ r ∷ rest → IsOnce walk
    → IsWalk count names (walk ++ r ∷ []) → IsCycle count names (r ∷ rest)
closes count names walk r lead rest is once so_far = record {
  lead = lead;
  first = r;
  rest = rest;
  is = refl;
  once = subst IsOnce is once;
  walk = subst (IsWalk count names) (ap (λ (l : List ℕ). l ++ r ∷ []) is) so_far;
}

module _ (count : ℕ) (numbers : ℕ → List ℕ) where
  abbrev Depends : ℕ → ℕ → Type 0
  Depends = DependsOn (NumbersName numbers)

  -- ---- the longest earliest-ready list

  is_ready : (list : List ℕ) (r : ℕ) → r < count → IsReady count Depends list r ⊎ (IsReady count Depends list r → ⊥)
  is_ready list r place = elim (cases_eq (times r list) 0) [
    | inl free ↦ elim (cases_eq (waits_for list (numbers r)) 0) [
      | inl none ↦ inl (record {
        is_place = place;
        absent = λ has. omega (arith, times_has r list has, free);
        met = λ q named. none_waits list (numbers r) none named.0 q named.1;
      })
      | inr some ↦ inr (λ ready. some (all_stand list (numbers r) (λ k q at. ready.met q (k, at))))
    ]
    | inr placed ↦ inr (λ ready. ready.absent (has_times r list (omega (arith, placed))))
  ]

  next_below : (list : List ℕ) (n : ℕ) → n ≤ count → ((r : ℕ) × IsNext count Depends list r) ⊎ ((r : ℕ) → r < n → IsReady count Depends list r → ⊥)
  next_below list zero within = inr (λ r lt ready. omega (arith, lt))
  next_below list (suc n) within = elim (next_below list n (omega (arith, within))) [
    | inl next ↦ inl next
    | inr none ↦ elim (is_ready list n (omega (arith, within))) [
      | inl ready ↦ inl (
        n,
        record {
          ready = ready;
          least = λ s also. elim (cases_lt s n) [
            | inl lt ↦ absurd (none s lt also)
            | inr past ↦ past
          ];
        },
      )
      | inr not ↦ inr (λ r lt ready. elim (cases_eq r n) [
        | inl is ↦ not (subst (IsReady count Depends list) is ready)
        | inr ne ↦ none r (omega (arith, lt, ne)) ready
      ])
    ]
  ]

  -- an earliest-ready list after which nothing is ready
  record IsLongest (list : List ℕ) : Type 0 where
    earliest : IsEarliestReady count Depends list
    stuck : (r : ℕ) → IsReady count Depends list r → ⊥

  longest : (fuel : ℕ) (list : List ℕ) → IsEarliestReady count Depends list → count < length list + fuel → (found : List ℕ) × IsLongest found
  longest zero list earliest long = absurd (omega (arith, long, earliest_count count Depends list earliest))
  longest (suc fuel) list earliest long = elim (next_below list count (omega arith)) [
    | inl next ↦ longest fuel (list ++ next.0 ∷ []) (earliest_push count Depends list next.0 earliest next.1) (omega (arith, long, length-append list (next.0 ∷ [])))
    | inr none ↦ (list, record { earliest = earliest; stuck = λ r ready. none r ready.is_place ready })
  ]

  -- ---- what is left

  module _ (below : (r k q : ℕ) → NumbersName numbers r k q → q < count) (list : List ℕ) (is : IsLongest list) where
    left_absent : (r : ℕ) → IsLeft count (NumbersName numbers) r → times r list ≡ 0
    left_absent r left = elim (cases_eq (times r list) 0) [
      | inl free ↦ free
      | inr placed ↦ absurd (left.unplaced list is.earliest (has_times r list (omega (arith, placed))))
    ]

    absent_left : (r : ℕ) → r < count → times r list ≡ 0 → IsLeft count (NumbersName numbers) r
    absent_left r place free = record {
      is_place = place;
      unplaced = λ other also has. omega (arith, times_has r list (stopped count Depends list is.earliest is.stuck other also r has), free);
    }

    least_below : (n : ℕ) → n ≤ count → ((r : ℕ) × IsLeastLeft count (NumbersName numbers) r) ⊎ ((r : ℕ) → r < n → Contains list r)
    least_below zero within = inr (λ r lt. absurd (omega (arith, lt)))
    least_below (suc n) within = elim (least_below n (omega (arith, within))) [
      | inl least ↦ inl least
      | inr all ↦ elim (cases_eq (times n list) 0) [
        | inl free ↦ inl (
          n,
          record {
            left = absent_left n (omega (arith, within)) free;
            least = λ s left. elim (cases_lt s n) [
              | inl lt ↦ absurd (omega (arith, times_has s list (all s lt), left_absent s left))
              | inr past ↦ past
            ];
          },
        )
        | inr placed ↦ inr (λ r lt. elim (cases_eq r n) [
          | inl same ↦ subst (λ t. Contains list t) (sym same) (has_times n list (omega (arith, placed)))
          | inr ne ↦ all r (omega (arith, lt, ne))
        ])
      ]
    ]

    step : (r : ℕ) → IsLeft count (NumbersName numbers) r → (s : ℕ) × IsFirstLeft count (NumbersName numbers) r s
    step r left = elim (cases_eq (waits_for list (numbers r)) 0) [
      | inl none ↦ absurd (is.stuck r (record {
        is_place = left.is_place;
        absent = λ has. left.unplaced list is.earliest has;
        met = λ q named. none_waits list (numbers r) none named.0 q named.1;
      }))
      | inr some ↦
          let first = first_waits list (numbers r) (omega (arith, some)) in (
            first.1,
            record {
              at = first.0;
              means = first.2;
              left = absent_left first.1 (below r first.0 first.1 first.2) first.3;
              first = λ j q lt named also. omega (arith, times_has q list (first.4 j q lt named), left_absent q also);
            },
          )
    ]

    -- a walk of places that are left comes to one of its places again
    walk_on : (fuel : ℕ) (walk : List ℕ) (r : ℕ) → IsOnce walk → ((q : ℕ) → Contains walk q → q < count) → IsWalk count (NumbersName numbers) (walk ++ r ∷ [])
        → IsLeft count (NumbersName numbers) r → count < length walk + fuel → (cycle : List ℕ) × IsCycle count (NumbersName numbers) cycle
    walk_on zero walk r once inside so_far left long = absurd (omega (arith, long, once_count count walk once inside))
    walk_on (suc fuel) walk r once inside so_far left long = elim (cases_eq (times r walk) 0) [
      | inl free ↦
          let next = step r left in
          walk_on fuel (walk ++ r ∷ []) next.0
          (once_push walk r once (λ has. omega (arith, times_has r walk has, free)))
          (λ q has. elim (Contains-push_cases walk r q has) [
            | inl before ↦ inside q before
            | inr last ↦ subst (λ t. t < count) last left.is_place
          ])
          (walk_push count (NumbersName numbers) walk r next.0 so_far next.1) next.1.left
          (omega (arith, long, length-append walk (r ∷ [])))
      | inr visited ↦
          let split = split_at walk r (has_times r walk (omega (arith, visited))) in
          (r ∷ split.1, closes count (NumbersName numbers) walk r split.0 split.1 split.2 once so_far)
    ]

    of_longest : ((order : List ℕ) × IsOrder count Depends order) ⊎ ((cycle : List ℕ) × IsCycle count (NumbersName numbers) cycle)
    of_longest = elim (least_below count (omega arith)) [
      | inl least ↦ inr (walk_on (count + 1) [] least.0 (λ a s b p has. absurd (omega (arith, ap length p, length-append a (s ∷ b)))) (λ q has. absurd (omega (arith, has.1)))
          (walk_start count (NumbersName numbers) least.0 least.1) least.1.left (omega arith))
      | inr all ↦ inl (list, record { all = all; once = once_earliest count Depends list is.earliest; earliest = is.earliest })
    ]

  pub order_or_cycle : ((r k q : ℕ) → NumbersName numbers r k q → q < count)
      → ((order : List ℕ) × IsOrder count Depends order) ⊎ ((cycle : List ℕ) × IsCycle count (NumbersName numbers) cycle)
  order_or_cycle below =
      let found = longest (count + 1) [] (earliest_none count Depends) (omega arith) in
      of_longest below found.0 found.1
