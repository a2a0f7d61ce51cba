-- Orders and cycles over names that mean the same.
use Rattle.std.proofs.Common.{ℕ, List}
use Rattle.depend_order.specs.Cycle.{DependsOn, IsLeft, IsFirstLeft, IsWalk, IsCycle}
use Rattle.depend_order.specs.Order.{IsReady, IsEarliestReady, IsOrder}

-- what the one names the other names too
abbrev pub Within : (ℕ → ℕ → ℕ → Type 0) → (ℕ → ℕ → ℕ → Type 0) → Type 0
Within names other = (r k q : ℕ) → names r k q → other r k q

ready_over : (count : ℕ) (names other : ℕ → ℕ → ℕ → Type 0) → Within other names → (list : List ℕ) (r : ℕ) → IsReady count (DependsOn names) list r → IsReady count (DependsOn other) list r
ready_over count names other from list r ready = record {
  is_place = ready.is_place;
  absent = ready.absent;
  met = λ q named. ready.met q (named.0, from r named.0 q named.1);
}

earliest_over : (count : ℕ) (names other : ℕ → ℕ → ℕ → Type 0) → Within names other → Within other names → (list : List ℕ) → IsEarliestReady count (DependsOn names) list → IsEarliestReady count (DependsOn other) list
earliest_over count names other to from list earliest a r b p = record {
  ready = ready_over count names other from a r (earliest a r b p).ready;
  least = λ s ready. (earliest a r b p).least s (ready_over count other names to a s ready);
}

pub order_over : (count : ℕ) (names other : ℕ → ℕ → ℕ → Type 0) → Within names other → Within other names → (list : List ℕ) → IsOrder count (DependsOn names) list → IsOrder count (DependsOn other) list
order_over count names other to from list order = record {
  all = order.all;
  once = order.once;
  earliest = earliest_over count names other to from list order.earliest;
}

left_over : (count : ℕ) (names other : ℕ → ℕ → ℕ → Type 0) → Within names other → Within other names → (r : ℕ) → IsLeft count names r → IsLeft count other r
left_over count names other to from r left = record {
  is_place = left.is_place;
  unplaced = λ list earliest. left.unplaced list (earliest_over count other names from to list earliest);
}

first_over : (count : ℕ) (names other : ℕ → ℕ → ℕ → Type 0) → Within names other → Within other names → (r s : ℕ) → IsFirstLeft count names r s → IsFirstLeft count other r s
first_over count names other to from r s step = record {
  at = step.at;
  means = to r step.at s step.means;
  left = left_over count names other to from s step.left;
  first = λ k q lt named left. step.first k q lt (from r k q named) (left_over count other names from to q left);
}

walk_over : (count : ℕ) (names other : ℕ → ℕ → ℕ → Type 0) → Within names other → Within other names → (walk : List ℕ) → IsWalk count names walk → IsWalk count other walk
walk_over count names other to from walk is = record {
  begins = λ r b p. record {
    left = left_over count names other to from r (is.begins r b p).left;
    least = λ s left. (is.begins r b p).least s (left_over count other names from to s left);
  };
  goes_on = λ a r s b p. first_over count names other to from r s (is.goes_on a r s b p);
}

pub cycle_over : (count : ℕ) (names other : ℕ → ℕ → ℕ → Type 0) → Within names other → Within other names → (cycle : List ℕ) → IsCycle count names cycle → IsCycle count other cycle
cycle_over count names other to from cycle is = record {
  lead = is.lead;
  first = is.first;
  rest = is.rest;
  is = is.is;
  once = is.once;
  walk = walk_over count names other to from _ is.walk;
}
