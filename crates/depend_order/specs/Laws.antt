-- What holds of orders and cycles.
use Rattle.std.specs.Prelude.{◌≡◌, ◌⊎◌, ℕ, List}
use Rattle.depend_order.specs.Cycle.{DependsOn, IsCycle, IsClosed}
use Rattle.depend_order.specs.Order.{IsOrder}

abbrev pub AtMostOneOrder : ℕ → (ℕ → ℕ → Type 0) → Type 0
AtMostOneOrder count depends =
    (one other : List ℕ) → IsOrder count depends one → IsOrder count depends other → one ≡ other

abbrev pub AtMostOneCycle : ℕ → (ℕ → ℕ → ℕ → Type 0) → Type 0
AtMostOneCycle count names =
    (one other : List ℕ) → IsCycle count names one → IsCycle count names other → one ≡ other

abbrev pub NeverBoth : ℕ → (ℕ → ℕ → ℕ → Type 0) → Type 0
NeverBoth count names =
    (order cycle : List ℕ) → IsOrder count (DependsOn names) order → IsCycle count names cycle → ⊥

abbrev pub CyclesAreClosed : ℕ → (ℕ → ℕ → ℕ → Type 0) → Type 0
CyclesAreClosed count names =
    (cycle : List ℕ) → IsCycle count names cycle → IsClosed (DependsOn names) cycle

abbrev pub OrderOrCycle : ℕ → (ℕ → ℕ → ℕ → Type 0) → Type 0
OrderOrCycle count names =
    ((order : List ℕ) × IsOrder count (DependsOn names) order) ⊎ ((cycle : List ℕ) × IsCycle count names cycle)
