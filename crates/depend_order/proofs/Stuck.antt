-- Where the order is stuck, each place that is left leads on to another.
use Rattle.std.proofs.Common.{◌≡◌, ℕ, ◌<◌, List, Some, length, arith}
use Rattle.std.specs.Global.{Vec}
use Rattle.std.specs.Prelude.{slice_get, slice_index}
use Rattle.depend_order.specs.Counts.{IsStuck}
use Rattle.depend_order.specs.Cycle.{IsFirstLeft, IsLeft}
use Rattle.depend_order.specs.Numbers.{AreBelow, Lists, numbers_of}
use Rattle.depend_order.proofs.NumberLemmas.{number_below}

module _ (depends : List (Vec ℕ)) (waiting : List ℕ) (below : AreBelow (length depends) depends) (stuck : IsStuck depends waiting)
    (r : ℕ) (numbers : List ℕ) (read : numbers_of depends r ≡ numbers) where
  pub first_step : (s : ℕ) → ((k : ℕ) × (slice_get numbers k ≡ Some s) × (0 < slice_index waiting s)
      × ((j q : ℕ) → j < k → slice_get numbers j ≡ Some q → slice_index waiting q ≡ 0)) → IsFirstLeft (length depends) (Lists depends) r s
  first_step s found =
      let means : Lists depends r found.0 s = rw read found.1 in
      record {
        at = found.0;
        means = means;
        left = stuck.left s (number_below (length depends) depends r found.0 s below means) found.2;
        first = λ j q lt named left.
            let at_j : slice_get numbers j ≡ Some q = rw read at named in
            omega (arith, found.3 j q lt at_j, stuck.waits q left);
      }

  pub some_step : IsLeft (length depends) (Lists depends) r → ((k q : ℕ) → slice_get numbers k ≡ Some q → slice_index waiting q ≡ 0) → ⊥
  some_step left none =
      let on = stuck.goes_on r left in
      let at_k : slice_get numbers on.0 ≡ Some on.1 = rw read at on.2 in
      omega (arith, none on.0 on.1 at_k, on.3)
