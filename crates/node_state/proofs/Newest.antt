-- The newest reports.
use Rattle.std.proofs.Common.{◌≡◌, ℕ, suc, ◌-◌, ◌<◌, ◌≤◌, List, [], ◌∷◌, length, drop, sym, ap, arith}
use Rattle.std.specs.List.{remove}
use Rattle.node_state.specs.declared.node.Kept.{Kept}
use Rattle.node_state.specs.Table.{newest}
use Rattle.node_state.specs.declared.limits.TheConstants.{OLDER_REPORTS}

-- an older one may go where more are left
pub newest_without_first : (xs : List Kept) → OLDER_REPORTS < length xs → newest OLDER_REPORTS (remove xs 0) ≡ newest OLDER_REPORTS xs
newest_without_first [] long = absurd (omega arith)
newest_without_first (x ∷ xs) long =
    let next : suc (length xs) - OLDER_REPORTS ≡ suc (length xs - OLDER_REPORTS) = omega (arith, long) in
    sym (ap (λ (n : ℕ). drop n (x ∷ xs)) next)

pub newest_of_few : (xs : List Kept) → length xs ≤ OLDER_REPORTS → newest OLDER_REPORTS xs ≡ xs
newest_of_few xs few = let none : length xs - OLDER_REPORTS ≡ 0 = omega (arith, few) in ap (λ (n : ℕ). drop n xs) none
