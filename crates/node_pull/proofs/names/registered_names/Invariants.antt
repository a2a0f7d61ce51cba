use Rattle.std.proofs.Common.{◌≡◌, ◌++◌, filter, length, map, not}
use Rattle.node_pull.specs.Names.{is_among, registered_names}
use Rattle.node_pull.proofs.names.registered_names.Given as goal

abbrev pub invariant-loop-left : goal.invariant-loop-left
invariant-loop-left l = registered_names l.meta ≡ l.names.items ++ filter (λ name. not (is_among l.meta.names name)) (map (λ partial. partial.name) l.left)

abbrev pub decreases-loop-left : goal.decreases-loop-left
decreases-loop-left l = length l.left
