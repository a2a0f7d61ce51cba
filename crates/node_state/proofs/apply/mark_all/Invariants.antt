use Rattle.std.proofs.Common.{◌≡◌, ◌++◌, map, take, drop}
use Rattle.node_state.specs.Table.{marked}
use Rattle.node_state.proofs.apply.mark_all.Given as goal

abbrev pub invariant-loop-kept : goal.invariant-loop-kept
invariant-loop-kept l = l.reports ≡ map (marked l.job) (take l.kept-index l.initial.reports) ++ drop l.kept-index l.initial.reports
