use Rattle.std.proofs.Common.{◌≡◌, take}
use Rattle.mof_values.specs.Fold.{fold_case}
use Rattle.depend_order.proofs.names.write_fold.Given as goal

abbrev pub invariant-loop-c : goal.invariant-loop-c
invariant-loop-c l = l.fold.items ≡ fold_case (take l.c-index l.c-items)
