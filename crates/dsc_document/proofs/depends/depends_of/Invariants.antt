use Rattle.std.proofs.Common.{◌≡◌, filter_map, take}
use Rattle.mof_values.specs.Values.{text_of_scalar}
use Rattle.dsc_document.proofs.depends.depends_of.Given as goal

abbrev pub invariant-loop-scalar : goal.invariant-loop-scalar
invariant-loop-scalar l = l.names.items ≡ filter_map text_of_scalar (take l.scalar-index l.scalar-items)
