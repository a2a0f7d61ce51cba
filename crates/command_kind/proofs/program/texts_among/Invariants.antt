use Rattle.std.proofs.Common.{◌≡◌, filter_map, take}
use Rattle.mof_values.specs.Values.{text_of_scalar}
use Rattle.command_kind.proofs.program.texts_among.Given as goal

-- the texts among the scalars that were passed
abbrev pub invariant-loop-scalar : goal.invariant-loop-scalar
invariant-loop-scalar l = l.texts.items ≡ filter_map text_of_scalar (take l.scalar-index l.scalars)
