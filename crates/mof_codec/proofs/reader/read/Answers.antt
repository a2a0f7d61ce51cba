use Rattle.std.proofs.Common.{List}
use Rattle.std.specs.Str.{chars}
use Rattle.mof_values.specs.declared.instance.Instance.{Instance}
use Rattle.mof_syntax.specs.Limits.{Spells}
use Rattle.mof_codec.proofs.OnlyRefused.{no_instances}
use Rattle.mof_codec.proofs.reader.read.Goals as goal

pub returns-in-Ok-None-clause-only : goal.returns-in-Ok-None-clause-only
returns-in-Ok-None-clause-only c =
    let none : (is : List Instance) → Spells (chars c.as_str-text.result.now) is → ⊥ = rw c.in-Ok-None.field-0-is at c.in-Ok-None.ensures.none in
    λ other. no_instances _ _ c.in-Ok.ensures.ok (rw c.as_str-text.ensures.value at none)
